-- What a format by a plan makes of a disk: each clause of `format` of the crate `store`. Source: docs/STORE.md,
-- "Formatting".
use Rattle.std.specs.Prelude.{◌≡◌, ◌<◌, Result, Ok, Err, OnOk, IfErr, MatchResult, length}
use Rattle.board_model.specs.Durable.{formatted}
use Rattle.board_model.specs.Shapes.{Size, sectors_of}
use Rattle.board_model.specs.declared.refusal.Refusal.{Refusal}
use Rattle.board_model.specs.declared.refusal.Refusal.TheVariants.{BadShape, AlreadyFormatted, Device}
use Rattle.disk.specs.Facts.{Facts, Passes, Stays, counted}
use Rattle.disk.specs.FaultState.{FaultState}
use Rattle.store.specs.Formats.{WritesHead}
use Rattle.store.specs.Leaves.{LeavesOnly, IsMarked}
use Rattle.planned_store.specs.declared.formats.FormatStep.{FormatStep}
use Rattle.planned_store.specs.declared.formats.FormatStep.TheVariants as formats
use Rattle.planned_store.specs.declared.plans.Plan.{Plan}
use Rattle.planned_store.specs.declared.plans.Plan.TheVariants.{Formatting}
use Rattle.store.specs.Opens.{FormatRefused, FormatCalls, CausedRefusal}

-- what a format whose plan has ended answers
abbrev pub answer_at : FormatStep → Result (Unit {0}) Refusal
answer_at formats.Formatted = Ok tt
answer_at formats.TooSmall = Err BadShape
answer_at formats.Marked = Err AlreadyFormatted
answer_at step = Err Device

abbrev pub formatted_by : Plan → Result (Unit {0}) Refusal
formatted_by (Formatting f) = answer_at f.step
formatted_by plan = Err Device

pub record FormatsTo {D : Type 0} (f : D → Facts) (m : D → FaultState) (size : Size) (old : D) (result : Result (Unit {0}) Refusal) (new : D) : Type 0
  where
    pub ok : OnOk result (LeavesOnly (f new) size formatted)
    pub unmarked : OnOk result (IsMarked (f old).content → ⊥)
    pub no_failure : OnOk result ((f new).failures ≡ (f old).failures)
    pub refused : IfErr result (λ e. FormatRefused (f old) size e (f new))
    pub too_small : length (f old).content < sectors_of size → (result ≡ Err BadShape) × (new ≡ old)
    pub marked : IsMarked (f old).content → Passes (f old) (f new) Stays × ((f new).content ≡ (f old).content)
    pub in_order : WritesHead (f old) (f new)
    pub cause : MatchResult result (λ v. m new ≡ m old) (λ e. CausedRefusal (m old) e (m new))
    pub calls : MatchResult result (λ v. (f new).calls ≡ counted (f old).calls 6) (λ e. FormatCalls e (f old).calls (f new).calls)
