-- Refusals before anything is done: the disk did not fail, and nothing is in doubt.
use Rattle.std.proofs.Common.{◌≡◌, ◌⊎◌, inl, inr, ℕ, List, Option, None, Some, refl, sym, subst, arith}
use Rattle.board_model.specs.{Durable.{Change, DurableState}, Shapes.Size, declared.{boot_mode.BootMode.BootMode, refusal.Refusal.Refusal}}
use Rattle.board_model.specs.declared.refusal.Refusal.TheVariants.{NoImage, ImageThere, BadShape, Memory}
use Rattle.disk.specs.FaultState.{FaultState}
use Rattle.store.specs.Opens.{CausedRefusal}
use Rattle.board.specs.{Begins.{IsBootRefusal, IsLateRefusal}, Unbooted.{IsStartRefusal, RefusesMode, doubt_by, CountsRefusal}}

-- nothing is in doubt after such a refusal, and the disk did not fail
pub record IsQuiet (e : Refusal) : Type 0 where
  pub no_doubt : (cs : List Change) → doubt_by e cs ≡ None
  pub no_cause : (m : FaultState) → CausedRefusal m e m
  pub no_failure : (n : ℕ) → CountsRefusal n e n

one_is_quiet : (e : Refusal) → (e ≡ ImageThere) ⊎ (e ≡ NoImage) → IsQuiet e
one_is_quiet e (inl h) = rw h (record { no_doubt = λ cs. refl; no_cause = λ m. refl; no_failure = λ n. omega arith })
one_is_quiet e (inr h) = rw h (record { no_doubt = λ cs. refl; no_cause = λ m. refl; no_failure = λ n. omega arith })

pub refusal_is_quiet : (o : Option ℕ) (e : Refusal) → RefusesMode o (Some e) → IsQuiet e
refusal_is_quiet None e h = absurd h
refusal_is_quiet (Some n) e h = one_is_quiet e h.1

-- such a refusal comes first
pub comes_first : (o : Option ℕ) (mode : BootMode) (size : Size) (payloads : List (List ℕ)) (s : DurableState) (e : Refusal) → RefusesMode o (Some e) → IsBootRefusal o mode size payloads s e
comes_first None mode size payloads s e h = absurd h
comes_first (Some n) mode size payloads s e h = h.0

-- where none comes, the state allows the mode
pub none_refuses : (o : Option ℕ) → RefusesMode o None → o ≡ None
none_refuses None h = refl
none_refuses (Some n) h = absurd h

-- and then a later refusal is the boot's
pub comes_late : (o : Option ℕ) (mode : BootMode) (size : Size) (payloads : List (List ℕ)) (s : DurableState) (e : Refusal) → o ≡ None → IsLateRefusal mode size payloads s e → IsBootRefusal o mode size payloads s e
comes_late o mode size payloads s e none late = subst (λ (x : Option ℕ). IsBootRefusal x mode size payloads s e) (sym none) late

-- a board that could not be made
pub start_is_quiet : (size : Size) (payloads : List (List ℕ)) (e : Refusal) → IsStartRefusal size payloads e → IsQuiet e
start_is_quiet size payloads BadShape why = record { no_doubt = λ cs. refl; no_cause = λ m. refl; no_failure = λ n. omega arith }
start_is_quiet size payloads Memory why = record { no_doubt = λ cs. refl; no_cause = λ m. refl; no_failure = λ n. omega arith }
start_is_quiet size payloads e why = absurd why

pub start_is_late : (mode : BootMode) (size : Size) (payloads : List (List ℕ)) (s : DurableState) (e : Refusal) → IsStartRefusal size payloads e → IsLateRefusal mode size payloads s e
start_is_late mode size payloads s BadShape why = why
start_is_late mode size payloads s Memory why = why
start_is_late mode size payloads s e why = absurd why
