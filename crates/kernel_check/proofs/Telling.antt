-- What is told of every order, put together.
use Rattle.std.proofs.Common.{◌≡◌, ℕ, zero, suc, List, [], ◌∷◌, All, Bool, true, false, Option, None, Some, arith, length, refl, subst}
use Rattle.std.proofs.lemmas.List.Elements.{All-head}
use Rattle.model_board.specs.Boards.{Board, On, Off, Ended}
use Rattle.board_space.specs.{Few.AskedOrders, Space.Asked, declared.bounds.Bound.{Bound, TheVariants.{Unbounded, Preemptions, PowerOns}}}
use Rattle.kernel_check.specs.{Failures.CanFail, Says.{Says, SaysAs}, Tells.{EveryOrder, Holds, HoldsAs, IsOnWith}}
use Rattle.kernel_check.specs.{Verdicts.{fine_by, verdict_of}, declared.facts.{EndKind.EndKind, EndShown.EndShown, Failure.Failure}}
use Rattle.kernel_check.specs.declared.{facts.{Stop.Stop, Verdict.Verdict}, given.FailureKind.FailureKind, looks.Look.Look}
use Rattle.kernel_check.specs.declared.facts.Verdict.TheVariants as verdicts

on_both : (P Q R : List ℕ → Type 0) → ((memory : List ℕ) → P memory → Q memory → R memory) → (b : Board)
    → IsOnWith P b → IsOnWith Q b → IsOnWith R b
on_both P Q R f (On l) p q = f l.machine.memory p q
on_both P Q R f (Off s) p q = p
on_both P Q R f (Ended s) p q = p

-- what follows from two things of a memory that every order shows
pub both_told : (orders : AskedOrders) (P Q R : List ℕ → Type 0) → ((memory : List ℕ) → P memory → Q memory → R memory)
    → EveryOrder orders (IsOnWith P) → EveryOrder orders (IsOnWith Q) → EveryOrder orders (IsOnWith R)
both_told orders P Q R f p q = record {
  ends = λ events last runs end. on_both P Q R f last (p.ends events last runs end) (q.ends events last runs end);
  no_dead_end = p.no_dead_end;
}

-- ---- what a verdict says
fine_says : (bound : Bound) (asked : Asked) (looks : List Look) (kinds : List EndKind) → HoldsAs (record { asked = asked; bound = bound }) looks kinds → SaysAs (fine_by bound) asked looks kinds
fine_says Unbounded asked looks kinds holds = holds
fine_says (Preemptions k) asked looks kinds holds = holds
fine_says (PowerOns n) asked looks kinds holds = holds

-- what is said where failures are told, each of which can come, or none
pub verdict_says : (failures : List Failure) (n : ℕ) (stop : Option Stop) (shows told : Bool) (orders : AskedOrders) (looks : List Look) (kinds : List EndKind)
    → n ≡ length failures → All (λ f. CanFail f.kind orders.asked looks) failures → (told ≡ true → HoldsAs orders looks kinds)
    → SaysAs (verdict_of n stop shows told orders.bound) orders.asked looks kinds
verdict_says [] (suc n) stop shows told orders looks kinds e come holds = absurd (omega (arith, e))
verdict_says (f ∷ fs) (suc n) stop shows told orders looks kinds e come holds = (f.kind, All-head (λ (g : Failure). CanFail g.kind orders.asked looks) f fs come)
verdict_says failures zero (Some stop) shows told orders looks kinds e come holds = tt
verdict_says failures zero None false told orders looks kinds e come holds = tt
verdict_says failures zero None true true orders looks kinds e come holds = fine_says orders.bound orders.asked looks kinds (holds refl)
verdict_says failures zero None true false orders looks kinds e come holds = tt

-- where it says that nothing is wrong
pub says_fine : (bound : Bound) (verdict : Verdict) (asked : Asked) (looks : List Look) → verdict ≡ fine_by bound → Says verdict asked looks → (end : EndShown) × Holds (record { asked = asked; bound = bound }) looks end
says_fine Unbounded verdict asked looks is says =
    let told = subst (λ (v : Verdict). SaysAs v asked looks says.0) is says.1 in
    (told.0.shown, told.2)
says_fine (Preemptions k) verdict asked looks is says =
    let told = subst (λ (v : Verdict). SaysAs v asked looks says.0) is says.1 in
    (told.0.shown, told.2)
says_fine (PowerOns n) verdict asked looks is says =
    let told = subst (λ (v : Verdict). SaysAs v asked looks says.0) is says.1 in
    (told.0.shown, told.2)

-- where it says that a failure was found
pub says_found : (verdict : Verdict) (asked : Asked) (looks : List Look) → verdict ≡ verdicts.Found → Says verdict asked looks → (kind : FailureKind) × CanFail kind asked looks
says_found verdict asked looks is says = subst (λ (v : Verdict). SaysAs v asked looks says.0) is says.1
