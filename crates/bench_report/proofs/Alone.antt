-- What the clauses of a line say that speak of one kind of line alone.
use Rattle.std.proofs.Common.{◌≡◌, ℕ, ◌≤◌, List, length, Result, Ok, Err, IfOk, OnErr, sym, ap, subst}
use Rattle.std.specs.declared.alloc.AllocError.{AllocError}
use Rattle.board_model.specs.Shapes.{Size}
use Rattle.script_lang.specs.{Lines.IsLineInRange, declared.line.Line.Line}
use Rattle.script_lang.specs.declared.line.Line.TheVariants as lines
use Rattle.report_lines.specs.declared.printed.Answer.{Answer}
use Rattle.simdisk.specs.declared.SimDisk.{SimDisk}
use Rattle.bench_report.specs.{Uncut.KeepsBytes, declared.power.Power.Power}
use Rattle.bench_report.specs.Agree.{is_struck, IsCopyOf, ArmsIts, CutsIts, PokesIts, InspectsIts, StepsEnough}

module _ (line l : Line) where
  pub arms_by : (left : Power) → line ≡ l → ArmsIts l left → ArmsIts line left
  arms_by left is it = subst (λ (x : Line). ArmsIts x left) (sym is) it

  pub cuts_by : (before left : Power) → line ≡ l → CutsIts l before left → CutsIts line before left
  cuts_by before left is it = subst (λ (x : Line). CutsIts x before left) (sym is) it

  pub pokes_by : (before : Power) (did : Result Answer AllocError) (left : Power) → line ≡ l → PokesIts l before did left → PokesIts line before did left
  pokes_by before did left is it = subst (λ (x : Line). PokesIts x before did left) (sym is) it

  pub inspects_by : (before : Power) (did : Result Answer AllocError) → line ≡ l → InspectsIts l before did → InspectsIts line before did
  inspects_by before did is it = subst (λ (x : Line). InspectsIts x before did) (sym is) it

  pub keeps_by : line ≡ l → KeepsBytes l → KeepsBytes line
  keeps_by is it = subst (λ (x : Line). KeepsBytes x) (sym is) it

pub enough_by : (size : Size) (line l : Line) (before : Power) (slots : List (List ℕ)) (did : Result Answer AllocError) (left : Power) (now : List (List ℕ)) → line ≡ l
    → StepsEnough size l before slots did left now → StepsEnough size line before slots did left now
enough_by size line l before slots did left now is it = subst (λ (x : Line). StepsEnough size x before slots did left now) (sym is) it

-- a line that is answered
pub exact_by : (P : Answer → Type 0) (did : Result Answer AllocError) (a : Answer) → did ≡ Ok a → P a → IfOk did P
exact_by P did a is it = subst (λ (x : Result Answer AllocError). IfOk x P) (sym is) it

-- it is refused none; where one is refused, both hold
pub no_refusal : (P : Type 0) (did : Result Answer AllocError) (a : Answer) → did ≡ Ok a → OnErr did P
no_refusal P did a is = subst (λ (x : Result Answer AllocError). OnErr x P) (sym is) tt

pub both_refused : (P Q : Type 0) (did : Result Answer AllocError) → P → OnErr did Q → OnErr did (P × Q)
both_refused P Q (Ok a) p q = tt
both_refused P Q (Err e) p q = (p, q)

-- the ranges of a line
pub few_bytes : (size : Size) (line : Line) (slot : ℕ) (bytes : List ℕ) → line ≡ lines.Payload slot bytes → IsLineInRange size line → length bytes ≤ 1024
few_bytes size line slot bytes is range = (subst (λ (x : Line). IsLineInRange size x) is range).2

-- a board that is matched
pub struck_by : (power p : Power) → power ≡ p → is_struck p ≡ is_struck power
struck_by power p is = sym (ap (λ (x : Power). is_struck x) is)

-- a copy of a board
pub copies_at : (old new d e : SimDisk) → IsCopyOf old new → d ≡ old → e ≡ new → IsCopyOf d e
copies_at old new d e copy is made = subst (λ (x : SimDisk). IsCopyOf x e) (sym is) (subst (λ (x : SimDisk). IsCopyOf old x) (sym made) copy)
