-- Lines that are no rows of turns, as far as no armed cut strikes.
use Rattle.std.proofs.Common.{◌≡◌, ◌↔◌, ◌∙◌, Bool, true, false, refl, sym, ℕ, List, Option, None, Some, Result, Ok, Err, IfOk, OnErr, MatchResult}
use Rattle.std.specs.declared.alloc.AllocError.{AllocError}
use Rattle.board_model.specs.{Shapes.Size, declared.{boot_mode.BootMode.BootMode, console_command.ConsoleCommand.ConsoleCommand}}
use Rattle.script_lang.specs.declared.line.Line.{Line}
use Rattle.script_lang.specs.declared.line.Line.TheVariants as lines
use Rattle.report_lines.specs.declared.printed.Answer.{Answer}
use Rattle.report_lines.specs.declared.printed.Printed.TheVariants as printed
use Rattle.bench_report.specs.Agree.{ArmsIts, BoardIs, CutsIts, HadEnough, InspectsIts, IsBench, Matches, PokesIts, StepsEnough}
use Rattle.bench_report.specs.{Uncut.{HasEnough, IsOtherLine, LineLeft, TellsIts}, Bench.{BenchLife, Bench}, Deeds.{IsNoRow, deed_of}, Happens.{SaysEnough, says}}
use Rattle.bench_report.{specs.{Steps.{OnStep, Step}, Views.SimBoard, declared.power.Power.Power}, proofs.Growths.{deed_grows, said_counts}}

-- a board that is on is not powered on
pub busy : (size : Size) (mode : BootMode) (b : Bench) (p : Option BenchLife) (board : SimBoard) → BoardIs size b.disk_state b.kept p board → OnStep size p mode b (says printed.Busy) b
busy size mode b None board at = absurd at
busy size mode b (Some life) board at = (refl, refl)

-- one that powers no board on tells no state
pub unsaid : (line : Line) (a : Answer) (x : Bench) → ((mode : BootMode) → line ≡ lines.On mode → ⊥) → TellsIts line a None x
unsaid (lines.On mode) a x not = absurd (not mode refl)
unsaid line a x not = tt

-- one that no function of its own runs
pub is_other : (line : Line) → IsNoRow (deed_of line) → ((mode : BootMode) → line ≡ lines.On mode → ⊥) → ((c : ConsoleCommand) → line ≡ lines.Command c → ⊥) → IsOtherLine line
is_other (lines.On mode) row boot issue = boot mode refl
is_other (lines.Command c) row boot issue = issue c refl
is_other (lines.Turn h n) row boot issue = row
is_other line row boot issue = tt

no_row : (line : Line) → IsOtherLine line → IsNoRow (deed_of line)
no_row (lines.Turn h n) other = other
no_row line other = tt

-- what was answered, or what stands after a refusal
module _ (size : Size) (line : Line) (old new : Power) (slots left : List (List ℕ)) where
  abbrev pub Reported : Result Answer AllocError → Type 0
  Reported r = (b : Bench) → IsBench size b old slots → MatchResult r (λ a. (x : Bench) × Step size line b a x × Matches size x new left) (λ e. Matches size b new left)

  pub said_on : (r : Result Answer AllocError) → Reported r → IfOk r (λ a. (b : Bench) → IsBench size b old slots → (x : Bench) × Step size line b a x × Matches size x new left)
  said_on (Ok a) reported = reported
  said_on (Err e) reported = tt

  pub stops_on : (r : Result Answer AllocError) → Reported r → OnErr r ((b : Bench) → IsBench size b old slots → IsBench size b new left)
  stops_on (Ok a) reported = tt
  stops_on (Err e) reported = λ b was. (let did = reported b was in (did.0, did.1, was.2))

pub left_so : (line : Line) (old new : Power) (r : Result Answer AllocError) → ArmsIts line new → CutsIts line old new → PokesIts line old r new → InspectsIts line old r → IfOk r (λ a. LineLeft line a old new)
left_so line old new (Ok a) arms cuts pokes inspects = (arms, cuts, pokes, inspects)
left_so line old new (Err e) arms cuts pokes inspects = tt

-- whether memory was refused
pub not_true : (r : Bool) → (r ≡ true → ⊥) → r ≡ false
not_true true not = absurd (not refl)
not_true false not = refl

abbrev pub TellsMemory : Bool → Power → Result Answer AllocError → Type 0
TellsMemory lacked new r = MatchResult r (λ a. (lacked ≡ false) ↔ HasEnough new a.line) (λ e. lacked ≡ true)

had : (lacked : Bool) (new : Power) (r : Result Answer AllocError) → TellsMemory lacked new r → lacked ≡ false → HadEnough new × IfOk r (λ a. SaysEnough a.line)
had lacked new (Ok a) told e = told.0 e
had lacked new (Err x) told e = absurd (let no : true ≡ false = sym told ∙ e in let never : ⊥ = cc in never)

-- where it was refused to none, none is counted
abbrev pub Counted : Size → Line → Power → Power → List (List ℕ) → List (List ℕ) → Result Answer AllocError → Type 0
Counted size line old new slots left r = IfOk r (λ a. (b : Bench) → IsBench size b old slots → (x : Bench) × Step size line b a x × Matches size x new left × (x.growths ≡ b.growths))

counts_on : (size : Size) (line : Line) (old new : Power) (slots left : List (List ℕ)) (r : Result Answer AllocError) → IsOtherLine line → HadEnough new → IfOk r (λ a. SaysEnough a.line)
    → StepsEnough size line old slots r new left → Reported size line old new slots left r → Counted size line old new slots left r
counts_on size (lines.Call h asked) old new slots left (Ok a) other had says_so enough reported = λ b was. enough had b was
counts_on size line old new slots left (Ok a) other had says_so enough reported = λ b was.
    let did = reported b was in (did.0, did.1, did.2, said_counts a.line b did.0 says_so (deed_grows size (deed_of line) b a did.0 (no_row line other) did.1))
counts_on size line old new slots left (Err e) other had says_so enough reported = tt

pub well_on : (size : Size) (line : Line) (old new : Power) (slots left : List (List ℕ)) (r : Result Answer AllocError) → IsOtherLine line → (lacked : Bool) → TellsMemory lacked new r → StepsEnough size line old slots r new left
    → Reported size line old new slots left r → lacked ≡ false → Counted size line old new slots left r
well_on size line old new slots left r other lacked told enough reported e =
    let has = had lacked new r told e in counts_on size line old new slots left r other has.0 has.1 enough reported
