-- Where what a row of a bench arms strikes in its script. Source: docs/DEBUGGING.md, "A race that a bench found"; docs/SCRIPT.md, "The
-- benches".
use Rattle.std.specs.Prelude.{◌≡◌, ◌<◌, ◌+◌, ℕ, Bool, true, false, List, [], ◌∷◌, ◌++◌, Option, None, Some}
use Rattle.board_model.specs.Shapes.{Size}
use Rattle.disk.specs.FaultState.{Armed, CutArmed, FaultArmed, Unarmed}
use Rattle.script_lang.specs.declared.line.Line.{Line}
use Rattle.script_lang.specs.declared.line.Line.TheVariants as lines
use Rattle.bench_report.specs.Lives.{Shows}
use Rattle.debug_session.specs.Pasts.{some_turns}
use Rattle.bench_report.specs.declared.live.LiveBench.{LiveBench}
use Rattle.report_lines.specs.declared.printed.Answer.{Answer}
use Rattle.bench_report.specs.Bench.{Bench, bench_with}
use Rattle.bench_report.specs.Steps.{Run}

-- a cut or a failure is still to strike
abbrev pub is_armed : Armed → Bool
is_armed Unarmed = false
is_armed FaultArmed = true
is_armed CutArmed = true

-- These lines run from a blank disk on, with these payloads in the slots. After the last of them a fault is armed that has not struck,
-- or none is.
abbrev pub ArmedAfter : Bool → Size → List (List ℕ) → List Line → Type 0
ArmedAfter armed size start those =
    (answers : List Answer) × (b : Bench) × Run size (bench_with start) those answers b × (is_armed b.fault_state.armed ≡ armed)

-- these lines ran, from any bench for which the one before stood
abbrev pub RanTo : Size → List Line → LiveBench → LiveBench → Type 0
RanTo size those old new =
    (b : Bench) → Shows size b old → (answers : List Answer) × (after : Bench) × Run size b those answers after × Shows size after new

-- the hart of a row of turns, and how many they are
abbrev pub hart_in : Line → Option ℕ
hart_in (lines.Turn h n) = Some h
hart_in line = None

abbrev pub count_in : Line → ℕ
count_in (lines.Turn h n) = n
count_in line = 0

-- It has not struck after these lines, and it has after the next one. Where that is a row of turns, its first k are made, and it strikes
-- in the one after them.
abbrev pub StopsIn : Size → List (List ℕ) → List Line → Line → Option ℕ → List Line → Type 0
StopsIn size start front next None stop =
    (stop ≡ front) × ArmedAfter true size start front × ArmedAfter false size start (front ++ next ∷ [])
StopsIn size start front next (Some h) stop =
    (k : ℕ) × (k < count_in next) × (stop ≡ front ++ some_turns h k) × ArmedAfter true size start (front ++ some_turns h k)
    × ArmedAfter false size start (front ++ lines.Turn h (k + 1) ∷ [])

-- Lines of a script up to where what it arms strikes: those in front of the line within which it does, and of a row of turns those before
-- the turn.
pub record StopsBefore (size : Size) (start : List (List ℕ)) (all stop : List Line) : Type 0 where
  pub front : List Line
  pub next : Line
  pub later : List Line
  pub of_all : all ≡ front ++ next ∷ later
  pub stops : StopsIn size start front next (hart_in next) stop
