-- Steps of a session: turns that became part of its history.
use Rattle.std.specs.Prelude.{◌≡◌, ◌⊎◌, ℕ, Bool, true, false, List, [], ◌∷◌, ◌++◌, All, Option, Some, None, ◌==◌, if◌then◌else◌, length, ⊤}
use Rattle.board_model.specs.Shapes.{Size}
use Rattle.script_lang.specs.declared.line.Line.{Line}
use Rattle.script_lang.specs.declared.line.Line.TheVariants as lines
use Rattle.debug_session.specs.Pasts.{moments}
use Rattle.report_lines.specs.declared.printed.Answer.{Answer}
use Rattle.bench_report.specs.declared.rows.TurnRow.{TurnRow}
use Rattle.bench_report.specs.declared.rows.TurnRow.TheVariants as rows
use Rattle.bench_report.specs.Rows.{IsWithin}
use Rattle.debug_session.specs.declared.timeline.Timeline.{Timeline}
use Rattle.debug_session.specs.Ats.{IsAt, IsNoted, MadeTurns}
use Rattle.debug_session.specs.Lives.{machine_of, pc_in}
use Rattle.debug_session.specs.declared.halts.HaltReason.{HaltReason}
use Rattle.debug_session.specs.declared.halts.HaltReason.TheVariants as halts
use Rattle.debug_session.specs.Firsts.{is_of_turn}

-- these lines became part of it, one after another
abbrev pub AreNoted : List Line → List Line → List Line → Type 0
AreNoted [] old new = new ≡ old
AreNoted (line ∷ more) old new = (answer : Answer) × (mid : List Line) × IsNoted line answer old mid × AreNoted more mid new

-- Why a step ends so, by what came of its turn, whether the next one is idle, and the pc after it: the turn was made, and may be
-- why all halts; or none was, since the hart has nothing to do, or the board is off or lacks the hart.
abbrev pub EndsStep : TurnRow → Bool → Option ℕ → HaltReason → Type 0
EndsStep rows.Off true pc halt = halt ≡ halts.Idle
EndsStep rows.Off false pc halt = (halt ≡ halts.Off) × (pc ≡ None)
EndsStep (rows.Made n word) rests pc halt = (halt ≡ halts.Stepped) ⊎ (is_of_turn halt ≡ true)
EndsStep (rows.Lost n) rests pc halt = halt ≡ halts.Ended

-- One turn of hart h became part of the history, and nothing else; or none did. The step ends so.
abbrev pub IsStep : Size → ℕ → HaltReason → Timeline → Timeline → Type 0
IsStep size h halt old new =
    (row : TurnRow) × (rests : Bool) × IsWithin 1 row × MadeTurns size h [] row rests old new
    × EndsStep row rests (pc_in h (machine_of new.bench)) halt

-- why a step ends where all halts, or where nothing does and `made` turns were made
abbrev pub halt_step : Option HaltReason → ℕ → HaltReason
halt_step None made = if made == 0 then halts.Idle else halts.Stepped
halt_step (Some halt) made = halt

-- one turn of a hart that may run
abbrev pub IsTurnOf : (ℕ → Type 0) → Line → Type 0
IsTurnOf May (lines.Turn h n) = (n ≡ 1) × May h
IsTurnOf May line = ⊥

-- `count` turns of harts that may run became part of the history, and nothing else.
pub record Went (May : ℕ → Type 0) (count : ℕ) (size : Size) (old new : Timeline) : Type 0 where
  pub at : IsAt size new
  pub begins : new.begins ≡ old.begins
  pub turns : List Line
  pub grew : moments new.history ≡ moments old.history ++ turns
  pub only : All (IsTurnOf May) turns
  pub as_many : length turns ≡ count

-- a line that makes no turns
abbrev pub MakesNone : Line → Type 0
MakesNone (lines.Turn h n) = ⊥
MakesNone line = ⊤
