-- Running back ends at the last halt.
use Rattle.std.specs.Prelude.{◌≡◌, ◌⊎◌, ◌<◌, ℕ, Bool, true, false, List, [], ◌∷◌, ◌++◌, All, Option, Some, None, replicate, take, if◌then◌else◌, ⊤}
use Rattle.board_model.specs.Shapes.{Size}
use Rattle.script_lang.specs.declared.line.Line.{Line}
use Rattle.script_lang.specs.declared.line.Line.TheVariants as lines
use Rattle.debug_session.specs.Pasts.{moments}
use Rattle.report_lines.specs.declared.printed.Answer.{Answer}
use Rattle.bench_report.specs.Bench.{Bench, bench_with}
use Rattle.bench_report.specs.Steps.{Moves}
use Rattle.debug_session.specs.Notes.{Leaves}
use Rattle.debug_session.specs.declared.timeline.Timeline.{Timeline}
use Rattle.debug_session.specs.declared.back.TurnPlace.{TurnPlace}
use Rattle.debug_session.specs.declared.back.Way.{Way}
use Rattle.debug_session.specs.declared.back.Way.TheVariants as ways
use Rattle.debug_session.specs.declared.halts.HaltReason.{HaltReason}
use Rattle.debug_session.specs.declared.halts.HaltReason.TheVariants as halts
use Rattle.debug_session.specs.declared.halts.Stop.{Stop}
use Rattle.debug_session.specs.declared.stops.Stops.{Stops}
use Rattle.debug_session.specs.declared.stops.Watchpoint.{Watchpoint}
use Rattle.debug_session.specs.Firsts.{KeepsWatched, Touches, is_at_point, one_turn}
use Rattle.debug_session.specs.Steps.{MakesNone}

-- a line may make that of the bench
abbrev pub MayMove : Size → Line → Bench → Bench → Type 0
MayMove size line b new = (answer : Answer) × Moves size line b answer new

-- Whether the way back ends before a turn of hart h: the hart stood at a breakpoint, or the turn touched a watchpoint.
abbrev pub IsSeen : Option HaltReason → Stops → ℕ → Bench → Bench → Type 0
IsSeen None stops h b new = (is_at_point stops h b ≡ false) × KeepsWatched stops h b new
IsSeen (Some halts.Point) stops h b new = is_at_point stops h b ≡ true
IsSeen (Some (halts.Watched w)) stops h b new = Touches stops h b new (Some w)
IsSeen (Some halt) stops h b new = ⊥

-- a line before which it does not end
abbrev pub IsPassed : Stops → Line → Bench → Bench → Type 0
IsPassed stops (lines.Turn h n) b new = IsSeen None stops h b new
IsPassed stops line b new = ⊤

-- such lines, one after another
abbrev pub PassBack : Size → Stops → List Line → Bench → Bench → Type 0
PassBack size stops [] b new = new ≡ b
PassBack size stops (line ∷ more) b new =
    (mid : Bench) × (MayMove size line b mid × IsPassed stops line b mid) × PassBack size stops more mid new

-- A run of all these lines. A turn of hart h comes after the first of them, and is why the way back ends before it. The way back
-- passes each line after that turn.
pub record EndsAt (size : Size) (stops : Stops) (Why : Bench → Bench → Type 0) (h : ℕ) (before all : List Line) (b new : Bench) : Type 0 where
  pub after : List Line
  pub parted : all ≡ before ++ one_turn h ∷ after
  pub there : Bench
  pub mid : Bench
  pub left : Leaves size b before there
  pub turn : MayMove size (one_turn h) there mid
  pub why : Why there mid
  pub passed : PassBack size stops after mid new

-- why the way back ends after these lines: a turn at which it ends comes next, or none was made before
abbrev pub IsWhyBack : HaltReason → Stops → ℕ → List Line → Bench → Bench → Type 0
IsWhyBack halts.Begin stops h before b new = All MakesNone before × IsSeen None stops h b new
IsWhyBack halt stops h before b new = IsSeen (Some halt) stops h b new

-- The history is cut at the last halt: a run of its lines, of which each row of turns stands for its single turns.
abbrev pub BackTo : Size → Stops → Stop → Timeline → Timeline → Type 0
BackTo size stops stop old new =
    (last : Bench) × EndsAt size stops (IsWhyBack stop.halt stops stop.hart (moments new.history)) stop.hart (moments new.history)
    (moments old.history) (bench_with old.begins) last

-- Nothing changed: no turn was made, or the debugger asked that the way back end.
abbrev pub StaysBack : Stop → ℕ → Timeline → Timeline → Type 0
StaysBack stop h old new =
    (stop.hart ≡ h) × (new ≡ old) × (((stop.halt ≡ halts.Begin) × All MakesNone old.history) ⊎ (stop.halt ≡ halts.Interrupted))

-- ---- how the code finds it
-- what holds where looking for a place came to its end
abbrev pub IfEnded : Way → (Option TurnPlace → Type 0) → Type 0
IfEnded (ways.Ended found) P = P found
IfEnded ways.Interrupted P = ⊤

-- the last of these lines before which it ends, by how many turns of its hart stand before it, and why
abbrev pub FoundIn : Size → Stops → Option (ℕ × Stop) → List Line → Bench → Bench → Type 0
FoundIn size stops None all b new = PassBack size stops all b new
FoundIn size stops (Some f) all b new =
    EndsAt size stops (IsSeen (Some f.1.halt) stops f.1.hart) f.1.hart (replicate f.0 (one_turn f.1.hart)) all b new

-- what stands before a place in a history
abbrev pub before_place : TurnPlace → List Line → List Line
before_place place past = moments (take place.line past) ++ replicate place.turns (one_turn place.stop.hart)

-- the last turn of a history before which the way back ends, by its place; or that it ends before none
abbrev pub FoundOf : Size → Stops → Option TurnPlace → List Line → List Line → Bench → Bench → Type 0
FoundOf size stops None past all b new = PassBack size stops all b new
FoundOf size stops (Some place) past all b new =
    EndsAt size stops (IsSeen (Some place.stop.halt) stops place.stop.hart) place.stop.hart (before_place place past) all b new

-- a place where the way back ends
abbrev pub IsEnd : Size → Stops → TurnPlace → List Line → Bench → Type 0
IsEnd size stops place past b =
    (last : Bench) × EndsAt size stops (IsWhyBack place.stop.halt stops place.stop.hart (before_place place past)) place.stop.hart
    (before_place place past) (moments past) b last

-- a line is a row of that hart with more turns than so many
abbrev pub IsRowPast : Line → ℕ × Stop → Type 0
IsRowPast line f = (n : ℕ) × (line ≡ lines.Turn f.1.hart n) × (f.0 < n)

-- by whether the hart stood at a breakpoint, and the watchpoint that was touched
abbrev pub halt_back : Bool → Option Watchpoint → Option HaltReason
halt_back stands None = if stands then Some halts.Point else None
halt_back stands (Some w) = Some (halts.Watched w)

-- what was found before, or later: the turn of hart h after k others
abbrev pub later_turn : Option (ℕ × Stop) → ℕ → ℕ → Option HaltReason → Option (ℕ × Stop)
later_turn found k h None = found
later_turn found k h (Some halt) = Some (k, record { hart = h; halt = halt })

-- or in line i
abbrev pub later_place : Option TurnPlace → ℕ → Option (ℕ × Stop) → Option TurnPlace
later_place found i None = found
later_place found i (Some f) = Some (record { line = i; turns = f.0; stop = f.1 })
