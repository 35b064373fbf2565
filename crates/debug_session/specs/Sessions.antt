-- What a clause sees of a session.
use Rattle.std.specs.Prelude.{◌≡◌, ℕ, List, Option}
use Rattle.board_model.specs.Shapes.{Size}
use Rattle.machine.specs.Machine.{Machine}
use Rattle.script_lang.specs.declared.line.Line.{Line}
use Rattle.bench_report.specs.declared.live.LiveBench.{LiveBench}
use Rattle.debug_session.specs.declared.stops.Stops.{Stops}
use Rattle.debug_session.specs.declared.stops.Watchpoint.{Watchpoint}
use Rattle.debug_session.specs.declared.session.SessionPlan.{SessionPlan}
use Rattle.debug_session.specs.declared.session.Session.{Session}
use Rattle.debug_session.specs.declared.timeline.Timeline.{Timeline}
use Rattle.debug_session.specs.Lives.{machine_of}

module _ {C : Type 0} where
  -- its bench, with its history
  abbrev pub timeline_of : Session C → Timeline
  timeline_of s = s.timeline

  -- the size of its board
  abbrev pub size_of : Session C → Size
  size_of s = s.setting.shape.now

  -- the lines that were run
  abbrev pub history_of : Session C → List Line
  history_of s = s.timeline.history

  -- the payloads with which they begin
  abbrev pub begins_of : Session C → List (List ℕ)
  begins_of s = s.timeline.begins

  -- the bench as it stands
  abbrev pub bench_of : Session C → LiveBench
  bench_of s = s.timeline.bench

  -- the memory and harts of a board that is on
  abbrev pub machine_of_session : Session C → Option Machine
  machine_of_session s = machine_of s.timeline.bench

  -- its breakpoints and watchpoints
  abbrev pub stops_of : Session C → Stops
  stops_of s = s.stops

  -- the addresses of its breakpoints
  abbrev pub points_of : Session C → List ℕ
  points_of s = s.stops.points.items

  -- the bytes that are watched
  abbrev pub watches_of : Session C → List Watchpoint
  watches_of s = s.stops.watches.items

  -- how it goes on
  abbrev pub plan_of : Session C → SessionPlan
  plan_of s = s.plan

  -- its board has the size that it had, and it goes on as it did
  abbrev pub KeepsPlan : Session C → Session C → Type 0
  KeepsPlan old new = (size_of new ≡ size_of old) × (plan_of new ≡ plan_of old)

  -- its breakpoints and watchpoints are as they were too: nothing but its bench and history has changed
  abbrev pub KeepsRest : Session C → Session C → Type 0
  KeepsRest old new = KeepsPlan old new × (stops_of new ≡ stops_of old)
