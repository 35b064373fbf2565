-- What a request that moves nothing does to the debugger's lists, and to the talk.
use Rattle.std.specs.Prelude.{◌≡◌, ℕ, Bool, true, false, List, Option, Some, None, ⊤}
use Rattle.board_model.specs.Shapes.{Size}
use Rattle.debug_session.specs.Points.{with_point, with_watch, without_point, without_watch}
use Rattle.debug_session.specs.Sessions.{size_of}
use Rattle.debug_session.specs.declared.halts.Stop.{Stop}
use Rattle.debug_session.specs.declared.stops.Stops.{Stops}
use Rattle.debug_session.specs.declared.stops.Watchpoint.{Watchpoint}
use Rattle.debug_session.specs.declared.stops.WatchKind.{WatchKind}
use Rattle.debug_session.specs.declared.stops.WatchKind.TheVariants as kinds
use Rattle.debug_session.specs.declared.requests.GdbLook.{GdbLook}
use Rattle.debug_session.specs.declared.requests.GdbLook.TheVariants as looks
use Rattle.debug_session.specs.declared.requests.Watching.{Watching}
use Rattle.debug_session.specs.declared.requests.Watching.TheVariants as watching
use Rattle.debug_session.specs.declared.requests.GdbRequest.{GdbRequest}
use Rattle.debug_session.specs.declared.requests.GdbRequest.TheVariants as asks
use Rattle.sbigdb.specs.declared.talk.Talk.{Talk}
use Rattle.sbigdb.specs.Replies.{hart_named}
use Rattle.sbigdb.specs.Talks.{acknowledges_in, hart_or, is_over_in, last_in, runner_in, selected_in, session_in, takes_in}

-- the breakpoints after a request
abbrev pub points_after : GdbLook → List ℕ → List ℕ
points_after (looks.SetPoint address) points = with_point address points
points_after (looks.ClearPoint address) points = without_point address points
points_after look points = points

-- a watch on writes sees changes
abbrev pub kind_of : Watching → WatchKind
kind_of watching.Writes = kinds.Changes
kind_of watching.Reads = kinds.Reads
kind_of watching.Accesses = kinds.Accesses

abbrev pub watch_of : Watching → ℕ → ℕ → Watchpoint
watch_of what address count = record { kind = kind_of what; address = address; count = count }

-- the watchpoints after a request
abbrev pub watches_after : GdbLook → List Watchpoint → List Watchpoint
watches_after (looks.SetWatch what address count) watches = with_watch (watch_of what address count) watches
watches_after (looks.ClearWatch what address count) watches = without_watch (watch_of what address count) watches
watches_after look watches = watches

-- both lists after a request; one that moves the board leaves them
abbrev pub Listed : GdbRequest → Stops → Stops → Type 0
Listed (asks.Look look) old new =
    (new.points.items ≡ points_after look old.points.items) × (new.watches.items ≡ watches_after look old.watches.items)
Listed (asks.Move move) old new = new ≡ old

-- A hart runs from then on that is chosen to, where it is there, and none where any thread may.
abbrev pub named_or : Option ℕ → Option ℕ → Option ℕ
named_or None runner = runner
named_or (Some h) runner = Some h

abbrev pub runner_after : GdbLook → Size → Option ℕ → Option ℕ
runner_after (looks.Run thread) size runner = named_or (hart_named size thread) runner
runner_after looks.RunSelected size runner = None
runner_after look size runner = runner

-- a hart is selected that GDB asks about, where it is there
abbrev pub selected_after : GdbLook → Size → ℕ → ℕ
selected_after (looks.IsAlive thread) size selected = hart_or (hart_named size thread) selected
selected_after look size selected = selected

-- packets are acknowledged until GDB asks that they are not
abbrev pub acknowledges_after : GdbLook → Bool → Bool
acknowledges_after looks.NoAcks acknowledges = false
acknowledges_after look acknowledges = acknowledges

-- the talk is over once the debugger leaves
abbrev pub is_over_after : GdbLook → Bool → Bool
is_over_after looks.Detach over = true
is_over_after looks.Kill over = true
is_over_after look over = over

-- GDB says in one request alone whether it takes `swbreak`
abbrev pub TakesAs : GdbLook → Bool → Bool → Type 0
TakesAs looks.Supports old new = ⊤
TakesAs look old new = new ≡ old

-- the talk stands so
abbrev pub IsTalk : {C : Type 0} → Stop → Option ℕ → Bool → Bool → Bool → Talk C → Type 0
IsTalk last runner takes acknowledges over talk =
    (last_in talk ≡ last) × (runner_in talk ≡ runner) × (takes_in talk ≡ takes) × (acknowledges_in talk ≡ acknowledges)
    × (is_over_in talk ≡ over)

-- it goes on as it was
abbrev pub StaysOpen : {C : Type 0} → Talk C → Talk C → Type 0
StaysOpen old new = IsTalk (last_in old) (runner_in old) (takes_in old) (acknowledges_in old) (is_over_in old) new

-- the talk after such a request
pub record IsKept {C : Type 0} (look : GdbLook) (old new : Talk C) : Type 0 where
  pub last : last_in new ≡ last_in old
  pub runner : runner_in new ≡ runner_after look (size_of (session_in old)) (runner_in old)
  pub selected : selected_in new ≡ selected_after look (size_of (session_in old)) (selected_in old)
  pub takes : TakesAs look (takes_in old) (takes_in new)
  pub acknowledges : acknowledges_in new ≡ acknowledges_after look (acknowledges_in old)
  pub over : is_over_in new ≡ is_over_after look (is_over_in old)

-- how a talk changes by any request: one that moves the board leaves all but the stop and the harts that are shown and selected
abbrev pub Keeps : {C : Type 0} → GdbRequest → Talk C → Talk C → Type 0
Keeps (asks.Look look) old new = IsKept look old new
Keeps (asks.Move move) old new = IsTalk (last_in new) (runner_in old) (takes_in old) (acknowledges_in old) (is_over_in old) new
