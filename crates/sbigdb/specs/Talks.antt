-- The parts of a talk.
use Rattle.std.specs.Prelude.{ℕ, Bool, List, Option, Some, None}
use Rattle.debug_session.specs.declared.session.Session.{Session}
use Rattle.debug_session.specs.declared.halts.Stop.{Stop}
use Rattle.sbigdb.specs.declared.talk.Talk.{Talk}

-- what it is about
abbrev pub session_in : {C : Type 0} → Talk C → Session C
session_in talk = talk.session

-- the hart that is shown
abbrev pub hart_in : {C : Type 0} → Talk C → ℕ
hart_in talk = talk.hart

-- that hart, where there is one
abbrev pub hart_or : Option ℕ → ℕ → ℕ
hart_or None h = h
hart_or (Some g) h = g

-- the hart that was chosen to run
abbrev pub runner_in : {C : Type 0} → Talk C → Option ℕ
runner_in talk = talk.runner

-- the hart that GDB has selected
abbrev pub selected_in : {C : Type 0} → Talk C → ℕ
selected_in talk = talk.selected

-- the hart that steps, and that goes on first
abbrev pub runs_in : {C : Type 0} → Talk C → ℕ
runs_in talk = hart_or talk.runner talk.selected

-- why nothing runs
abbrev pub last_in : {C : Type 0} → Talk C → Stop
last_in talk = talk.last

-- whether GDB takes `swbreak` as a reason
abbrev pub takes_in : {C : Type 0} → Talk C → Bool
takes_in talk = talk.takes_swbreak

-- whether packets are acknowledged
abbrev pub acknowledges_in : {C : Type 0} → Talk C → Bool
acknowledges_in talk = talk.acknowledges

-- whether the debugger has left
abbrev pub is_over_in : {C : Type 0} → Talk C → Bool
is_over_in talk = talk.is_over

-- what was sent last in answer to a packet
abbrev pub sent_in : {C : Type 0} → Talk C → List ℕ
sent_in talk = talk.sent.items
