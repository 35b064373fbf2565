-- An answer to a packet.
use Rattle.std.specs.Prelude.{◌≡◌, ℕ, Bool, List, [], if◌then◌else◌}
use Rattle.debug_session.specs.Sessions.{bench_of, plan_of, size_of, stops_of}
use Rattle.debug_session.specs.Replies.{packets_of}
use Rattle.debug_session.specs.Asked.{request_of}
use Rattle.sbigdb.specs.declared.talk.Talk.{Talk}
use Rattle.sbigdb.specs.Kept.{Keeps, Listed, StaysOpen}
use Rattle.sbigdb.specs.Moved.{Moved}
use Rattle.sbigdb.specs.Replies.{Replied, Shown}
use Rattle.sbigdb.specs.Stops.{stop_text}
use Rattle.sbigdb.specs.Talks.{acknowledges_in, hart_in, last_in, selected_in, sent_in, session_in, takes_in}
use lib.Chars.{codes}

-- the acknowledgement of a packet, where these are wanted
abbrev pub front_text : Bool → List ℕ
front_text acknowledges = if acknowledges then codes "+" else []

-- what was sent last, where packets are acknowledged
abbrev pub again_text : {C : Type 0} → Talk C → List ℕ
again_text talk = if acknowledges_in talk then sent_in talk else []

-- A packet is answered with these payloads, and what the talk and its session then are.
pub record IsAnswer {C : Type 0} (packet : List ℕ) (old new : Talk C) (payloads : List (List ℕ)) : Type 0 where
  pub replied : Replied (request_of packet) (size_of (session_in old)) (hart_in old) (bench_of (session_in old))
      (stop_text (last_in old) (takes_in old)) payloads
  pub shown : Shown (request_of packet) (size_of (session_in old)) (hart_in old) (hart_in new)
  pub moved : Moved (request_of packet) packet old new payloads
  pub listed : Listed (request_of packet) (stops_of (session_in old)) (stops_of (session_in new))
  pub kept : Keeps (request_of packet) old new
  pub plan : plan_of (session_in new) ≡ plan_of (session_in old)

-- nothing of a talk is other but what was sent last
abbrev pub IsAllBut : {C : Type 0} → Talk C → Talk C → Type 0
IsAllBut old new =
    (session_in new ≡ session_in old) × (hart_in new ≡ hart_in old) × (selected_in new ≡ selected_in old) × StaysOpen old new

-- A packet is answered with these payloads, and the talk that the answer leaves keeps it as it is sent.
abbrev pub IsReplied : {C : Type 0} → List ℕ → Talk C → Talk C → List (List ℕ) → Type 0
IsReplied {C} packet old new payloads =
    (mid : Talk C) × IsAnswer packet old mid payloads × IsAllBut mid new × (sent_in new ≡ packets_of payloads)
