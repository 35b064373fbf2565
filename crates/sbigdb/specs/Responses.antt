-- What is sent for all that is heard, in its order.
use Rattle.std.specs.Prelude.{◌≡◌, ◌⊎◌, ℕ, true, false, List, [], ◌∷◌, ◌++◌, Bool, Option, None, Some, if◌then◌else◌}
use Rattle.std.specs.Iterator.{Yields}
use Rattle.board_model.specs.Shapes.{Size}
use Rattle.script_lang.specs.declared.line.Line.{Line}
use Rattle.debug_session.specs.Ats.{IsAt}
use Rattle.debug_session.specs.Sessions.{begins_of, history_of, plan_of, points_of, size_of, timeline_of, watches_of}
use Rattle.debug_session.specs.Steps.{AreNoted}
use Rattle.debug_session.specs.declared.session.SessionPlan.{SessionPlan}
use Rattle.debug_session.specs.declared.heard.PacketEvent.{PacketEvent}
use Rattle.debug_session.specs.declared.heard.PacketEvent.TheVariants as heards
use Rattle.debug_session.specs.Replies.{packets_of}
use Rattle.sbigdb.specs.Answers.{IsReplied, again_text, front_text}
use Rattle.sbigdb.specs.Talks.{acknowledges_in, hart_in, is_over_in, runner_in, selected_in, sent_in, session_in}
use Rattle.sbigdb.specs.declared.talk.Talk.{Talk}
use lib.Chars.{codes}

-- the acknowledgement of what was heard: of a packet, where these are wanted
abbrev pub ack_text : Bool → PacketEvent → List ℕ
ack_text acknowledges (heards.Packet packet) = front_text acknowledges
ack_text acknowledges what = []

-- that of the next thing that was heard, if there is one
abbrev pub next_ack : Bool → Option PacketEvent → List ℕ
next_ack acknowledges None = []
next_ack acknowledges (Some what) = ack_text acknowledges what

-- A packet is answered. Where packets are acknowledged one that came damaged is wanted again, and the last answer is sent again
-- that came so. Nothing else is sent.
abbrev pub Says : {C : Type 0} → PacketEvent → Talk C → Talk C → List ℕ → Type 0
Says (heards.Packet packet) old new sent =
    (payloads : List (List ℕ)) × IsReplied packet.items old new payloads × (sent ≡ packets_of payloads)
Says heards.Damaged old new sent = (new ≡ old) × (sent ≡ (if acknowledges_in old then codes "-" else []))
Says heards.Again old new sent = (new ≡ old) × (sent ≡ again_text old)
Says what old new sent = (new ≡ old) × (sent ≡ [])

-- what was heard is acknowledged and answered
abbrev pub Responds : {C : Type 0} → PacketEvent → Talk C → Talk C → List ℕ → Type 0
Responds what old new sent =
    (said : List ℕ) × Says what old new said × (sent ≡ ack_text (acknowledges_in old) what ++ said)

-- Each of these is answered by the talk that the one before left, and none once the talk is over.
abbrev pub RespondsAll : {C : Type 0} → List PacketEvent → Talk C → Talk C → List ℕ → Type 0
RespondsAll [] old new sent = (new ≡ old) × (sent ≡ [])
RespondsAll {C} (what ∷ more) old new sent =
    (mid : Talk C) × (first : List ℕ) × (rest : List ℕ) × (is_over_in old ≡ false) × Responds what old mid first
    × RespondsAll more mid new rest × (sent ≡ first ++ rest)

-- Whatever an iterator gives is heard and answered, in its order, until it gives no more or the talk is over. Nothing else is sent.
pub record AnswersAll {I C : Type 0} (gives : I → Option PacketEvent → I → Type 0) (from : I) (old new : Talk C) (sent : List ℕ) : Type 0 where
  pub heard : List PacketEvent
  pub last : I
  pub given : Yields gives from heard last
  pub responses : RespondsAll heard old new sent
  pub ended : (is_over_in new ≡ true) ⊎ ((after : I) × gives last None after)

-- and so after one of them, unless it ended the talk
abbrev pub AnswersAfter : {I C : Type 0} → (I → Option PacketEvent → I → Type 0) → I → Talk C → Talk C → List ℕ → Type 0
AnswersAfter gives from mid new rest =
    ((is_over_in mid ≡ true) × (new ≡ mid) × (rest ≡ [])) ⊎ ((is_over_in mid ≡ false) × AnswersAll gives from mid new rest)

-- The first thing that was heard, if there was one, is acknowledged already. It is answered, and whatever an iterator gives after it.
abbrev pub AnswersFrom : {I C : Type 0} → Option PacketEvent → (I → Option PacketEvent → I → Type 0) → I → Talk C → Talk C → List ℕ → Type 0
AnswersFrom None gives from old new sent = (new ≡ old) × (sent ≡ [])
AnswersFrom {I} {C} (Some what) gives from old new sent =
    (mid : Talk C) × (said : List ℕ) × (rest : List ℕ) × Says what old mid said × AnswersAfter gives from mid new rest
    × (sent ≡ said ++ rest)

-- A talk that begins: about the board that these lines leave, with no breakpoint, and hart 0 is shown and selected.
pub record Begins {C : Type 0} (size : Size) (plan : SessionPlan) (begins : List (List ℕ)) (lines : List Line) (talk : Talk C) : Type 0 where
  pub at : IsAt size (timeline_of (session_in talk))
  pub board : size_of (session_in talk) ≡ size
  pub noted : AreNoted lines [] (history_of (session_in talk))
  pub payloads : begins_of (session_in talk) ≡ begins
  pub goes_by : plan_of (session_in talk) ≡ plan
  pub points : points_of (session_in talk) ≡ []
  pub watches : watches_of (session_in talk) ≡ []
  pub hart : hart_in talk ≡ 0
  pub runner : runner_in talk ≡ None
  pub selected : selected_in talk ≡ 0
  pub acknowledges : acknowledges_in talk ≡ true
  pub ongoing : is_over_in talk ≡ false
  pub sent : sent_in talk ≡ []
