-- Where a talk begins; what is sent for all that was heard.
use Rattle.std.proofs.Common.{◌≡◌, ℕ, Bool, true, false, List, [], ◌∷◌, ◌++◌, Option, Some, None, Vec, Global, inl, inr, refl, sym, ap, ◌∙◌, subst, append_assoc}
use Rattle.std.{specs.Iterator.{Count, IsFinite, MakesProgress}, proofs.lemmas.List.append-nil}
use Rattle.board_model.specs.Shapes.{Size}
use Rattle.script_lang.specs.declared.line.Line.{Line}
use Rattle.debug_session.specs.{declared.{heard.PacketEvent.PacketEvent, session.SessionPlan.SessionPlan}, Ats.IsAt, Steps.AreNoted}
use Rattle.debug_session.specs.Sessions.{begins_of, history_of, plan_of, points_of, size_of, timeline_of, watches_of}
use Rattle.debug_session.specs.declared.session.Session.{Session}
use Rattle.debug_session.specs.declared.heard.PacketEvent.TheVariants as heards
use Rattle.sbigdb.specs.{Talks.{acknowledges_in, hart_in, is_over_in, runner_in, selected_in, sent_in, session_in}, declared.talk.Talk.Talk}
use Rattle.sbigdb.specs.Responses.{AnswersAll, AnswersFrom, Begins, Says, ack_text, next_ack}

pub begun : {C : Type 0} (size : Size) (plan : SessionPlan) (payloads : List (List ℕ)) (lines : List Line) (session : Session C) (talk : Talk C) → session_in talk ≡ session → IsAt (size_of session) (timeline_of session) → size_of session ≡ size
    → AreNoted lines [] (history_of session) → begins_of session ≡ payloads → plan_of session ≡ plan → points_of session ≡ [] → watches_of session ≡ [] → hart_in talk ≡ 0 → runner_in talk ≡ None → selected_in talk ≡ 0 → acknowledges_in talk ≡ true → is_over_in talk ≡ false → sent_in talk ≡ [] → Begins size plan payloads lines talk
begun {C} size plan payloads lines session talk same at board noted begins goes_by points watches hart runner selected acknowledges ongoing sent =
    let Q : Size → Type 0 = λ x. IsAt x (timeline_of session) in
    let P : Session C → Type 0 = λ s. IsAt size (timeline_of s) × (size_of s ≡ size) × AreNoted lines [] (history_of s) × (begins_of s ≡ payloads) × (plan_of s ≡ plan) × (points_of s ≡ []) × (watches_of s ≡ []) in
    let all : P (session_in talk) = subst P (sym same) (subst Q board at, board, noted, begins, goes_by, points, watches) in
    record { at = all.0; board = all.1; noted = all.2; payloads = all.3; goes_by = all.4; points = all.5; watches = all.6; hart = hart; runner = runner; selected = selected; acknowledges = acknowledges; ongoing = ongoing; sent = sent }

-- what is no packet and asks for nothing again is not answered
pub says_nothing : {C : Type 0} (what : PacketEvent) (talk : Talk C) → ((packet : Vec ℕ Global) → what ≡ heards.Packet packet → ⊥) → (what ≡ heards.Damaged → ⊥) → (what ≡ heards.Again → ⊥) → Says what talk talk []
says_nothing (heards.Packet packet) talk packets damaged again = absurd (packets packet refl)
says_nothing heards.Damaged talk packets damaged again = absurd (damaged refl)
says_nothing heards.Again talk packets damaged again = absurd (again refl)
says_nothing heards.Nothing talk packets damaged again = (refl, refl)
says_nothing heards.Received talk packets damaged again = (refl, refl)
says_nothing heards.Interrupt talk packets damaged again = (refl, refl)

-- the first thing, which was acknowledged, and then the others
pub from_first : {I C : Type 0} (gives : I → Option PacketEvent → I → Type 0) (first mid : I) (what : PacketEvent) (old new : Talk C) (ack sent : List ℕ) → is_over_in old ≡ false → gives first (Some what) mid → ack ≡ ack_text (acknowledges_in old) what
    → AnswersFrom (Some what) gives mid old new sent → AnswersAll gives first old new (ack ++ sent)
from_first {I} {C} gives first mid what old new ack sent ongoing gave is (talk, said, rest, says, inl (over, same, none), all) =
    let P : Talk C → Type 0 = λ x. is_over_in x ≡ true in
    record {
      heard = what ∷ [];
      last = mid;
      given = (mid, gave, refl);
      responses = (talk, ack ++ said, [], ongoing, (said, says, ap (λ (xs : List ℕ). xs ++ said) is), (same, refl), ap (λ (xs : List ℕ). ack ++ xs) (all ∙ ap (λ (xs : List ℕ). said ++ xs) none) ∙ sym (append_assoc ack said []));
      ended = inl (subst P (sym same) over);
    }
from_first {I} {C} gives first mid what old new ack sent ongoing gave is (talk, said, rest, says, inr (goes, more), all) = record {
  heard = what ∷ more.heard;
  last = more.last;
  given = (mid, gave, more.given);
  responses = (talk, ack ++ said, rest, ongoing, (said, says, ap (λ (xs : List ℕ). xs ++ said) is), more.responses, ap (λ (xs : List ℕ). ack ++ xs) all ∙ sym (append_assoc ack said rest));
  ended = more.ended;
}

-- there was none
pub from_none : {I C : Type 0} (gives : I → Option PacketEvent → I → Type 0) (first mid : I) (old new : Talk C) (sent : List ℕ) → gives first None mid → AnswersFrom None gives mid old new sent → AnswersAll gives first old new sent
from_none gives first mid old new sent gave (same, none) = record {
  heard = [];
  last = first;
  given = refl;
  responses = (same, none);
  ended = inr (mid, gave);
}

-- what was heard next is acknowledged, and answered with what is heard after it
pub from_given : {I C : Type 0} (gives : I → Option PacketEvent → I → Type 0) (first mid : I) (what : Option PacketEvent) (old new : Talk C) (acks : Bool) (sent : List ℕ) → is_over_in old ≡ false → acks ≡ acknowledges_in old → gives first what mid → AnswersFrom what gives mid old new sent
    → AnswersAll gives first old new (next_ack acks what ++ sent)
from_given gives first mid None old new acks sent ongoing is gave did = from_none gives first mid old new sent gave did
from_given gives first mid (Some what) old new acks sent ongoing is gave did =
    from_first gives first mid what old new (ack_text acks what) sent ongoing gave (ap (λ (x : Bool). ack_text x what) is) did

-- What remains to be answered: `sent` was sent so far, and whatever answers what was heard next, and what is heard after it, goes on
-- the whole so.
pub record GoesOn {I C : Type 0} (gives : I → Option PacketEvent → I → Type 0) (first next : Option PacketEvent) (begin heard : I) (old now : Talk C) (sent : List ℕ) : Type 0 where
  pub goes : (new : Talk C) (rest : List ℕ) → AnswersFrom next gives heard now new rest → AnswersFrom first gives begin old new (sent ++ rest)

-- one thing more was answered, and what was heard then is acknowledged
pub goes_on : {I C : Type 0} (gives : I → Option PacketEvent → I → Type 0) (first after : Option PacketEvent) (begin heard later : I) (what : PacketEvent) (old now mid : Talk C) (acks : Bool) (sent said : List ℕ) → GoesOn gives first (Some what) begin heard old now sent
    → Says what now mid said → is_over_in mid ≡ false → acks ≡ acknowledges_in mid → gives heard after later → GoesOn gives first after begin later old mid ((sent ++ said) ++ next_ack acks after)
goes_on {I} {C} gives first after begin heard later what old now mid acks sent said before says ongoing is gave = record {
  goes = λ new rest did. (
      let ack : List ℕ = next_ack acks after in
      let all : AnswersFrom first gives begin old new (sent ++ (said ++ (ack ++ rest))) =
      before.goes new (said ++ (ack ++ rest)) (mid, said, ack ++ rest, says, inr (ongoing, from_given gives heard later after mid new acks rest ongoing is gave did), refl) in
      let joined : sent ++ (said ++ (ack ++ rest)) ≡ ((sent ++ said) ++ ack) ++ rest = sym (append_assoc (sent ++ said) ack rest ∙ append_assoc sent said (ack ++ rest)) in
      let P : List ℕ → Type 0 = λ x. AnswersFrom first gives begin old new x in
      subst P joined all);
}

-- the talk is over
pub goes_over : {I C : Type 0} (gives : I → Option PacketEvent → I → Type 0) (first : Option PacketEvent) (begin heard : I) (what : PacketEvent) (old now new : Talk C) (sent said : List ℕ) → GoesOn gives first (Some what) begin heard old now sent
    → Says what now new said → is_over_in new ≡ true → AnswersFrom first gives begin old new (sent ++ said)
goes_over {I} {C} gives first begin heard what old now new sent said before says over =
    before.goes new said (new, said, [], says, inl (over, refl, refl), sym (append-nil said))

-- nothing more was heard
pub goes_none : {I C : Type 0} (gives : I → Option PacketEvent → I → Type 0) (first : Option PacketEvent) (begin heard : I) (old now : Talk C) (sent : List ℕ) → GoesOn gives first None begin heard old now sent → AnswersFrom first gives begin old now sent
goes_none {I} {C} gives first begin heard old now sent before =
    let P : List ℕ → Type 0 = λ x. AnswersFrom first gives begin old now x in
    subst P (append-nil sent) (before.goes now [] (refl, refl))

-- a finite iterator stays so, whatever a call gave
pub finite_on : {S A : Type 0} (can : S → Type 0) (left : S → Count) (s t : S) (r : Option A) → IsFinite (left s) → MakesProgress can left s r t → IsFinite (left t)
finite_on can left s t None finite goes = goes.rests finite
finite_on can left s t (Some x) finite goes = (goes.on finite).1
