use Rattle.std.proofs.{Common.{ℕ, List, [], Vec, Global, ◌∙◌, ap, map, refl, sym, subst}, lemmas.Result.on_ok_weaker}
use Rattle.std.specs.Io.KnownBytes.{Appends}
use Rattle.board_model.proofs.Written.{unwritten}
use Rattle.debug_session.specs.{declared.heard.PacketEvent.PacketEvent, Replies.packets_of}
use Rattle.sbigdb.{specs.{Answers.IsAnswer, Responses.Says}, proofs.Responses.says_nothing}
use Rattle.sbigdb.proofs.streams.respond.Goals as goal

pub returns-in_ok-sent-in-Packet-clause-sent : goal.returns-in_ok-sent-in-Packet-clause-sent
returns-in_ok-sent-in-Packet-clause-sent g c =
    let payloads : List (List ℕ) = map (λ v. v.items) c.in_ok-payloads-in-Packet.payloads.items in
    let by = c.in_ok-payloads-in-Packet.ensures in
    let P : List ℕ → Type 0 = λ bytes. IsAnswer bytes c.args.talk.now c.answer.new.self payloads in
    let told : P c.in-Packet.packet.items = subst P c.deref.ensures.value (record { replied = by.replied; shown = by.shown; moved = by.moved; listed = by.listed; kept = by.kept; plan = by.rest.1 }) in
    let is = c.keep.ensures.sent ∙ c.in_ok-sent-in-Packet.ensures ∙ ap (λ (xs : List (Vec ℕ Global)). packets_of (map (λ v. v.items) xs)) c.deref-in-Packet.ensures.value in
    let Q : PacketEvent → Type 0 = λ x. Says x c.args.talk.now c.keep.new.self (packets_of payloads) in
    let R : List ℕ → Type 0 = λ said. Appends (g.W.Write.contents c.args.out.now) (g.W.Write.contents c.send_answer.new.out) said in
    on_ok_weaker c.send_answer.result
    (λ sent. (packets_of payloads, subst Q (sym c.in-Packet.is) (payloads, (c.answer.new.self, told, c.keep.ensures.rest, is), refl), subst R is sent))
    c.send_answer.ensures

pub returns-in_default-clause-sent : goal.returns-in_default-clause-sent
returns-in_default-clause-sent g c = ([], says_nothing c.args.what c.args.talk.now c.in_default.not-Packet c.in_default.not-Damaged c.in_default.not-Again, unwritten _)
