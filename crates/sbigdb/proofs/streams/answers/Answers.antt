use Rattle.std.proofs.Common.{Option, [], ◌++◌, ◌∙◌, sym, subst}
use Rattle.board_model.proofs.Written.{appended, unwritten}
use Rattle.debug_session.specs.declared.heard.PacketEvent.{PacketEvent}
use Rattle.sbigdb.{specs.Responses.next_ack, proofs.Responses.{GoesOn, finite_on, goes_none, goes_on, goes_over}}
use Rattle.sbigdb.proofs.streams.answers.Goals as goal

pub loop-next-init : goal.loop-next-init
loop-next-init g c = record { at = c.requires.at; can = c.requires.can; ends = c.requires.ends; sent = ([], record { goes = λ new rest did. did }, unwritten _) }

pub loop-next-preserved : goal.loop-next-preserved
loop-next-preserved g c =
    let was = c.loop-next.invariant in
    let did = c.in_ok-respond.ensures in
    let ack = next_ack c.acknowledges.result c.next-next.result in
    let P : Option PacketEvent → Type 0 = λ x. GoesOn g.I.Iterator.next_gives c.args.first x c.args.heard c.loop-next.heard c.args.talk.now c.loop-next.talk was.sent.0 in
    record {
      at = did.at;
      can = c.next-next.ensures.goes.keeps;
      ends = finite_on g.I.Iterator.can_next g.I.Iterator.remaining _ _ c.next-next.result was.ends c.next-next.ensures.goes;
      sent = (
        (was.sent.0 ++ did.sent.0) ++ ack,
        goes_on g.I.Iterator.next_gives c.args.first c.next-next.result c.args.heard c.loop-next.heard c.next-next.new.self c.in-Some.what c.args.talk.now c.loop-next.talk c.respond.new.talk c.acknowledges.result was.sent.0 did.sent.0 (subst P c.in-Some.is was.sent.1) did.sent.1 (sym c.is_over.ensures ∙ c.if-is_over.false) c.acknowledges.ensures c.next-next.ensures.steps,
        appended _ _ _ (was.sent.0 ++ did.sent.0) ack (appended _ _ _ was.sent.0 did.sent.0 was.sent.2 did.sent.2) c.in_ok-confirm.ensures,
      );
    }

pub returns-then-is_over : goal.returns-then-is_over
returns-then-is_over g c =
    let was = c.loop-next.invariant in
    let did = c.in_ok-respond.ensures in
    let P : Option PacketEvent → Type 0 = λ x. GoesOn g.I.Iterator.next_gives c.args.first x c.args.heard c.loop-next.heard c.args.talk.now c.loop-next.talk was.sent.0 in
    record {
      sent = (
        was.sent.0 ++ did.sent.0,
        goes_over g.I.Iterator.next_gives c.args.first c.args.heard c.loop-next.heard c.in-Some.what c.args.talk.now c.loop-next.talk c.respond.new.talk was.sent.0 did.sent.0 (subst P c.in-Some.is was.sent.1) did.sent.1 (sym c.is_over.ensures ∙ c.if-is_over.true),
        appended _ _ _ was.sent.0 did.sent.0 was.sent.2 did.sent.2,
      );
    }

pub returns : goal.returns
returns g c =
    let was = c.loop-next.invariant in
    let P : Option PacketEvent → Type 0 = λ x. GoesOn g.I.Iterator.next_gives c.args.first x c.args.heard c.loop-next.heard c.args.talk.now c.loop-next.talk was.sent.0 in
    record { sent = (was.sent.0, goes_none g.I.Iterator.next_gives c.args.first c.args.heard c.loop-next.heard c.args.talk.now c.loop-next.talk was.sent.0 (subst P c.in_default.is was.sent.1), was.sent.2) }
