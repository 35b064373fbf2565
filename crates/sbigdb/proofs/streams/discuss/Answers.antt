use Rattle.std.proofs.{Common.{◌++◌, true, sym}, lemmas.Result.on_ok_weaker}
use Rattle.board_model.proofs.Written.{appended}
use Rattle.sbigdb.{specs.Responses.next_ack, proofs.Responses.{finite_on, from_given}}
use Rattle.sbigdb.proofs.streams.discuss.Goals as goal

pub answers-requires-clause-ends : goal.answers-requires-clause-ends
answers-requires-clause-ends g c κs within = finite_on g.I.Iterator.can_next g.I.Iterator.remaining _ _ c.next-first.result c.requires.ends c.next-first.ensures.goes

pub returns : goal.returns
returns g c =
    let first = c.in-Ok-begin_talk.ensures.begins in
    record {
      sent = on_ok_weaker c.answers.result
          (λ did. (c.in-Ok-begin_talk.talk, c.answers.new.talk, next_ack true c.next-first.result ++ did.0, first, from_given g.I.Iterator.next_gives _ _ c.next-first.result c.in-Ok-begin_talk.talk c.answers.new.talk true did.0 first.ongoing (sym first.acknowledges) c.next-first.ensures.steps did.1, appended _ _ _ (next_ack true c.next-first.result) did.0 c.in-Ok.ensures did.2))
          c.answers.ensures.sent;
    }
