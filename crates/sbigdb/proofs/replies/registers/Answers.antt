use Rattle.std.proofs.Common.{◌∙◌, ◌++◌, ap, sym}
use Rattle.debug_session.{specs.{Lives.register_in, Sessions.machine_of_session, Replies.register_text}, proofs.Counted.counted_more}
use Rattle.sbigdb.proofs.replies.registers.Goals as goal

pub loop-number-preserved : goal.loop-number-preserved
loop-number-preserved g c =
    let n = c.loop-number.number in
    let all = machine_of_session c.args.session.now in
    let before = c.loop-number.invariant.same in
    record {
      same = c.register-value.ensures.same ∙ before;
      text =
          c.in_ok-put_register.ensures
          ∙ ap (λ v. c.loop-number.out.items ++ register_text n v)
          (c.register-value.ensures.shown ∙ ap (λ s. register_in c.args.hart n (machine_of_session s)) before)
          ∙ ap (λ x. x ++ register_text n (register_in c.args.hart n all)) c.loop-number.invariant.text
          ∙ sym (counted_more (λ k. register_text k (register_in c.args.hart k all)) n);
    }
