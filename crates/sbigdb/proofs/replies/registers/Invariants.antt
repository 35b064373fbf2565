use Rattle.std.proofs.Common.{◌≡◌}
use Rattle.debug_session.specs.{Lives.register_in, Sessions.machine_of_session, Replies.registers_text}
use Rattle.sbigdb.proofs.replies.registers.Given as goal

abbrev pub invariant-loop-number : goal.invariant-loop-number
invariant-loop-number g l = record {
  same : l.session ≡ l.fn.session;
  text : l.out.items ≡ registers_text l.number (λ n. register_in l.fn.hart n (machine_of_session l.fn.session));
}
