use Rattle.std.proofs.{Common.{◌≡◌, ◌+◌, ◌-◌, true, length, ap, sym, ◌∙◌, arith, bit_and}, lemmas.Nat.and_le_r}
use Rattle.state_space.proofs.Slots.{slot_first, slot_next, taken_more, others_more}
use Rattle.state_space.proofs.probes.probe.Goals as goal

pub loop-step-init : goal.loop-step-init
loop-step-init g c = record {
  there = ap (λ h. bit_and h (length c.args.slots.now - 1)) c.hash.ensures
      ∙ sym (slot_first (length c.args.slots.now - 1) (g.P.Pool.hash_of c.args.key.now));
  within = omega (arith, and_le_r c.hash.result (length c.args.slots.now - 1), c.requires.some);
  taken = λ j lt. absurd (omega arith);
  others = λ j lt. absurd (omega arith);
}

pub loop-step-preserved : goal.loop-step-preserved
loop-step-preserved g c = record {
  there = ap (λ n. bit_and (n + 1) (length c.args.slots.now - 1)) c.loop-step.invariant.there
      ∙ sym (slot_next (length c.args.slots.now - 1) (g.P.Pool.hash_of c.args.key.now) c.loop-step.step);
  within = omega (arith, and_le_r (c.loop-step.place + 1) (length c.args.slots.now - 1), c.requires.some);
  taken = taken_more c.args.slots.now (g.P.Pool.hash_of c.args.key.now) c.loop-step.step c.loop-step.place c.loop-step.invariant.there c.if-number.false c.loop-step.invariant.taken;
  others = others_more (g.P.Pool.entry c.args.pool.now) c.args.slots.now (g.P.Pool.hash_of c.args.key.now) c.loop-step.step c.loop-step.place c.args.key.now c.loop-step.invariant.there
      (λ is. let yes : c.is_at.result ≡ true = c.is_at.ensures.1 is in absurd (cc))
      c.loop-step.invariant.others;
}
