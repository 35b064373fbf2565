use Rattle.std.proofs.{Common.{◌+◌, ◌-◌, length, ap, sym, ◌∙◌, arith, bit_and}, lemmas.Nat.and_le_r}
use Rattle.state_space.proofs.Slots.{slot_first, slot_next, taken_more}
use Rattle.state_space.proofs.probes.free_slot.Goals as goal

pub loop-step-init : goal.loop-step-init
loop-step-init c = record {
  there = sym (slot_first (length c.args.slots.now - 1) c.args.hash);
  within = omega (arith, and_le_r c.args.hash (length c.args.slots.now - 1), c.requires);
  taken = λ j lt. absurd (omega arith);
}

pub loop-step-preserved : goal.loop-step-preserved
loop-step-preserved c = record {
  there = ap (λ n. bit_and (n + 1) (length c.args.slots.now - 1)) c.loop-step.invariant.there
      ∙ sym (slot_next (length c.args.slots.now - 1) c.args.hash c.loop-step.step);
  within = omega (arith, and_le_r (c.loop-step.place + 1) (length c.args.slots.now - 1), c.requires);
  taken = taken_more c.args.slots.now c.args.hash c.loop-step.step c.loop-step.place c.loop-step.invariant.there c.if-slots-place.false c.loop-step.invariant.taken;
}
