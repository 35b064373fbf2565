use Rattle.machine.proofs.Awake.{held_then}
use Rattle.machine.proofs.machine.Machine.wake.Goals as goal

pub invariant_of-self : goal.invariant_of-self
invariant_of-self c =
    let i = c.self.inside in
    held_then i.shape i.harts.items i.tables i.seats i.bus c.wake.new.bus c.wake.result c.wake.ensures.woken c.wake.ensures.refused c.self.invariant
