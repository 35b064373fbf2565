use Rattle.std.proofs.Common.{◌∙◌, ap, sym}
use Rattle.hart_threads.specs.{Ends.over_of, declared.loops.Why.Why}
use Rattle.hart_threads.proofs.ends.over_by.Goals as goal

pub returns-in-Life : goal.returns-in-Life
returns-in-Life g c = c.told_of.ensures ∙ sym (ap (λ (w : Why). over_of w c.args.told.now c.args.closed) c.in-Life.is)

pub returns-in-Closed : goal.returns-in-Closed
returns-in-Closed g c = sym (ap (λ (w : Why). over_of w c.args.told.now c.args.closed) c.in-Closed.is)

pub returns-in-Gate : goal.returns-in-Gate
returns-in-Gate g c = sym (ap (λ (w : Why). over_of w c.args.told.now c.args.closed) c.in-Gate.is)

pub returns-in-Turns : goal.returns-in-Turns
returns-in-Turns g c = sym (ap (λ (w : Why). over_of w c.args.told.now c.args.closed) c.in-Turns.is)
