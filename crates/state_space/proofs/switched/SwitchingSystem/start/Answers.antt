use Rattle.std.proofs.Common.{None, refl, arith}
use Rattle.state_space.proofs.switched.SwitchingSystem.start.Goals as goal

pub returns-clause-first : goal.returns-clause-first
returns-clause-first g c =
    let first = c.in_ok-row.ensures.first in (
      record { state = first.0; budget = record { last = None; left = c.args.self.now.switches } },
      (first.1, (refl, omega arith)),
      (c.in_ok-row.row.items, c.in_ok-put_first.ensures, first.2),
    )
