use Rattle.std.proofs.Common.{◌<◌, arith}
use Rattle.board_space.proofs.space.BoardSpace.changes_by.Goals as goal

pub returns-in-Some-clause-changes : goal.returns-in-Some-clause-changes
returns-in-Some-clause-changes c is b d stands for all =
    let known : c.in-Some.hart < c.args.self.now.shape.harts = omega (arith, c.in-Some.ensures.some.0, c.in-Some.ensures.some.1) in
    c.changes.ensures.changes is b d stands for (λ f turn. all c.in-Some.hart f known turn)
