use Rattle.std.proofs.Common.{is_ok}
use Rattle.crew.{specs.Handed.IsPlaced, proofs.Placing.joined_each}
use Rattle.crew.proofs.hands.with_others.Goals as goal

pub returns : goal.returns
returns g c =
    joined_each (IsPlaced (g.T.Task.is_row c.args.task.now) c.args.first c.args.size) (is_ok c.append-all.result) c.args.made.items c.args.others.items c.append-all.new.self.items c.append-all.ensures.items c.requires.made c.requires.others
