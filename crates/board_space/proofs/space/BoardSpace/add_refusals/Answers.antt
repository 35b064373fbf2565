use Rattle.std.proofs.Common.{◌≤◌, arith}
use Rattle.board_space.{specs.{Covering.StandsAll, Mapped.map_in, Settings.asked_of}, proofs.{Moves.told_skipped, Skipped.no_refusal}}
use Rattle.board_space.proofs.space.BoardSpace.add_refusals.Goals as goal

pub returns-then-not-asks-clause-told : goal.returns-then-not-asks-clause-told
returns-then-not-asks-clause-told c b stands =
    let few : c.args.self.now.shape.harts ≤ 8 = omega (arith, c.harts-harts.ensures.value, c.harts-harts.ensures.range.1) in
    told_skipped (asked_of c.args.self.now) (map_in c.args.self.now.map) c.args.self.now.leaves (StandsAll c.args.self.now.leaves c.args.self.now.rows) c.args.found.now b 8 24
    (λ f d from to did. no_refusal (asked_of c.args.self.now) b few (c.requires.asks c.if-not-asks.true b stands) f d from to did)
    (c.requires.told b stands)
