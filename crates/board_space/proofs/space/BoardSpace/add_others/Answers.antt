use Rattle.std.proofs.{Common.{◌≤◌, arith}, lemmas.Result.IfOk-weaker}
use Rattle.board_space.{specs.{Covering.StandsAll, Mapped.map_in, Settings.asked_of}, proofs.Moves.told_skipped}
use Rattle.board_space.proofs.Skipped.{no_wake, no_power_on}
use Rattle.board_space.proofs.space.BoardSpace.add_others.Goals as goal

pub add_some-requires-2-clause-told : goal.add_some-requires-2-clause-told
add_some-requires-2-clause-told c b stands =
    let few : c.args.self.now.shape.harts ≤ 8 = omega (arith, c.harts-harts.ensures.value, c.harts-harts.ensures.range.1) in
    told_skipped (asked_of c.args.self.now) (map_in c.args.self.now.map) c.args.self.now.leaves (StandsAll c.args.self.now.leaves c.args.self.now.rows) c.args.found.now b 24 25
    (λ f d from to did. no_wake (asked_of c.args.self.now) b few (c.is_awake.ensures c.if-not-is_awake.false b stands) f d from to did)
    (c.requires.told b stands)

pub returns-clause-told : goal.returns-clause-told
returns-clause-told c =
    let few : c.args.self.now.shape.harts ≤ 8 = omega (arith, c.harts-harts.ensures.value, c.harts-harts.ensures.range.1) in
    IfOk-weaker c.add_some-2.result _ _
    (λ x told b stands.
    told_skipped (asked_of c.args.self.now) (map_in c.args.self.now.map) c.args.self.now.leaves (StandsAll c.args.self.now.leaves c.add_some-2.new.self.rows) c.add_some-2.new.found b 26 27
    (λ f d from to did. no_power_on (asked_of c.args.self.now) b few (c.is_awake.ensures c.if-not-is_awake.false b stands) f d from to did)
    (told b stands))
    c.add_some-2.ensures.told
