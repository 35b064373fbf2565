use Rattle.std.proofs.Common.{sym, ◌∙◌}
use Rattle.state_space.proofs.Parts.{row_stays}
use Rattle.state_space.proofs.row_pool.RowPoolPoolU32.push.Goals as goal

pub returns-clause-stay : goal.returns-clause-stay
returns-clause-stay c k lt =
    row_stays c.args.self.now.numbers.items c.extend_from_slice.new.self.items c.args.key.now c.args.self.now.count c.args.self.now.width k
    c.in_ok-extend_from_slice.ensures.items (sym c.args.self.now.numbers.ok.0 ∙ c.args.self.now.whole) lt
