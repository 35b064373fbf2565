use Rattle.std.proofs.Common.{rules, ◌≡◌, ◌∷◌, refl}
use Rattle.state_space.proofs.counted.CountingSystem.start.Goals as goal

pub returns-clause-first : goal.returns-clause-first
returns-clause-first g c =
    let first = c.in_ok-row.ensures.first in
    let items : c.insert.new.self.items ≡ c.args.self.now.most ∷ c.in_ok-row.row.items = search rules in (
      record { state = first.0; left = c.args.self.now.most },
      (first.1, refl),
      (c.in_ok-row.row.items, items, first.2),
    )
