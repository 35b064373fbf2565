use Rattle.std.proofs.Common.{ℕ, List, sym, subst}
use Rattle.board_space.specs.{Covering.StandsAll, Searches.StandsBy}
use Rattle.board_space.proofs.followed.is_followed.Goals as goal

pub is_away-requires : goal.is_away-requires
is_away-requires c =
    let known = c.requires.search.known c.args.row c.requires.row in
    record {
      known = (known.0, subst (λ (r : List ℕ). StandsBy c.args.bound (StandsAll c.args.space.now.leaves c.args.space.now.rows) r known.0) (sym c.row.ensures.row) known.1);
    }
