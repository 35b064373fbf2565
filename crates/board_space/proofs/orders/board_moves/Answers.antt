use Rattle.board_space.proofs.orders.board_moves.Goals as goal

pub returns : goal.returns
returns c =
    let m = c.local_turns_change_places.ensures in
    record {
      turns = m.turns;
      one = m.one;
      moves = m.moves;
      decides = m.decides;
      keeps_back = m.keeps_back;
      keeps_own = m.keeps_own;
      swaps = m.swaps;
    }
