use Rattle.board_space.proofs.leaving.boards_stand.Goals as goal

pub returns : goal.returns
returns c =
    let m = c.left_out_registers_change_nothing.ensures in
    record {
      event = m.event;
      back = m.back;
      keeps = m.keeps;
      local = m.local;
      rests = m.rests;
    }
