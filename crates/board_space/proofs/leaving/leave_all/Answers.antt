use Rattle.std.proofs.Common.{◌∙◌}
use Rattle.model_board.proofs.Filling.{stands_on}
use Rattle.board_space.proofs.leaving.leave_all.Goals as goal
use Rattle.board_space.proofs.leaving.leave_all.Goals.{in-Some, in_default}

pub loop-number-preserved : goal.loop-number-preserved
loop-number-preserved c =
    elim c.match-one_of.branch [
      | in-Some w ↦
          let one = w.leave_out-missed.ensures in
          let until = c.loop-number.invariant in
          rw w.board-is (record {
            stands = stands_on w.leave_out-missed.new.board.board c.loop-number.board.board c.args.board.now.board one.stands until.stands;
            memory = one.memory ∙ until.memory;
            size = one.size ∙ until.size;
            raw = one.raw ∙ until.raw;
          })
      | in_default w ↦ rw w.board-is c.loop-number.invariant
    ]
