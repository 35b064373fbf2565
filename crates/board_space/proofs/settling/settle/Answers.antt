use Rattle.std.proofs.Common.{◌∙◌, subst}
use Rattle.board_model.specs.Shapes.{Size}
use Rattle.board_space.{specs.{Mapped.map_in, Space.SettlesSure}, proofs.Chains.{settles_on, outside_on}}
use Rattle.board_space.proofs.settling.settle.Goals.{in-Some, in_default}
use Rattle.board_space.proofs.settling.settle.Goals as goal

pub loop-number-preserved : goal.loop-number-preserved
loop-number-preserved c =
    elim c.match-one_of.branch [
      | in-Some w ↦
          let map = map_in c.args.map.now in
          let one = w.settle_one-turns.ensures in
          let until = c.loop-number.invariant in
          rw w.board-is (record {
            settles = settles_on c.args.board.now.size map c.args.leaves c.args.board.now.board c.loop-number.board.board w.settle_one-turns.new.board.board until.settles (subst (λ (s : Size). SettlesSure s map c.args.leaves c.loop-number.board.board w.settle_one-turns.new.board.board) until.size one.settles);
            size = one.size ∙ until.size;
            raw = one.raw ∙ until.raw;
            memory = outside_on map c.args.board.now.machine.memory c.loop-number.board.machine.memory w.settle_one-turns.new.board.machine.memory until.memory one.memory;
          })
      | in_default w ↦ rw w.board-is c.loop-number.invariant
    ]
