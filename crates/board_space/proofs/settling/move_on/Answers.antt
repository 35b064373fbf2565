use Rattle.std.proofs.Common.{subst}
use Rattle.model_board.specs.{Maps.Local, Plain.Sized, Registers.MovesPc}
use Rattle.board_space.specs.Mapped.{map_in}
use Rattle.board_space.proofs.settling.move_on.Goals as goal

pub returns-clause-local : goal.returns-clause-local
returns-clause-local c = λ e.
    let was = c.reads_kept.ensures.same in (
      (c.requires, subst (λ (s : Sized). Local (map_in c.args.map.now) c.args.hart s.board c.move_alone.new.self.board) was (c.move_alone.ensures.local e)),
      c.reads_kept.ensures.kept c.if-not-reads_kept.false,
      subst (λ (s : Sized). MovesPc c.args.hart s.board c.move_alone.new.self.board) was (c.move_alone.ensures.moves e),
    )
