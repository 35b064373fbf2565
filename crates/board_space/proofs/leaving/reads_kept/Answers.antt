use Rattle.model_board.specs.Events.{Turn}
use Rattle.board_space.proofs.Covered.{reads_none, reads_any}
use Rattle.board_space.proofs.leaving.reads_kept.Goals as goal

pub returns-then-not-leaves-clause-kept : goal.returns-then-not-leaves-clause-kept
returns-then-not-leaves-clause-kept c = λ e. reads_any c.args.leaves (Turn c.args.hart) c.args.board.now.board c.if-not-leaves.true

pub returns-clause-kept : goal.returns-clause-kept
returns-clause-kept c = λ e. reads_none c.args.leaves (Turn c.args.hart) c.args.board.now.board c.if-not-leaves.false (c.source_left_out.ensures.none c.in_default.is)
