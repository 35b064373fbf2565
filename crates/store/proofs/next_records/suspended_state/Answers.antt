use Rattle.std.proofs.Common.{◌∙◌, [], sym, rules}
use Rattle.board_model.specs.{Durable.Suspend, Shapes.board_size, Views.IsNextOf}
use Rattle.store.{specs.Standing.state_of, proofs.{Following.durable_same, Refusing.{suspend_fits, suspend_makes, suspend_refused}}}
use Rattle.store.proofs.next_records.suspended_state.Goals.{After-after_suspend}
use Rattle.store.proofs.next_records.suspended_state.Goals as goal

next : (c : After-after_suspend) → IsNextOf (state_of (board_size 0 0 0) c.args.old.now []) (Suspend c.args.at.hart c.args.at.address c.args.at.opaque []) c.after_suspend.result
next c = c.after_suspend.ensures (state_of (board_size 0 0 0) c.args.old.now []) [] (durable_same (board_size 0 0 0) c.args.old.now [] ∙ sym c.durable.ensures)

pub returns-clause-ok : goal.returns-clause-ok
returns-clause-ok c = suspend_fits c.args.old.now c.args.at c.after_suspend.result (search rules) (next c)

pub returns-clause-after : goal.returns-clause-after
returns-clause-after c = suspend_makes c.args.old.now c.args.at c.after_suspend.result (next c)

pub returns-clause-refused : goal.returns-clause-refused
returns-clause-refused c = suspend_refused c.args.old.now c.args.at c.after_suspend.result (next c)
