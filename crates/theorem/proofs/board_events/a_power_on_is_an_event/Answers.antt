use Rattle.store.specs.Views.{view_of}
use Rattle.board.specs.Views.{machine_of, store_of}
use Rattle.theorem.proofs.Modelled.{if_so, on_is_event, on_is_sure, on_of_board}
use Rattle.theorem.proofs.board_events.a_power_on_is_an_event.Goals as goal

pub returns-clause-event : goal.returns-clause-event
returns-clause-event g c = if_so c.power_on.result _ _ (λ board on. on_is_event c.args.payloads.now (g.D.Disk.facts c.args.disk) (view_of (store_of board)) (machine_of board) c.args.mode on) c.power_on.ensures.on

pub returns-clause-found : goal.returns-clause-found
returns-clause-found g c = if_so c.power_on.result _ _ (λ board on. on.found) c.power_on.ensures.on

pub returns-clause-sure : goal.returns-clause-sure
returns-clause-sure g c = if_so c.power_on.result _ _ (λ board on. (on_is_sure c.args.payloads.now (g.D.Disk.facts c.args.disk) (view_of (store_of board)) (machine_of board) c.args.mode on, on.only)) c.power_on.ensures.on

pub returns-clause-board : goal.returns-clause-board
returns-clause-board g c = if_so c.power_on.result _ _ (λ board on. on_of_board c.args.payloads.now (g.D.Disk.facts c.args.disk) (view_of (store_of board)) (machine_of board) c.args.mode on.begun) c.power_on.ensures.on
