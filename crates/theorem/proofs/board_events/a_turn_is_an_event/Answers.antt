use Rattle.theorem.proofs.Modelled.{cut_within, leaves_now, stays_down, turn_is_event, turn_leaves_board}
use Rattle.theorem.proofs.board_events.a_turn_is_an_event.Goals as goal

pub returns-clause-event : goal.returns-clause-event
returns-clause-event g c payload = turn_is_event c.step_keeps_number.ensures _ _ _ _ _ _ c.requires.board c.requires.hart payload c.turn.ensures.turns

pub returns-clause-board : goal.returns-clause-board
returns-clause-board g c = turn_leaves_board c.step_keeps_number.ensures _ _ _ _ _ _ c.requires.board c.requires.hart c.turn.ensures.turns

pub returns-clause-cuts : goal.returns-clause-cuts
returns-clause-cuts g c up only = cut_within c.step_keeps_number.ensures _ _ _ _ _ _ c.requires.board c.requires.hart (g.met.D.Disk.only_now _) up only c.turn.ensures.turns

pub returns-clause-sure : goal.returns-clause-sure
returns-clause-sure g c up calm only = leaves_now c.step_keeps_number.ensures _ _ _ _ _ _ c.requires.board c.requires.hart up calm only c.turn.ensures.turns

pub returns-clause-down : goal.returns-clause-down
returns-clause-down g c d is = stays_down c.step_keeps_number.ensures _ _ _ _ _ _ c.requires.board c.requires.hart d is c.turn.ensures.turns
