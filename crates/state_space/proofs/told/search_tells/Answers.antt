use Rattle.state_space.proofs.Tells.{row_reached, found_covered, end_reached, dead_endless}
use Rattle.state_space.proofs.told.search_tells.Goals as goal

pub returns-clause-reached : goal.returns-clause-reached
returns-clause-reached g c system graph searched k within =
    row_reached (g.S.System.rules (g.S.System.setting system)) (g.S.System.stands system) graph searched k within

pub returns-clause-closed : goal.returns-clause-closed
returns-clause-closed g c system graph searched all =
    found_covered (g.S.System.rules (g.S.System.setting system)) (g.S.System.stands system) graph searched all

pub returns-clause-can_end : goal.returns-clause-can_end
returns-clause-can_end g c system graph k b searched reaches has =
    end_reached (g.S.System.rules (g.S.System.setting system)) (g.S.System.stands system) graph searched k b reaches has

pub returns-clause-dead : goal.returns-clause-dead
returns-clause-dead g c system graph searched all =
    dead_endless (g.S.System.rules (g.S.System.setting system)) (g.S.System.stands system) graph searched all
