use Rattle.std.proofs.Common.{⊎_elim, inl, inr, subst}
use Rattle.model_board.specs.Maps.{Keeps}
use Rattle.board_space.{specs.{Happenings.event_of, declared.happenings.Happening.Happening}, proofs.Ready.same_memory}
use Rattle.board_space.proofs.happenings.Happening.happen.Goals as goal

pub returns-in-Turn-clause-happens : goal.returns-in-Turn-clause-happens
returns-in-Turn-clause-happens c is = rw c.in-Turn.is (c.turn.ensures.turns c.args.payload.now)

pub returns-in-Turn-clause-memory : goal.returns-in-Turn-clause-memory
returns-in-Turn-clause-memory c map keeps = inl (c.turn.ensures.outside map (subst (λ (h : Happening). Keeps map (event_of h) c.args.board.now.board) c.in-Turn.is keeps))

pub returns-in-Refused-clause-memory : goal.returns-in-Refused-clause-memory
returns-in-Refused-clause-memory c map keeps = inl (c.refused.ensures.outside map (subst (λ (h : Happening). Keeps map (event_of h) c.args.board.now.board) c.in-Refused.is keeps))

pub returns-in-PowerOn-clause-memory : goal.returns-in-PowerOn-clause-memory
returns-in-PowerOn-clause-memory c map keeps =
    ⊎_elim
    (λ same. inl (same_memory map c.args.board.now.machine.memory c.power_on.new.self.machine.memory same))
    (λ boots. inr boots)
    c.power_on.ensures.memory

pub returns-in-Refused-clause-happens : goal.returns-in-Refused-clause-happens
returns-in-Refused-clause-happens c is = rw c.in-Refused.is (c.refused.ensures.refused is c.args.payload.now)

pub returns-in-Refused-clause-never : goal.returns-in-Refused-clause-never
returns-in-Refused-clause-never c is = rw c.in-Refused.is (c.refused.ensures.never is c.args.payload.now)

pub returns-in-Wake-clause-happens : goal.returns-in-Wake-clause-happens
returns-in-Wake-clause-happens c is = rw c.in-Wake.is (c.wake.ensures.wakes is c.args.payload.now)

pub returns-in-Wake-clause-never : goal.returns-in-Wake-clause-never
returns-in-Wake-clause-never c is = rw c.in-Wake.is (c.wake.ensures.never is c.args.payload.now)

pub returns-in-Cut-clause-happens : goal.returns-in-Cut-clause-happens
returns-in-Cut-clause-happens c is = rw c.in-Cut.is (c.cut.ensures.cuts c.args.payload.now)
