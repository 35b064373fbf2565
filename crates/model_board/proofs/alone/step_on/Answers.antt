use Rattle.model_board.proofs.ByMap.{step_still}
use Rattle.model_board.proofs.alone.step_on.Goals as goal

pub returns-then-not-moved-clause-stays : goal.returns-then-not-moved-clause-stays
returns-then-not-moved-clause-stays c = λ stays. (c.copy-before.ensures, step_still _ _ _ _ _ _ c.step-outcome.ensures (λ e. let f = c.goes_on-moved.ensures.stays stays e in cc))
