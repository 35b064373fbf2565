use Rattle.theorem.proofs.Opens.{cut}
use Rattle.theorem.proofs.stories.cut.Goals as goal

pub returns : goal.returns
returns c = λ size w off. cut size w _ _ _ _ off c.after_cut.ensures.left c.after_cut.ensures.fault_state
