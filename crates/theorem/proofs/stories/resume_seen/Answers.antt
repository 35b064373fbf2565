use Rattle.std.proofs.Common.{◌∙◌, refl, inl, inr}
use Rattle.theorem.proofs.Stays.{no_doubt}
use Rattle.theorem.proofs.stories.resume_seen.Goals as goal

pub returns-in-Some : goal.returns-in-Some
returns-in-Some c = λ w on. (w, inr ((λ up none. no_doubt w.doubt _ up (on.doubt ∙ c.in-Some.ensures.1)), inl ((_, on.doubt ∙ c.in-Some.ensures.1), refl)), on)
