use Rattle.std.proofs.{lemmas.Result.IfOk-weaker, Math.Logic.∥∥₁_map}
use Rattle.theorem.proofs.sessions.an_open_finds_some_first.Goals as goal

pub returns : goal.returns
returns g c = λ size s commands least of.
    IfOk-weaker c.open.result _ _ (λ next opened. ∥∥₁_map of (λ is. (is.0, is.1, is.2, (c.content_determines_state.ensures.one _ _ _ _ _ opened.reads is.3).1))) c.open.ensures.opened
