use Rattle.std.proofs.{Common.{◌∙◌}, lemmas.Bool.eqb-true}
use Rattle.model_board.proofs.Masked.{one_alone}
use Rattle.model_board.proofs.touches.is_alone.Goals as goal

pub returns-else-mask-eq0 : goal.returns-else-mask-eq0
returns-else-mask-eq0 c = λ e g ne has. one_alone c.args.mask c.number.result g c.number.ensures.range (eqb-true c.args.mask _ e) (λ same. ne (same ∙ c.number.ensures.value)) has
