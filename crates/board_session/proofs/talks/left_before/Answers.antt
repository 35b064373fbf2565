use Rattle.std.proofs.Common.{Bool, sym, ap, ◌∙◌}
use Rattle.board_session.specs.Dialogues.{left_before_if}
use Rattle.board_session.proofs.talks.left_before.Goals as goal

pub returns-then-is_line : goal.returns-then-is_line
returns-then-is_line c = sym (ap (λ (b : Bool). left_before_if b c.args.ended) (sym c.is_line.ensures ∙ c.if-is_line.true))

pub returns-else-is_line : goal.returns-else-is_line
returns-else-is_line c = c.left_without.ensures ∙ sym (ap (λ (b : Bool). left_before_if b c.args.ended) (sym c.is_line.ensures ∙ c.if-is_line.false))
