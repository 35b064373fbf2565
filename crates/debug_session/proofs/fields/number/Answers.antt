use Rattle.std.proofs.Common.{◌+◌, ◌∙◌, ℕ, Option, Some, ap, drop, sym}
use Rattle.debug_session.{specs.Fields.with_digits, proofs.Written.front_here}
use Rattle.debug_session.proofs.fields.number.Goals as goal

pub loop-digit-preserved : goal.loop-digit-preserved
loop-digit-preserved c =
    let word = c.args.word.now in
    let i = c.loop-digit.digit-index in
    ap (λ (n : Option ℕ). with_digits n (drop (i + 1) word)) (sym c.in-Some.is ∙ c.with_digit.ensures)
    ∙ ap (with_digits (Some c.loop-digit.number)) (front_here word i c.loop-digit-test.true) ∙ c.loop-digit.invariant
