use Rattle.std.{proofs.Common.{◌≡◌, ◌+◌, ap, ◌∙◌, arith}, specs.Int.bit_at}
use Rattle.hsm.proofs.marks.claimed_in.Goals as goal

pub returns-clause-bits : goal.returns-clause-bits
returns-clause-bits c = λ h lt.
    let place : 0 + h ≡ h = omega arith in
    c.in_byte.ensures.bits h lt ∙ ap (bit_at c.args.found) place
