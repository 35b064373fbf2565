use Rattle.std.proofs.Common.{◌≡◌, Bool, ◌%◌, ◌^◌, ◌∙◌, refl, arith}
use Rattle.hsm.{specs.Outcomes.is_alone, proofs.{Bits.low_bits, Quieting.{quiet_alone, quiet_stands, quiet_keeps}}}
use Rattle.hsm.proofs.calls.quiet.Goals.{After-eq}
use Rattle.hsm.proofs.calls.quiet.Goals as goal

-- the answer is whether the hart alone is claimed
tested : (c : After-eq)
    → ◌≡◌ {A = Bool} c.eq.result (is_alone c.args.table.now.table.shared.key.harts c.args.by c.quiet-found.result)
tested c =
    let few = c.harts-harts.ensures.range.1 in
    let size = c.harts-harts.ensures.value in
    let n = c.args.table.now.table.shared.key.harts in
    let low : c.below.result ≡ c.quiet-found.result % 2 ^ n = c.below.ensures ∙ rw (c.harts-harts.ensures.value, c.claimed_in.ensures.value) (low_bits c.quiet-found.result n (omega arith)) in
    c.eq.ensures ∙ rw (low, c.only.ensures) refl

pub returns-clause-stands : goal.returns-clause-stands
returns-clause-stands c =
    rw (tested (goal.at.returns-clause-stands c).After-eq)
    (quiet_stands c.args.table.now.table.shared.key.harts c.args.by c.quiet-found.result c.args.seat.me.0 c.quiet-found.new.seat.me.0 c.quiet-found.ensures.told c.requires.acts)

pub returns-clause-still : goal.returns-clause-still
returns-clause-still c = rw (tested (goal.at.returns-clause-still c).After-eq) c.quiet-found.ensures.still

pub returns-clause-steps : goal.returns-clause-steps
returns-clause-steps c = (c.quiet-found.result, rw (tested (goal.at.returns-clause-steps c).After-eq) c.quiet-found.ensures.alone, c.quiet-found.ensures.told)

pub returns-clause-others : goal.returns-clause-others
returns-clause-others c =
    quiet_keeps c.args.table.now.table.shared.key.harts c.args.by c.quiet-found.result c.args.seat.me.0 c.quiet-found.new.seat.me.0 c.quiet-found.ensures.told c.requires.acts

pub returns-clause-alone : goal.returns-clause-alone
returns-clause-alone c =
    rw (tested (goal.at.returns-clause-alone c).After-eq)
    (quiet_alone c.args.table.now.table.shared.key.harts c.args.by c.quiet-found.result c.args.seat.me.0 c.quiet-found.new.seat.me.0 c.quiet-found.ensures.told c.requires.acts c.quiet-found.ensures.alone c.quiet-found.ensures.tells)
