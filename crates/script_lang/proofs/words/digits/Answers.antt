use Rattle.std.proofs.{Common.{◌≡◌, ◌<◌, ◌+◌, ◌*◌, ◌^◌, arith}, lemmas.Grind.common_steps}
use Rattle.script_lang.proofs.Digits.{grown, narrow}
use Rattle.script_lang.proofs.words.digits.Goals as goal

pub overflow_mul-value : goal.overflow_mul-value
overflow_mul-value c =
    let radix = c.from-in-loop-b-2.result in
    let same : radix ≡ c.args.radix = c.from-in-loop-b-2.ensures in
    let next : c.loop-b.value * radix + 0 < 2 ^ (4 * (c.loop-b.b-index + 1)) = grown radix c.loop-b.value 0 c.loop-b.b-index (omega arith) (omega arith) c.loop-b.invariant.small in
    omega (arith, narrow (c.loop-b.b-index + 1) (c.loop-b.value * radix + 0) next (omega arith))

pub overflow_add-value : goal.overflow_add-value
overflow_add-value c =
    let radix = c.from-in-loop-b-2.result in
    let digit = c.from-in-loop-b-3.result in
    let is_digit : digit < radix = omega (arith, c.in_ok-digit.ensures.value.0, c.in_ok-digit.ensures.value.1) in
    let next : c.loop-b.value * radix + digit < 2 ^ (4 * (c.loop-b.b-index + 1)) = grown radix c.loop-b.value digit c.loop-b.b-index (omega arith) is_digit c.loop-b.invariant.small in
    omega (arith, narrow (c.loop-b.b-index + 1) (c.loop-b.value * radix + digit) next (omega arith))

pub loop-b-preserved : goal.loop-b-preserved
loop-b-preserved c =
    let radix = c.from-in-loop-b-2.result in
    let digit = c.from-in-loop-b-3.result in
    let is_digit : digit < radix = omega (arith, c.in_ok-digit.ensures.value.0, c.in_ok-digit.ensures.value.1) in
    record {
      same = grind (arith, common_steps, c.in_ok-digit.ensures.value.0, c.in_ok-digit.ensures.value.1);
      small = grown radix c.loop-b.value digit c.loop-b.b-index (omega arith) is_digit c.loop-b.invariant.small;
    }
