use Rattle.std.{proofs.Common.{◌∙◌, List, ℕ, nat_eq, ap, sym}, specs.List.starts_with}
use Rattle.bench_program.proofs.Tested.{all_left, word_here, word_later}
use Rattle.bench_program.proofs.taps.has_word.Goals as goal

pub returns-then-starts_with : goal.returns-then-starts_with
returns-then-starts_with c =
    let left = all_left c.args.line.now c.loop-place.place c.loop-place-test.true in
    sym (word_here c.args.word.now c.args.line.now c.loop-place.place c.loop-place-test.true c.loop-place.invariant (sym (c.starts_with.ensures.value ∙ ap (λ (xs : List ℕ). starts_with nat_eq xs c.args.word.now) left) ∙ c.if-starts_with.true))

pub loop-place-preserved : goal.loop-place-preserved
loop-place-preserved c =
    let left = all_left c.args.line.now c.loop-place.place c.loop-place-test.true in
    word_later c.args.word.now c.args.line.now c.loop-place.place c.loop-place-test.true c.loop-place.invariant (sym (c.starts_with.ensures.value ∙ ap (λ (xs : List ℕ). starts_with nat_eq xs c.args.word.now) left) ∙ c.if-starts_with.false)
