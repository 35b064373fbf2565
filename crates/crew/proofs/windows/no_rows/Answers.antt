use Rattle.std.proofs.{Common.{◌≡◌, ◌∙◌, ◌+◌, ℕ, [], ◌∷◌, ◌++◌, None, length, refl, ap, arith}, lemmas.List.length_push}
use Rattle.std.proofs.lemmas.{List.Elements.{All-same, All-nil, All-push}, Result.IfOk-from_err}
use Rattle.crew.proofs.windows.no_rows.Goals as goal

pub loop-init : goal.loop-init
loop-init g c =
    (ap length c.new-slots.ensures.items, All-same (λ slot. slot ≡ None) c.new-slots.result.items [] c.new-slots.ensures.items (All-nil (λ slot. slot ≡ None)))

pub loop-smaller : goal.loop-smaller
loop-smaller g c = omega (arith, c.loop-test.true)

pub loop-preserved : goal.loop-preserved
loop-preserved g c =
    let before = c.loop.slots.items in
    let is = c.in_ok-push.ensures.items in (
      ap length is ∙ (length_push before None ∙ ap (λ (n : ℕ). n + 1) c.loop.invariant.0),
      All-same (λ slot. slot ≡ None) c.push.new.self.items (before ++ None ∷ []) is (All-push (λ slot. slot ≡ None) before None c.loop.invariant.1 refl),
    )

pub returns : goal.returns
returns g c = record {
  slots = (
      let all : c.loop.counter ≡ c.args.count = omega (arith, c.loop-test.false, c.loop.auto.counter-end) in
      (c.loop.invariant.0 ∙ all, c.loop.invariant.1));
}

pub returns-in_err-push : goal.returns-in_err-push
returns-in_err-push g c = record { slots = (IfOk-from_err c.from_residual.result _ c.from_residual.ensures.0) }
