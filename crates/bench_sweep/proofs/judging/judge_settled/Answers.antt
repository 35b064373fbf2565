use Rattle.std.proofs.Common.{◌≡◌, ℕ, [], ◌∷◌, map, take, Some, refl, sym, ap, arith}
use Rattle.simdisk.specs.declared.fill.Fill.{Fill, TheVariants.{Byte, Alternating, Old, New}}
use Rattle.bench_sweep.{specs.{Reports.IsLeftBy, declared.rows.Row.Row, Swept.cell}, proofs.Alike.{kept_again, left_alike}}
use Rattle.bench_sweep.proofs.{Rowed.{judged_none, judged_more, judged_as}, Written.map_more}
use Rattle.bench_sweep.proofs.judging.judge_settled.Goals as goal

pub loop-fill-init : goal.loop-fill-init
loop-fill-init g c = λ b r. judged_none _ _ c.none-made.ensures.rows c.none-made.ensures.runs c.none-made.ensures.right

pub loop-fill-preserved : goal.loop-fill-preserved
loop-fill-preserved g c = λ b r.
    let size = c.args.runner.now.setting.shape.now in
    let disk = c.args.site.off.disk in
    let judged = judged_more _ _ _ [] _ (judged_none (IsLeftBy size b disk) _ c.none-once.ensures.rows c.none-once.ensures.runs c.none-once.ensures.right) (c.in_ok-judge_last.ensures.kept b r) in
    let Is : Row → Type 0 = IsLeftBy size b disk in
    let first = c.in_ok-repeat.ensures.kept in
    let kept = kept_again Is _ _ _ _ _ _ first.0 first.1 first.2 first.3 c.in_ok-repeat.ensures.runs c.repeat.ensures.right judged.each (λ row is. left_alike size b disk row c.args.point.caller c.args.point.number _ c.requires.same is) in
    judged_as _ _ _ _ (sym (map_more (λ (fill : Fill). cell c.args.point.caller c.args.point.number (Some fill)) _ c.loop-fill.fill-index _ (Byte 0) c.loop-fill-test.true refl))
    (judged_more _ _ _ _ _ (c.loop-fill.invariant b r) kept)

pub returns : goal.returns
returns g c = record {
  judged = (λ b r.
      let all : c.loop-fill.fill-index ≡ 5 = omega arith in
      judged_as _ _ _ _ (ap (λ (k : ℕ). map (λ (fill : Fill). cell c.args.point.caller c.args.point.number (Some fill)) (take k (Byte 0 ∷ Byte 255 ∷ Alternating ∷ Old ∷ New ∷ []))) all) (c.loop-fill.invariant b r));
}
