use Rattle.std.proofs.{Common.{◌≡◌, ℕ, [], ◌∷◌, map, take, Some, refl, sym, ap, arith}, lemmas.Result.IfOk-from_err}
use Rattle.simdisk.specs.declared.fill.Fill.{Fill, TheVariants.{Byte, Alternating, Old}}
use Rattle.bench_sweep.{specs.Swept.cell, proofs.{Rowed.{judged_none, judged_more, judged_as}, Written.map_more}}
use Rattle.bench_sweep.proofs.judging.judge_each_fill.Goals as goal

pub loop-fill-init : goal.loop-fill-init
loop-fill-init g c = λ b r. judged_none _ _ c.none-made.ensures.rows c.none-made.ensures.runs c.none-made.ensures.right

pub judge_settled-requires-clause-same : goal.judge_settled-requires-clause-same
judge_settled-requires-clause-same g c κs within = c.is_settled.ensures c.if-is_settled.true

pub loop-fill-preserved : goal.loop-fill-preserved
loop-fill-preserved g c = λ b r.
    judged_as _ _ _ _ (sym (map_more (λ (fill : Fill). cell c.args.point.caller c.args.point.number (Some fill)) _ c.loop-fill.fill-index _ (Byte 0) c.loop-fill-test.true refl))
    (judged_more _ _ _ _ _ (c.loop-fill.invariant b r) (c.in_ok-judge_run.ensures.kept b r))

pub returns : goal.returns
returns g c = record {
  judged = (λ b r.
      let all : c.loop-fill.fill-index ≡ 4 = omega arith in
      judged_more _ _ _ _ _
      (judged_as _ _ _ _ (ap (λ (k : ℕ). map (λ (fill : Fill). cell c.args.point.caller c.args.point.number (Some fill)) (take k (Byte 0 ∷ Byte 255 ∷ Alternating ∷ Old ∷ []))) all) (c.loop-fill.invariant b r))
      (c.in_ok-judge_last.ensures.kept b r));
}

pub judge_last-requires-clause-sits : goal.judge_last-requires-clause-sits
judge_last-requires-clause-sits g c κs within = c.requires.sits

pub judge_run-requires-clause-sits : goal.judge_run-requires-clause-sits
judge_run-requires-clause-sits g c κs within = c.requires.sits

pub judge_settled-requires-clause-sits : goal.judge_settled-requires-clause-sits
judge_settled-requires-clause-sits g c κs within = c.requires.sits

pub returns-in_err-judge_last : goal.returns-in_err-judge_last
returns-in_err-judge_last g c = record { judged = (IfOk-from_err c.from_residual-in_err-judge_last.result _ c.from_residual-in_err-judge_last.ensures.0) }

pub returns-in_err-judge_run : goal.returns-in_err-judge_run
returns-in_err-judge_run g c = record { judged = (IfOk-from_err c.from_residual.result _ c.from_residual.ensures.0) }

pub returns-then-is_settled : goal.returns-then-is_settled
returns-then-is_settled g c = record { judged = (c.judge_settled.ensures.judged) }
