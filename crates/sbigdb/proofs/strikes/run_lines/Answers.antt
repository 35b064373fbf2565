use Rattle.std.proofs.{Common.{List, arith, subst}, lemmas.List.take_all}
use Rattle.script_lang.specs.declared.line.Line.{Line}
use Rattle.sbigdb.{specs.Strikes.RanTo, proofs.Struck.{ran_next, ran_none}}
use Rattle.sbigdb.proofs.strikes.run_lines.Goals as goal

pub loop-line-init : goal.loop-line-init
loop-line-init g c = record { sound = c.requires.sound; ran = ran_none c.args.setting.now.shape.now c.args.live.now }

pub loop-line-preserved : goal.loop-line-preserved
loop-line-preserved g c = record {
  sound = c.in_ok-run_line.ensures.sound;
  ran = ran_next c.args.setting.now.shape.now c.args.lines.now c.loop-line.line-index c.line-item.result c.in_ok-run_line.field-0 c.args.live.now c.loop-line.live c.run_line.new.live
      c.loop-line-test.true c.line-item.is c.loop-line.invariant.ran (λ b shows. let did = c.in_ok-run_line.ensures.stepped b shows in (did.0, did.1, did.2));
}

pub returns-clause-ran : goal.returns-clause-ran
returns-clause-ran g c =
    let P : List Line → Type 0 = λ xs. RanTo c.args.setting.now.shape.now xs c.args.live.now c.loop-line.live in
    subst P (take_all c.loop-line.line-index c.args.lines.now (omega (arith, c.loop-line-test.false))) c.loop-line.invariant.ran
