use Rattle.std.proofs.{Common.{List, All, subst, sym}, lemmas.Result.IfOk-weaker}
use Rattle.script_lang.specs.{Lines.IsLineInRange, declared.line.Line.Line}
use Rattle.report_lines.specs.declared.printed.Answer.{Answer}
use Rattle.bench_schedules.{specs.Schedules.RanLike, proofs.Lines.ran_of}
use Rattle.bench_schedules.proofs.benches.run_schedule.Goals as goal

pub run_until-requires-clause-ranges : goal.run_until-requires-clause-ranges
run_until-requires-clause-ranges g c = λ lives within.
    let size = c.args.runner.now.setting.shape.now in
    let P : List Line → Type 0 = λ ls. All (IsLineInRange size) ls in
    subst P (sym c.deref.ensures.value) (c.in_ok-lines.ensures.order.ranges size c.requires.drawable.ranges)

pub returns : goal.returns
returns g c = record {
  ran = (
      let own = c.args.own.now in
      let size = c.args.runner.now.setting.shape.now in
      let start = c.args.runner.now.payloads.now in
      let drawable = c.requires.drawable in
      IfOk-weaker c.run_until.result _ _
      (λ differs ran.
      (let P : List Line → Type 0 = λ ls. RanLike size start ls own.answers.items differs in
      let Q : List Answer → Type 0 = λ said. RanLike size start c.deref.result.now said differs in
      ran_of size start c.args.runner.now.lines.now c.in_ok-lines.lines.items own.answers.items differs drawable.sized c.in_ok-lines.ensures.order c.in_ok-lines.ensures.few drawable.ranges drawable.fits
      (subst P c.deref.ensures.value (subst Q c.deref-2.ensures.value ran))))
      c.run_until.ensures.ran);
}
