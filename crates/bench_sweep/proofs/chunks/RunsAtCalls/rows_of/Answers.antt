use Rattle.std.proofs.{Common.{◌≡◌, ◌≤◌, ◌∷◌, ◌++◌, [], List, length, ap, sym, subst, rules, arith}, lemmas.List.length-append}
use Rattle.std.proofs.lemmas.Result.{IfOk-from_err}
use Rattle.bench_report.specs.Happens.{unpowered}
use Rattle.crew.specs.Handed.{AreRows}
use Rattle.bench_sweep.{specs.{Reports.IsOfCall, declared.judging.PointRows.PointRows}, proofs.Along.rows_more}
use Rattle.bench_sweep.proofs.chunks.RunsAtCalls.rows_of.Goals as goal

pub loop-done-init : goal.loop-done-init
loop-done-init g c =
    let self = c.args.self.now in
    let runner = self.runner.now in
    let is = IsOfCall runner.setting.shape.now runner.bench self.caller self.before runner.lines.now self.site.now in
    let items : c.args.rows.now.items ≡ [] = c.requires.none in
    let A : List PointRows → Type 0 = λ rows. AreRows is c.args.window.from rows in
    let none : length c.args.rows.now.items ≡ 0 = ap (λ (rows : List PointRows). length rows) items in record {
      few = omega (arith, c.in_ok-moment.ensures.none);
      came = λ b r. c.in_ok-moment.ensures.came runner.setting.shape.now b runner.lines.now r;
      many = omega (arith, none);
      are = subst A (sym items) tt;
    }

pub next_rows-requires-clause-sits : goal.next_rows-requires-clause-sits
next_rows-requires-clause-sits g c κs within = let sits = c.requires.sits in (unpowered sits.0, c.loop-done.invariant.came sits.0 sits.1)

pub loop-done-preserved : goal.loop-done-preserved
loop-done-preserved g c =
    let self = c.args.self.now in
    let runner = self.runner.now in
    let i = c.loop-done.invariant in
    let from = c.args.window.from in
    let next = c.in-Ok in
    let is = IsOfCall runner.setting.shape.now runner.bench self.caller self.before runner.lines.now self.site.now in
    let long = length-append c.loop-done.rows.items (next.made ∷ []) in
    let items : c.push.new.self.items ≡ c.loop-done.rows.items ++ next.made ∷ [] = search rules in
    let as_many : length c.push.new.self.items ≡ length (c.loop-done.rows.items ++ next.made ∷ []) = ap (λ (rows : List PointRows). length rows) items in
    let order : from ≤ c.loop-done.done = omega arith in
    let A : List PointRows → Type 0 = λ rows. AreRows is from rows in record {
      few = next.ensures.few;
      came = λ b r. next.ensures.came (unpowered b) (i.came b r);
      many = omega (arith, as_many, long, i.many, order);
      are = subst A (sym items) (rows_more is from c.loop-done.done c.loop-done.rows.items next.made i.many order i.are (λ b r. next.ensures.judged (unpowered b) (i.came b r)));
    }

pub next_rows-requires-clause-few : goal.next_rows-requires-clause-few
next_rows-requires-clause-few g c κs within = c.requires.few

pub next_rows-requires-clause-lines : goal.next_rows-requires-clause-lines
next_rows-requires-clause-lines g c κs within = c.requires.lines

pub returns-in_err-moment : goal.returns-in_err-moment
returns-in_err-moment g c = record { rows = (IfOk-from_err c.from_residual.result _ c.from_residual.ensures.0) }
