use Rattle.std.proofs.{Common.{◌≡◌, List, refl, sym, subst}, lemmas.Result.IfOk-from_err}
use Rattle.bench_report.specs.{Agree.fills_after, Bench.{Bench, bench_with}, Lives.Shows, declared.live.LiveBench.LiveBench}
use Rattle.script_lang.specs.declared.line.Line.{Line}
use Rattle.simdisk.specs.declared.fill.Fill.TheVariants as fills
use Rattle.debug_session.specs.{Ats.IsAt, Notes.{Joins, Leaves}}
use Rattle.debug_session.proofs.timeline.Timeline.again.Goals as goal

pub returns-in_err-bench-clause-history : goal.returns-in_err-bench-clause-history
returns-in_err-bench-clause-history g c = refl

pub returns-in_err-bench-clause-begins : goal.returns-in_err-bench-clause-begins
returns-in_err-bench-clause-begins g c = refl

pub returns-clause-history : goal.returns-clause-history
returns-clause-history g c = refl

pub returns-clause-begins : goal.returns-clause-begins
returns-clause-begins g c = refl

pub returns-in_err-bench-clause-at : goal.returns-in_err-bench-clause-at
returns-in_err-bench-clause-at g c = IfOk-from_err c.from_residual.result _ c.from_residual.ensures.0

pub returns-clause-at : goal.returns-clause-at
returns-clause-at g c =
    let size = c.args.setting.now.shape.now in
    let self = c.args.self.now in
    let made = c.in_ok-bench in
    let L : List Line → Type 0 = λ past. (b : Bench) × Leaves size (bench_with self.begins) past b × Joins size (bench_with self.begins) made.joins past b × Shows size b made.bench in
    let F : List Line → Type 0 = λ past. made.bench.fill ≡ fills_after past fills.Old in
    let P : LiveBench → Type 0 = λ x. IsAt size (record { begins = self.begins; history = self.history; joins = made.joins; bench = x }) in
    let left = subst L c.lines.ensures made.ensures.left in
    subst P (sym c.replace-before.ensures.after) (record { left = (left.0, (left.1, left.2, left.3)); sound = made.ensures.sound; fill = subst F c.lines.ensures made.ensures.fill; ranges = c.requires.ranges })
