use Rattle.std.proofs.Common.{◌≡◌, ◌≤◌, ℕ, ◌+◌, List, All, IfOk, length, slice_index_or, subst, sym}
use Rattle.script_lang.specs.{Lines.IsLineInRange, declared.line.Line.Line}
use Rattle.bench_schedules.specs.{Numbers.place_of_other, Schedules.{WroteSchedules, own_count}}
use Rattle.bench_schedules.proofs.benches.compare_script.Goals as goal

pub compare_own-requires-clause-drawable : goal.compare_own-requires-clause-drawable
compare_own-requires-clause-drawable g c κs within =
    let size = c.args.script.now.shape in
    let same = sym c.as_slice-lines.ensures.value in
    let F : List Line → Type 0 = λ ls. length ls ≤ 65535 in
    let R : List Line → Type 0 = λ ls. All (IsLineInRange size) ls in
    record {
      sized = c.shape_in_range.ensures;
      few = subst F same c.requires.few;
      ranges = subst R same c.requires.ranges;
      fits = c.fits.ensures;
      count = c.in_ok-own.ensures.count;
    }

pub returns : goal.returns
returns g c = record {
  wrote = (
      let P : List Line → Type 0 = λ ls. IfOk c.compare_own.result (λ count. (count.runs ≡ own_count c.args.plan.part c.args.plan.count) × WroteSchedules (record { size = c.args.script.now.shape; lines = ls }) c.args.payloads.now
      (λ (place : ℕ). slice_index_or c.args.numbers.now (1 + place_of_other place ls) 0) c.args.plan.part c.args.plan.count (g.W.Write.contents c.args.out.now) (g.W.Write.contents c.compare_own.new.out) count.differ) in
      subst P c.as_slice-lines.ensures.value c.compare_own.ensures.wrote);
}
