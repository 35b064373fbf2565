use Rattle.std.proofs.Common.{◌≡◌, ◌∙◌, ◌+◌, ◌-◌, ◌≤◌, ◌<◌, ℕ, List, [], ap, subst, sym, arith, min}
use Rattle.std.proofs.lemmas.Result.{on_ok_weaker, IfOk-from_err}
use Rattle.bench_sweep.{specs.{Reports.{IsOfCall, TakesPoint}, Swept.{Spot, points_from}}, proofs.Reported.{reports_as, reports_none}}
use Rattle.bench_sweep.proofs.{Rowed.all_points, Written.window_of_calls}
use Rattle.crew.{specs.Parts.{chunk_from, window}, proofs.Chunked.chunks_handed}
use Rattle.bench_sweep.proofs.sweeps.run_at_calls.Goals as goal

pub hand_on_all-requires-clause-has : goal.hand_on_all-requires-clause-has
hand_on_all-requires-clause-has g c κs within = λ i less. (
  let first : 0 + i ≡ i = omega arith in
      record {
        few = c.requires.few;
        swept = c.requires.lines;
        sits = c.requires.sits;
        begins = let B : ℕ → Type 0 = λ k. chunk_from c.min-from.result c.chunk_size-each.result k < c.min-to.result in subst B (sym first) (c.chunks-chunks.ensures.some i less);
        room = omega (arith, c.requires.numbers, c.min-to.ensures);
      },
  record { shared = c.type_bounds.sync-C-Handle.shared },
)

pub returns : goal.returns
returns g c = record {
  wrote = (on_ok_weaker c.hand_on_all.result (λ chunks b r.
      (let runner = c.args.runner.now in
      let calls = c.args.calls in
      let within = c.args.within in
      let size = runner.setting.shape.now in
      let site = c.args.site.now in
      let contents = g.W.Write.contents in
      let at : ℕ → ℕ → List Spot = λ from to. points_from calls.caller (calls.made + from + 1) (to - from) in
      let is : at c.min-from.result c.min-to.result ≡ window within.from within.to (points_from calls.caller (calls.made + 1) calls.count) =
      ap (λ (k : ℕ). at k c.min-to.result) c.min-from.ensures ∙ ap (at (min within.from calls.count)) c.min-to.ensures ∙ window_of_calls calls.caller calls.made calls.count within.from within.to within.order c.requires.numbers in
      let order : c.min-from.result ≤ c.min-to.result = omega (arith, c.min-from.ensures, c.min-to.ensures, within.order) in
      let handed = chunks_handed (λ (made : _). made.whole) (λ (made : _). made.rows.items) (IsOfCall size runner.bench calls.caller calls.made runner.lines.now site) (TakesPoint contents) c.min-from.result c.min-to.result c.chunk_size-each.result c.chunks-chunks.result c.args.report.now _ order c.chunks-chunks.ensures.cover chunks in
      reports_as _ _ _ _ _ _ _ is
      (all_points contents size runner.bench calls.caller calls.made _ runner.lines.now site b r _ _ _ (omega (arith, c.requires.numbers, c.min-from.ensures, c.min-to.ensures, within.order)) handed)))
      c.hand_on_all.ensures.handed);
}

pub returns-then-from-to : goal.returns-then-from-to
returns-then-from-to g c = record {
  wrote = (λ b r.
      let calls = c.args.calls in
      let within = c.args.within in
      let first = min within.from calls.count in
      let last = min within.to calls.count in
      let none : 0 ≡ last - first = omega (arith, c.min-from.ensures, c.min-to.ensures, c.if-from-to.true) in
      let is : [] ≡ window within.from within.to (points_from calls.caller (calls.made + 1) calls.count) =
      ap (λ (n : ℕ). points_from calls.caller (calls.made + first + 1) n) none ∙ window_of_calls calls.caller calls.made calls.count within.from within.to within.order c.requires.numbers in
      reports_as _ _ _ _ _ _ _ is (reports_none _ _ _ _));
}

pub marks_of-requires-clause-few : goal.marks_of-requires-clause-few
marks_of-requires-clause-few g c κs within = c.requires.few

pub marks_of-requires-clause-lines : goal.marks_of-requires-clause-lines
marks_of-requires-clause-lines g c κs within = c.requires.lines

pub marks_of-requires-clause-sits : goal.marks_of-requires-clause-sits
marks_of-requires-clause-sits g c κs within = c.requires.sits

pub returns-in_err-marks : goal.returns-in_err-marks
returns-in_err-marks g c = record { wrote = (IfOk-from_err c.from_residual.result _ c.from_residual.ensures.0) }
