use Rattle.std.proofs.Common.{true, false, refl, sym, ◌∙◌, ◌+◌, ℕ, subst, take, arith, ◌≡◌}
use Rattle.bench_sweep.{specs.{Runs.RanTo, Took.{RunTook, own_disk}}, proofs.Ran.{ran_none, ran_more, ran_line, ran_calm}}
use Rattle.bench_sweep.proofs.Took.{moved_took, took_more}
use Rattle.bench_sweep.proofs.site.Going.run_lines.Goals as goal

pub loop-line-init : goal.loop-line-init
loop-line-init g c = record { calm = c.requires.calm; ran = λ b r. ran_none _ b _ r; took = λ b r caller. refl; count = refl }

pub loop-line-preserved : goal.loop-line-preserved
loop-line-preserved g c =
    let size = c.args.setting.now.shape.now in
    let ls = c.args.lines.now in
    let k = c.loop-line.line-index in
    let line = c.line-item.result in
    let i = c.loop-line.invariant in
    record {
      calm = c.stops.ensures.calm c.if-stops.false;
      ran = λ b r.
          let far = i.ran b r in
          let m = c.in_ok-run_line.ensures.runs far.bench far.runs in
          ran_more size b ls k line line _ _ _ c.loop-line-test.true c.line-item.is far m (c.stops.ensures.exact c.if-stops.false size m.bench m.runs.agrees);
      took = λ b r.
          let far = i.ran b r in
          took_more size ls k line line _ (own_disk c.loop-line.self) _ c.loop-line-test.true c.line-item.is (i.took b r) (moved_took size line far.bench _ _ far.runs (c.in_ok-run_line.ensures.runs far.bench far.runs));
      count = omega (arith, i.count);
    }

pub returns-then-stops-clause-ran : goal.returns-then-stops-clause-ran
returns-then-stops-clause-ran g c = λ b r.
    let size = c.args.setting.now.shape.now in
    let i = c.loop-line.invariant in
    let far = i.ran b r in
    let count : c.loop-line.line-index + 1 ≡ c.loop-line.count + 1 = omega (arith, i.count) in
    let P : ℕ → Type 0 = λ n. RanTo size b (take n c.args.lines.now) c.args.self.now c.run_line.new.self in
    subst P count (ran_line size b c.args.lines.now c.loop-line.line-index c.line-item.result c.line-item.result _ _ _ c.loop-line-test.true c.line-item.is far (c.in_ok-run_line.ensures.runs far.bench far.runs))

pub returns-then-stops-clause-took : goal.returns-then-stops-clause-took
returns-then-stops-clause-took g c = λ b r.
    let size = c.args.setting.now.shape.now in
    let line = c.line-item.result in
    let i = c.loop-line.invariant in
    let far = i.ran b r in
    let count : c.loop-line.line-index + 1 ≡ c.loop-line.count + 1 = omega (arith, i.count) in
    let P : ℕ → Type 0 = λ n. RunTook size (take n c.args.lines.now) (own_disk c.args.self.now) (own_disk c.run_line.new.self) in
    subst P count
    (took_more size c.args.lines.now c.loop-line.line-index line line _ (own_disk c.loop-line.self) _ c.loop-line-test.true c.line-item.is (i.took b r)
    (moved_took size line far.bench _ _ far.runs (c.in_ok-run_line.ensures.runs far.bench far.runs)))

pub returns-then-stops-clause-stops : goal.returns-then-stops-clause-stops
returns-then-stops-clause-stops g c = λ until less. c.stops.ensures.off c.if-stops.true

pub returns-then-stops-clause-few : goal.returns-then-stops-clause-few
returns-then-stops-clause-few g c = let i = c.loop-line.invariant in omega (arith, i.count, c.loop-line-test.true)

pub returns-then-stops-clause-whole : goal.returns-then-stops-clause-whole
returns-then-stops-clause-whole g c = λ until size b agrees calm. absurd (let no : true ≡ false = sym (c.stops.ensures.struck c.if-stops.true until size b agrees) ∙ calm in let never : ⊥ = cc in never)

pub returns-clause-ran : goal.returns-clause-ran
returns-clause-ran g c = λ b r.
    let size = c.args.setting.now.shape.now in
    let i = c.loop-line.invariant in
    let P : ℕ → Type 0 = λ n. RanTo size b (take n c.args.lines.now) c.args.self.now c.loop-line.self in
    subst P (sym i.count) (ran_calm size b _ _ _ (i.ran b r))

pub returns-clause-took : goal.returns-clause-took
returns-clause-took g c = λ b r.
    let i = c.loop-line.invariant in
    let P : ℕ → Type 0 = λ n. RunTook c.args.setting.now.shape.now (take n c.args.lines.now) (own_disk c.args.self.now) (own_disk c.loop-line.self) in
    subst P (sym i.count) (i.took b r)

pub returns-clause-stops : goal.returns-clause-stops
returns-clause-stops g c = λ until less. let i = c.loop-line.invariant in absurd (omega (arith, i.count, less, c.loop-line-test.false))

pub returns-clause-few : goal.returns-clause-few
returns-clause-few g c = let i = c.loop-line.invariant in omega (arith, i.count)

pub returns-clause-some : goal.returns-clause-some
returns-clause-some g c = let i = c.loop-line.invariant in λ some. omega (arith, i.count, some, c.loop-line-test.false)

pub returns-clause-whole : goal.returns-clause-whole
returns-clause-whole g c = λ until size b agrees calm. let i = c.loop-line.invariant in omega (arith, i.count, c.loop-line-test.false)
