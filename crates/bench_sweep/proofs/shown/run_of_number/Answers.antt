use Rattle.std.proofs.Common.{◌≡◌, ◌+◌, ◌*◌, ◌∙◌, ℕ, take, ap, sym, refl, arith}
use Rattle.bench_sweep.{specs.{Shown.runs_each, declared.points.Caller.TheVariants.Disk}, proofs.{Written.total, Nth.{fewer_runs, nth_run}}}
use Rattle.bench_sweep.proofs.shown.run_of_number.Goals as goal

pub returns-then-point-counts : goal.returns-then-point-counts
returns-then-point-counts c =
    let kind = c.args.bench in
    let counts = c.args.counts.now in
    let i = c.loop-i.i in
    let at = c.loop-i.point in
    let made = c.point_of-point in
    let whole : c.args.number ≡ made.result.0 * runs_each kind + made.result.1 + 1 = omega (arith, made.ensures.value, c.if-number-eq0.false) in
    let here : c.args.number ≡ (total (take i counts) + at) * runs_each kind + made.result.1 + 1 = whole ∙ ap (λ (k : ℕ). k * runs_each kind + made.result.1 + 1) (sym c.loop-i.invariant) in
    let below = c.if-point-counts.true in
    nth_run kind counts c.args.number made.result.1 i at _ Disk _ c.requires (omega arith) refl c.fill_at.ensures here made.ensures.range below (omega arith)

pub returns : goal.returns
returns c =
    let kind = c.args.bench in
    let made = c.point_of-point in
    let whole : c.args.number ≡ made.result.0 * runs_each kind + made.result.1 + 1 = omega (arith, made.ensures.value, c.if-number-eq0.false) in
    fewer_runs kind c.args.counts.now c.args.number made.result.0 c.loop-i.point made.result.1 c.loop-i.i c.requires (omega arith) (sym c.loop-i.invariant) whole
