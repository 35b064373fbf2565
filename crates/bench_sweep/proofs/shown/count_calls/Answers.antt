use Rattle.std.proofs.lemmas.Result.{IfOk-from_err, IfOk-weaker}
use Rattle.bench_report.specs.Happens.{unpowered}
use Rattle.bench_sweep.{specs.{Made.CallsIn, Points.{callers, MadeCalls}}, proofs.Made.{plain_run, zip_long}}
use Rattle.bench_sweep.proofs.shown.count_calls.Goals as goal

pub returns-clause-calls : goal.returns-clause-calls
returns-clause-calls g c = IfOk-weaker c.counts_of-counts.result _ _ (λ counts made b r.
    (let size = c.args.runner.now.setting.shape.now in
    let lines = c.args.runner.now.lines.now in
    let calls : CallsIn size c.args.site.now.off.disk (unpowered b) lines counts.items =
    record { plain = plain_run size (unpowered b) lines _ (c.in_ok-end.ensures.ends b r); ended = c.in_ok-end.end.off.disk; took = c.in_ok-end.ensures.took; made = made } in
    calls))
    c.counts_of-counts.ensures.counts

pub returns-clause-each : goal.returns-clause-each
returns-clause-each g c = IfOk-weaker c.counts_of-counts.result _ _
    (λ counts made. zip_long (MadeCalls c.args.site.now.off.disk c.in_ok-end.end.off.disk) callers counts.items made)
    c.counts_of-counts.ensures.counts

pub returns-in_err-end-clause-calls : goal.returns-in_err-end-clause-calls
returns-in_err-end-clause-calls g c = IfOk-from_err c.from_residual.result _ c.from_residual.ensures.0

pub returns-in_err-end-clause-each : goal.returns-in_err-end-clause-each
returns-in_err-end-clause-each g c = IfOk-from_err c.from_residual.result _ c.from_residual.ensures.0
