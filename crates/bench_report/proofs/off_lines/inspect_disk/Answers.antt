use Rattle.std.proofs.Common.{◌∙◌, ap}
use Rattle.bench_report.{specs.{Happens.says, Views.facts}, proofs.Examining.{examined, refused, answers_ok, answers_err}}
use Rattle.report_lines.specs.declared.printed.Printed.TheVariants as printed
use Rattle.bench_report.proofs.off_lines.inspect_disk.Goals as goal

pub returns-in-Ok-clause-reported : goal.returns-in-Ok-clause-reported
returns-in-Ok-clause-reported c = λ size b h.
    let did = c.in-Ok.ensures in
    examined c.kept_disks.ensures.goes_on size b c.args.off.disk c.inspect.new.disk c.says.result h did.reads_alone c.in-Ok.inspection did.inspected did.cause c.says.ensures

pub returns-in-Ok-clause-exact : goal.returns-in-Ok-clause-exact
returns-in-Ok-clause-exact c = answers_ok (facts c.args.off.disk).content c.in-Ok.inspection c.says.result c.in-Ok.ensures.inspected c.says.ensures

pub returns-in-Err-clause-reported : goal.returns-in-Err-clause-reported
returns-in-Err-clause-reported c = λ size b h.
    let did = c.in-Err.ensures in
    refused c.kept_disks.ensures.goes_on size b c.args.off.disk c.inspect.new.disk c.says-in-Err.result h did.reads_alone c.in-Err.e did.refused did.cause
    (c.says-in-Err.ensures ∙ ap (λ n. says (printed.InspectRefused n)) c.code.ensures)

pub returns-in-Err-clause-exact : goal.returns-in-Err-clause-exact
returns-in-Err-clause-exact c =
    answers_err c.args.off.disk c.inspect.new.disk c.in-Err.e c.says-in-Err.result c.in-Err.ensures.refused (c.says-in-Err.ensures ∙ ap (λ n. says (printed.InspectRefused n)) c.code.ensures)
