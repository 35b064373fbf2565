use Rattle.std.proofs.Common.{Some, refl, ap, ◌∙◌}
use Rattle.board_model.specs.Views.{durable_of}
use Rattle.report_lines.specs.declared.printed.Printed.TheVariants as printed
use Rattle.bench_report.proofs.{KeptDisks.{KeptLaw, BlankLaw}, Started.{power_ok, on_now, unpowered}, Opened.{opened_ok, opened_err}}
use Rattle.bench_report.proofs.off_lines.power_on.Goals as goal

pub returns-in-Ok-clause-reported : goal.returns-in-Ok-clause-reported
returns-in-Ok-clause-reported c = λ size b h same.
    let did = c.in-Ok.ensures in
    let k = c.kept_disks.ensures in
    let n = c.blank_disks.ensures in
    let kept : KeptLaw = record { goes_on = k.goes_on; marked = k.marked; one_size = k.one_size; sized = k.sized; opens = k.opens; formats = k.formats } in
    let blank : BlankLaw = record { unmarked = n.unmarked; stands = n.stands; opens = n.opens; formats = n.formats } in
    let did_on = power_ok kept blank size c.args.mode b c.args.payloads.now c.args.off.disk c.in-Ok.board (record { found = Some c.found.result; line = printed.On c.args.mode }) h same did.on did.keeps c.found.ensures refl in
    (did_on.0, (did_on.1, λ formatted. c.now-now.ensures ∙ ap durable_of (on_now size did_on.0 c.in-Ok.board did_on.2 formatted)), did_on.2, did_on.3)

pub returns-in-Err-clause-reported : goal.returns-in-Err-clause-reported
returns-in-Err-clause-reported c = λ size b h same.
    let did = c.in-Err.ensures in
    let k = c.kept_disks.ensures in
    let n = c.blank_disks.ensures in
    let kept : KeptLaw = record { goes_on = k.goes_on; marked = k.marked; one_size = k.one_size; sized = k.sized; opens = k.opens; formats = k.formats } in
    let blank : BlankLaw = record { unmarked = n.unmarked; stands = n.stands; opens = n.opens; formats = n.formats } in
    let e = c.in-Err.unpowered in
    unpowered kept blank size c.args.mode b c.args.off.disk e.disk c.args.payloads.now e.refusal c.code.result e.found e.now h same c.code.ensures did.off did.keeps

pub returns-in-Ok-clause-exact : goal.returns-in-Ok-clause-exact
returns-in-Ok-clause-exact c =
    let did = c.in-Ok.ensures in
    opened_ok c.args.mode _ _ _ _ c.found.result did.on did.refuses c.found.ensures

pub returns-in-Err-clause-exact : goal.returns-in-Err-clause-exact
returns-in-Err-clause-exact c =
    let did = c.in-Err.ensures in
    let e = c.in-Err.unpowered in
    opened_err c.args.mode _ _ _ e.found e.now e.refusal c.code.result did.off did.refuses c.code.ensures
