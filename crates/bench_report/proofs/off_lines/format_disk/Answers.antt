use Rattle.std.proofs.Common.{refl, ◌∙◌, ap}
use Rattle.bench_report.{specs.{Views.{facts, fault_state}, Happens.{says, formatted_anew}}, proofs.Devices.stays_as}
use Rattle.bench_report.proofs.{Formats.{anew, formats_ok, formats_err}, KeptDisks.{KeptLaw, BlankLaw}}
use Rattle.report_lines.specs.declared.printed.Printed.TheVariants as printed
use Rattle.bench_report.proofs.off_lines.format_disk.Goals as goal

pub returns-in-Ok : goal.returns-in-Ok
returns-in-Ok c = λ b h.
    let did = c.in-Ok.ensures in
    let k = c.kept_disks.ensures in
    let kept : KeptLaw = record { goes_on = k.goes_on; marked = k.marked; one_size = k.one_size; sized = k.sized; opens = k.opens; formats = k.formats } in
    let sides = anew c.content_determines_state.ensures.marked c.args.shape.now b c.args.off.disk c.format.new.disk did.ok did.in_order h.1 did.unmarked h.2.3 in
    let device = stays_as c.args.shape.now b (formatted_anew b) (fault_state c.args.off.disk) (fault_state c.format.new.disk) (facts c.args.off.disk) (facts c.format.new.disk) h.2 refl refl did.cause did.in_order.no_fewer did.in_order.content.head.as_long sides in
    formats_ok kept c.args.shape.now b.disk_state b c.args.off.disk c.format.new.disk c.says.result h.0 h.1 device c.says.ensures did.ok did.unmarked

pub returns-in-Err : goal.returns-in-Err
returns-in-Err c = λ b h.
    let did = c.in-Err.ensures in
    let k = c.kept_disks.ensures in
    let n = c.blank_disks.ensures in
    let kept : KeptLaw = record { goes_on = k.goes_on; marked = k.marked; one_size = k.one_size; sized = k.sized; opens = k.opens; formats = k.formats } in
    let blank : BlankLaw = record { unmarked = n.unmarked; stands = n.stands; opens = n.opens; formats = n.formats } in
    formats_err kept blank c.args.shape.now b c.args.off.disk c.format.new.disk c.says-in-Err.result c.in-Err.e h.0 h.2 did.refused (λ has. (did.marked has).0) did.cause did.in_order.no_fewer did.in_order.content.head.as_long
    (c.says-in-Err.ensures ∙ ap (λ n. says (printed.FormatRefused n)) c.code.ensures) b.disk_state refl h.1
