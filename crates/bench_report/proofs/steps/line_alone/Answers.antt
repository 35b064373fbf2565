use Rattle.std.proofs.Common.{◌∙◌, Ok, Err, refl}
use Rattle.bench_report.{specs.Happens.unpowered, proofs.{Lines.{call_reported, row_reported}, Pokes.poke_matches}}
use Rattle.bench_report.proofs.Alone.{arms_by, cuts_by, pokes_by, inspects_by, keeps_by, exact_by, enough_by, few_bytes, no_refusal, both_refused}
use Rattle.bench_report.proofs.steps.line_alone.Goals as goal

pub returns-in-Format-clause-reported : goal.returns-in-Format-clause-reported
returns-in-Format-clause-reported g c = λ b h.
    row_reported c.args.setting.now.shape.now _ _ b _ _ _ _ _ c.in-Format.is c.answered.ensures.answer c.answered.ensures.power h.1 (c.format_line.ensures b h.0)

pub returns-in-Cut-clause-reported : goal.returns-in-Cut-clause-reported
returns-in-Cut-clause-reported g c = λ b h. rw c.in-Cut.is (unpowered b, (c.says.ensures, refl), (c.cut.ensures.reported c.args.setting.now.shape.now b h.0, h.1))

pub returns-in-Ok-clause-reported : goal.returns-in-Ok-clause-reported
returns-in-Ok-clause-reported g c = λ b h. rw c.in-Payload.is (rw c.says-in-Ok.ensures (c.in-Ok.ensures.reported c.args.setting.now.shape.now b h))

pub returns-in-Call-clause-reported : goal.returns-in-Call-clause-reported
returns-in-Call-clause-reported g c = λ b h.
    row_reported c.args.setting.now.shape.now _ _ b _ _ _ _ _ c.in-Call.is c.shown.ensures.answer c.shown.ensures.power h.1 (let did = c.call_line.ensures c.args.setting.now.shape.now b h.0 in (did.0, did.1.0, did.2, did.3))

pub returns-in-Call-clause-enough : goal.returns-in-Call-clause-enough
returns-in-Call-clause-enough g c =
    call_reported c.args.setting.now.shape.now c.args.line.now c.in-Call.hart c.in-Call.words _ _ c.args.power _ _ _ _ c.in-Call.is c.shown.ensures.answer c.shown.ensures.power refl
    (λ b h. c.call_line.ensures c.args.setting.now.shape.now b h)

pub returns-in-Show-clause-reported : goal.returns-in-Show-clause-reported
returns-in-Show-clause-reported g c = λ b h.
    row_reported c.args.setting.now.shape.now _ _ b _ _ _ _ _ c.in-Show.is c.shown-in-Show.ensures.answer c.shown-in-Show.ensures.power h.1 (c.look_line.ensures c.args.setting.now.shape.now b h.0)

pub returns-in-Arm-clause-reported : goal.returns-in-Arm-clause-reported
returns-in-Arm-clause-reported g c = λ b h.
    row_reported c.args.setting.now.shape.now _ _ b _ _ _ _ _ c.in-Arm.is c.answered-in-Arm.ensures.answer c.answered-in-Arm.ensures.power h.1 (rw c.fault_of.ensures at (c.arm.ensures.reported c.args.setting.now.shape.now b h.0))

pub returns-in-Poke-clause-reported : goal.returns-in-Poke-clause-reported
returns-in-Poke-clause-reported g c = λ b h.
    rw c.in-Poke.is (poke_matches c.args.setting.now.shape.now b c.poke_line.result.1 c.poke_line.result.0 _ h.1 (c.poke_line.ensures.reported c.args.setting.now.shape.now b h.0))

pub returns-in-Inspect-clause-reported : goal.returns-in-Inspect-clause-reported
returns-in-Inspect-clause-reported g c = λ b h.
    row_reported c.args.setting.now.shape.now _ _ b _ _ _ _ _ c.in-Inspect.is c.answered-in-Inspect.ensures.answer c.answered-in-Inspect.ensures.power h.1 (c.inspect_line.ensures.reported c.args.setting.now.shape.now b h.0)

pub returns-in-Wake-clause-reported : goal.returns-in-Wake-clause-reported
returns-in-Wake-clause-reported g c = λ b h.
    row_reported c.args.setting.now.shape.now _ _ b _ _ _ _ _ c.in-Wake.is c.answered-in-Wake.ensures.answer c.answered-in-Wake.ensures.power h.1 (c.wake_line.ensures c.args.setting.now.shape.now b h.0)

-- what the other clauses say of each line
pub returns-in-Format-clause-arms : goal.returns-in-Format-clause-arms
returns-in-Format-clause-arms g c = arms_by c.args.line.now _ c.answered.result.0 c.in-Format.is tt

pub returns-in-Format-clause-cuts : goal.returns-in-Format-clause-cuts
returns-in-Format-clause-cuts g c = cuts_by c.args.line.now _ c.args.power c.answered.result.0 c.in-Format.is tt

pub returns-in-Format-clause-pokes : goal.returns-in-Format-clause-pokes
returns-in-Format-clause-pokes g c = pokes_by c.args.line.now _ c.args.power c.answered.result.1 c.answered.result.0 c.in-Format.is tt

pub returns-in-Format-clause-inspects : goal.returns-in-Format-clause-inspects
returns-in-Format-clause-inspects g c = inspects_by c.args.line.now _ c.args.power c.answered.result.1 c.in-Format.is tt

pub returns-in-Format-clause-enough : goal.returns-in-Format-clause-enough
returns-in-Format-clause-enough g c = enough_by c.args.setting.now.shape.now c.args.line.now _ c.args.power c.args.payloads.now c.answered.result.1 c.answered.result.0 c.args.payloads.now c.in-Format.is tt

pub returns-in-Format-clause-slots : goal.returns-in-Format-clause-slots
returns-in-Format-clause-slots g c = refl

pub returns-in-Cut-clause-arms : goal.returns-in-Cut-clause-arms
returns-in-Cut-clause-arms g c = arms_by c.args.line.now _ c.cut.result c.in-Cut.is tt

pub returns-in-Cut-clause-pokes : goal.returns-in-Cut-clause-pokes
returns-in-Cut-clause-pokes g c = pokes_by c.args.line.now _ c.args.power (Ok c.says.result) c.cut.result c.in-Cut.is tt

pub returns-in-Cut-clause-inspects : goal.returns-in-Cut-clause-inspects
returns-in-Cut-clause-inspects g c = inspects_by c.args.line.now _ c.args.power (Ok c.says.result) c.in-Cut.is tt

pub returns-in-Cut-clause-enough : goal.returns-in-Cut-clause-enough
returns-in-Cut-clause-enough g c = enough_by c.args.setting.now.shape.now c.args.line.now _ c.args.power c.args.payloads.now (Ok c.says.result) c.cut.result c.args.payloads.now c.in-Cut.is tt

pub returns-in-Cut-clause-slots : goal.returns-in-Cut-clause-slots
returns-in-Cut-clause-slots g c = refl

pub returns-in-Ok-clause-arms : goal.returns-in-Ok-clause-arms
returns-in-Ok-clause-arms g c = arms_by c.args.line.now _ c.args.power c.in-Payload.is tt

pub returns-in-Ok-clause-cuts : goal.returns-in-Ok-clause-cuts
returns-in-Ok-clause-cuts g c = cuts_by c.args.line.now _ c.args.power c.args.power c.in-Payload.is tt

pub returns-in-Ok-clause-pokes : goal.returns-in-Ok-clause-pokes
returns-in-Ok-clause-pokes g c = pokes_by c.args.line.now _ c.args.power (Ok c.says-in-Ok.result) c.args.power c.in-Payload.is tt

pub returns-in-Ok-clause-inspects : goal.returns-in-Ok-clause-inspects
returns-in-Ok-clause-inspects g c = inspects_by c.args.line.now _ c.args.power (Ok c.says-in-Ok.result) c.in-Payload.is tt

pub returns-in-Ok-clause-enough : goal.returns-in-Ok-clause-enough
returns-in-Ok-clause-enough g c = enough_by c.args.setting.now.shape.now c.args.line.now _ c.args.power c.args.payloads.now (Ok c.says-in-Ok.result) c.args.power c.payload_line.new.payloads c.in-Payload.is tt

pub returns-in-Ok-clause-slots : goal.returns-in-Ok-clause-slots
returns-in-Ok-clause-slots g c = c.in-Ok.ensures.slots

pub returns-in-Err-clause-arms : goal.returns-in-Err-clause-arms
returns-in-Err-clause-arms g c = arms_by c.args.line.now _ c.args.power c.in-Payload.is tt

pub returns-in-Err-clause-cuts : goal.returns-in-Err-clause-cuts
returns-in-Err-clause-cuts g c = cuts_by c.args.line.now _ c.args.power c.args.power c.in-Payload.is tt

pub returns-in-Err-clause-pokes : goal.returns-in-Err-clause-pokes
returns-in-Err-clause-pokes g c = pokes_by c.args.line.now _ c.args.power (Err c.in-Err.refusal) c.args.power c.in-Payload.is tt

pub returns-in-Err-clause-inspects : goal.returns-in-Err-clause-inspects
returns-in-Err-clause-inspects g c = inspects_by c.args.line.now _ c.args.power (Err c.in-Err.refusal) c.in-Payload.is tt

pub returns-in-Err-clause-enough : goal.returns-in-Err-clause-enough
returns-in-Err-clause-enough g c = enough_by c.args.setting.now.shape.now c.args.line.now _ c.args.power c.args.payloads.now (Err c.in-Err.refusal) c.args.power c.payload_line.new.payloads c.in-Payload.is tt

pub returns-in-Err-clause-slots : goal.returns-in-Err-clause-slots
returns-in-Err-clause-slots g c = c.in-Err.ensures.slots

pub returns-in-Call-clause-arms : goal.returns-in-Call-clause-arms
returns-in-Call-clause-arms g c = arms_by c.args.line.now _ c.shown.result.0 c.in-Call.is tt

pub returns-in-Call-clause-cuts : goal.returns-in-Call-clause-cuts
returns-in-Call-clause-cuts g c = cuts_by c.args.line.now _ c.args.power c.shown.result.0 c.in-Call.is tt

pub returns-in-Call-clause-pokes : goal.returns-in-Call-clause-pokes
returns-in-Call-clause-pokes g c = pokes_by c.args.line.now _ c.args.power c.shown.result.1 c.shown.result.0 c.in-Call.is tt

pub returns-in-Call-clause-inspects : goal.returns-in-Call-clause-inspects
returns-in-Call-clause-inspects g c = inspects_by c.args.line.now _ c.args.power c.shown.result.1 c.in-Call.is tt

pub returns-in-Call-clause-slots : goal.returns-in-Call-clause-slots
returns-in-Call-clause-slots g c = refl

pub returns-in-Show-clause-arms : goal.returns-in-Show-clause-arms
returns-in-Show-clause-arms g c = arms_by c.args.line.now _ c.shown-in-Show.result.0 c.in-Show.is tt

pub returns-in-Show-clause-cuts : goal.returns-in-Show-clause-cuts
returns-in-Show-clause-cuts g c = cuts_by c.args.line.now _ c.args.power c.shown-in-Show.result.0 c.in-Show.is tt

pub returns-in-Show-clause-pokes : goal.returns-in-Show-clause-pokes
returns-in-Show-clause-pokes g c = pokes_by c.args.line.now _ c.args.power c.shown-in-Show.result.1 c.shown-in-Show.result.0 c.in-Show.is tt

pub returns-in-Show-clause-inspects : goal.returns-in-Show-clause-inspects
returns-in-Show-clause-inspects g c = inspects_by c.args.line.now _ c.args.power c.shown-in-Show.result.1 c.in-Show.is tt

pub returns-in-Show-clause-enough : goal.returns-in-Show-clause-enough
returns-in-Show-clause-enough g c = enough_by c.args.setting.now.shape.now c.args.line.now _ c.args.power c.args.payloads.now c.shown-in-Show.result.1 c.shown-in-Show.result.0 c.args.payloads.now c.in-Show.is tt

pub returns-in-Show-clause-slots : goal.returns-in-Show-clause-slots
returns-in-Show-clause-slots g c = refl

pub returns-in-Arm-clause-cuts : goal.returns-in-Arm-clause-cuts
returns-in-Arm-clause-cuts g c = cuts_by c.args.line.now _ c.args.power c.answered-in-Arm.result.0 c.in-Arm.is tt

pub returns-in-Arm-clause-pokes : goal.returns-in-Arm-clause-pokes
returns-in-Arm-clause-pokes g c = pokes_by c.args.line.now _ c.args.power c.answered-in-Arm.result.1 c.answered-in-Arm.result.0 c.in-Arm.is tt

pub returns-in-Arm-clause-inspects : goal.returns-in-Arm-clause-inspects
returns-in-Arm-clause-inspects g c = inspects_by c.args.line.now _ c.args.power c.answered-in-Arm.result.1 c.in-Arm.is tt

pub returns-in-Arm-clause-enough : goal.returns-in-Arm-clause-enough
returns-in-Arm-clause-enough g c = enough_by c.args.setting.now.shape.now c.args.line.now _ c.args.power c.args.payloads.now c.answered-in-Arm.result.1 c.answered-in-Arm.result.0 c.args.payloads.now c.in-Arm.is tt

pub returns-in-Arm-clause-slots : goal.returns-in-Arm-clause-slots
returns-in-Arm-clause-slots g c = refl

pub returns-in-Poke-clause-arms : goal.returns-in-Poke-clause-arms
returns-in-Poke-clause-arms g c = arms_by c.args.line.now _ c.poke_line.result.0 c.in-Poke.is tt

pub returns-in-Poke-clause-cuts : goal.returns-in-Poke-clause-cuts
returns-in-Poke-clause-cuts g c = cuts_by c.args.line.now _ c.args.power c.poke_line.result.0 c.in-Poke.is tt

pub returns-in-Poke-clause-pokes : goal.returns-in-Poke-clause-pokes
returns-in-Poke-clause-pokes g c = pokes_by c.args.line.now _ c.args.power c.poke_line.result.1 c.poke_line.result.0 c.in-Poke.is c.poke_line.ensures.pokes

pub returns-in-Poke-clause-inspects : goal.returns-in-Poke-clause-inspects
returns-in-Poke-clause-inspects g c = inspects_by c.args.line.now _ c.args.power c.poke_line.result.1 c.in-Poke.is tt

pub returns-in-Poke-clause-enough : goal.returns-in-Poke-clause-enough
returns-in-Poke-clause-enough g c = enough_by c.args.setting.now.shape.now c.args.line.now _ c.args.power c.args.payloads.now c.poke_line.result.1 c.poke_line.result.0 c.args.payloads.now c.in-Poke.is tt

pub returns-in-Poke-clause-slots : goal.returns-in-Poke-clause-slots
returns-in-Poke-clause-slots g c = refl

pub returns-in-Inspect-clause-arms : goal.returns-in-Inspect-clause-arms
returns-in-Inspect-clause-arms g c = arms_by c.args.line.now _ c.answered-in-Inspect.result.0 c.in-Inspect.is tt

pub returns-in-Inspect-clause-cuts : goal.returns-in-Inspect-clause-cuts
returns-in-Inspect-clause-cuts g c = cuts_by c.args.line.now _ c.args.power c.answered-in-Inspect.result.0 c.in-Inspect.is tt

pub returns-in-Inspect-clause-pokes : goal.returns-in-Inspect-clause-pokes
returns-in-Inspect-clause-pokes g c = pokes_by c.args.line.now _ c.args.power c.answered-in-Inspect.result.1 c.answered-in-Inspect.result.0 c.in-Inspect.is tt

pub returns-in-Inspect-clause-inspects : goal.returns-in-Inspect-clause-inspects
returns-in-Inspect-clause-inspects g c = inspects_by c.args.line.now _ c.args.power c.answered-in-Inspect.result.1 c.in-Inspect.is (exact_by _ c.answered-in-Inspect.result.1 c.inspect_line.result.1 c.answered-in-Inspect.ensures.answer c.inspect_line.ensures.exact)

pub returns-in-Inspect-clause-enough : goal.returns-in-Inspect-clause-enough
returns-in-Inspect-clause-enough g c = enough_by c.args.setting.now.shape.now c.args.line.now _ c.args.power c.args.payloads.now c.answered-in-Inspect.result.1 c.answered-in-Inspect.result.0 c.args.payloads.now c.in-Inspect.is tt

pub returns-in-Inspect-clause-slots : goal.returns-in-Inspect-clause-slots
returns-in-Inspect-clause-slots g c = refl

pub returns-in-Wake-clause-arms : goal.returns-in-Wake-clause-arms
returns-in-Wake-clause-arms g c = arms_by c.args.line.now _ c.answered-in-Wake.result.0 c.in-Wake.is tt

pub returns-in-Wake-clause-cuts : goal.returns-in-Wake-clause-cuts
returns-in-Wake-clause-cuts g c = cuts_by c.args.line.now _ c.args.power c.answered-in-Wake.result.0 c.in-Wake.is tt

pub returns-in-Wake-clause-pokes : goal.returns-in-Wake-clause-pokes
returns-in-Wake-clause-pokes g c = pokes_by c.args.line.now _ c.args.power c.answered-in-Wake.result.1 c.answered-in-Wake.result.0 c.in-Wake.is tt

pub returns-in-Wake-clause-inspects : goal.returns-in-Wake-clause-inspects
returns-in-Wake-clause-inspects g c = inspects_by c.args.line.now _ c.args.power c.answered-in-Wake.result.1 c.in-Wake.is tt

pub returns-in-Wake-clause-enough : goal.returns-in-Wake-clause-enough
returns-in-Wake-clause-enough g c = enough_by c.args.setting.now.shape.now c.args.line.now _ c.args.power c.args.payloads.now c.answered-in-Wake.result.1 c.answered-in-Wake.result.0 c.args.payloads.now c.in-Wake.is tt

pub returns-in-Wake-clause-slots : goal.returns-in-Wake-clause-slots
returns-in-Wake-clause-slots g c = refl

pub returns-in-Err-clause-reported : goal.returns-in-Err-clause-reported
returns-in-Err-clause-reported g c = λ b h. (h.0, c.in-Err.ensures.refused ∙ h.1)

pub payload_line-requires : goal.payload_line-requires
payload_line-requires g c = record { bytes = few_bytes c.args.setting.now.shape.now c.args.line.now c.in-Payload.slot c.in-Payload.bytes c.in-Payload.is c.requires.range }

pub returns-in-Cut-clause-cuts : goal.returns-in-Cut-clause-cuts
returns-in-Cut-clause-cuts g c = cuts_by c.args.line.now _ c.args.power c.cut.result c.in-Cut.is c.cut.ensures.exact

-- when it is refused
pub returns-in-Format-clause-refused : goal.returns-in-Format-clause-refused
returns-in-Format-clause-refused g c = no_refusal _ c.answered.result.1 _ c.answered.ensures.answer

pub returns-in-Call-clause-refused : goal.returns-in-Call-clause-refused
returns-in-Call-clause-refused g c = no_refusal _ c.shown.result.1 _ c.shown.ensures.answer

pub returns-in-Show-clause-refused : goal.returns-in-Show-clause-refused
returns-in-Show-clause-refused g c = no_refusal _ c.shown-in-Show.result.1 _ c.shown-in-Show.ensures.answer

pub returns-in-Arm-clause-refused : goal.returns-in-Arm-clause-refused
returns-in-Arm-clause-refused g c = no_refusal _ c.answered-in-Arm.result.1 _ c.answered-in-Arm.ensures.answer

pub returns-in-Inspect-clause-refused : goal.returns-in-Inspect-clause-refused
returns-in-Inspect-clause-refused g c = no_refusal _ c.answered-in-Inspect.result.1 _ c.answered-in-Inspect.ensures.answer

pub returns-in-Wake-clause-refused : goal.returns-in-Wake-clause-refused
returns-in-Wake-clause-refused g c = no_refusal _ c.answered-in-Wake.result.1 _ c.answered-in-Wake.ensures.answer

pub returns-in-Cut-clause-refused : goal.returns-in-Cut-clause-refused
returns-in-Cut-clause-refused g c = tt

pub returns-in-Ok-clause-refused : goal.returns-in-Ok-clause-refused
returns-in-Ok-clause-refused g c = tt

pub returns-in-Err-clause-refused : goal.returns-in-Err-clause-refused
returns-in-Err-clause-refused g c = (keeps_by c.args.line.now _ c.in-Payload.is tt, c.requires.calm)

pub returns-in-Poke-clause-refused : goal.returns-in-Poke-clause-refused
returns-in-Poke-clause-refused g c = both_refused _ _ c.poke_line.result.1 (keeps_by c.args.line.now _ c.in-Poke.is tt) c.poke_line.ensures.calm
