use Rattle.std.{proofs.Common.{subst, sym}, specs.Fmt.WritesOnOk}
use Rattle.machine.specs.{Texts.machine_line_text, declared.line.MachineLine.MachineLine}
use Rattle.machine.proofs.line.MachineLineDisplay.fmt.Goals as goal

pub returns-in-Turn-clause-writes : goal.returns-in-Turn-clause-writes
returns-in-Turn-clause-writes g c = subst (λ (l : MachineLine). WritesOnOk g.W.Write.write_str_gives c.args.f.now c.write_turn.result (machine_line_text l) c.write_turn.new.f) (sym c.in-Turn.is) c.write_turn.ensures

pub returns-in-Answered-clause-writes : goal.returns-in-Answered-clause-writes
returns-in-Answered-clause-writes g c = subst (λ (l : MachineLine). WritesOnOk g.W.Write.write_str_gives c.args.f.now c.write_answered.result (machine_line_text l) c.write_answered.new.f) (sym c.in-Answered.is) c.write_answered.ensures

pub returns-in-Called-clause-writes : goal.returns-in-Called-clause-writes
returns-in-Called-clause-writes g c = subst (λ (l : MachineLine). WritesOnOk g.W.Write.write_str_gives c.args.f.now c.write_called.result (machine_line_text l) c.write_called.new.f) (sym c.in-Called.is) c.write_called.ensures

pub returns-in-NotStarted-clause-writes : goal.returns-in-NotStarted-clause-writes
returns-in-NotStarted-clause-writes g c = subst (λ (l : MachineLine). WritesOnOk g.W.Write.write_str_gives c.args.f.now c.write_not_started.result (machine_line_text l) c.write_not_started.new.f) (sym c.in-NotStarted.is) c.write_not_started.ensures

pub returns-in-Reg-clause-writes : goal.returns-in-Reg-clause-writes
returns-in-Reg-clause-writes g c = subst (λ (l : MachineLine). WritesOnOk g.W.Write.write_str_gives c.args.f.now c.write_reg.result (machine_line_text l) c.write_reg.new.f) (sym c.in-Reg.is) c.write_reg.ensures

pub returns-in-Pc-clause-writes : goal.returns-in-Pc-clause-writes
returns-in-Pc-clause-writes g c = subst (λ (l : MachineLine). WritesOnOk g.W.Write.write_str_gives c.args.f.now c.write_pc.result (machine_line_text l) c.write_pc.new.f) (sym c.in-Pc.is) c.write_pc.ensures

pub returns-in-Csr-clause-writes : goal.returns-in-Csr-clause-writes
returns-in-Csr-clause-writes g c = subst (λ (l : MachineLine). WritesOnOk g.W.Write.write_str_gives c.args.f.now c.write_csr.result (machine_line_text l) c.write_csr.new.f) (sym c.in-Csr.is) c.write_csr.ensures

pub returns-in-Pending-clause-writes : goal.returns-in-Pending-clause-writes
returns-in-Pending-clause-writes g c = subst (λ (l : MachineLine). WritesOnOk g.W.Write.write_str_gives c.args.f.now c.write_pending.result (machine_line_text l) c.write_pending.new.f) (sym c.in-Pending.is) c.write_pending.ensures

pub returns-in-Mem-clause-writes : goal.returns-in-Mem-clause-writes
returns-in-Mem-clause-writes g c = subst (λ (l : MachineLine). WritesOnOk g.W.Write.write_str_gives c.args.f.now c.write_mem.result (machine_line_text l) c.write_mem.new.f) (sym c.in-Mem.is) c.write_mem.ensures

pub returns-in-Payload-clause-writes : goal.returns-in-Payload-clause-writes
returns-in-Payload-clause-writes g c = subst (λ (l : MachineLine). WritesOnOk g.W.Write.write_str_gives c.args.f.now c.write_payload.result (machine_line_text l) c.write_payload.new.f) (sym c.in-Payload.is) c.write_payload.ensures
