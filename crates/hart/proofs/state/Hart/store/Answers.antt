use Rattle.std.proofs.Common.{ℕ, ℤ, ◌≡◌, ◌∙◌, ap, w32, to_z, of_z, rules}
use Rattle.hart.{specs.{Means.sum, State.{reg, jump}}, proofs.Carried.{stored, store_misaligns, store_outside}}
use Rattle.hart.proofs.state.Hart.store.Goals as goal

pub returns-in-Ok : goal.returns-in-Ok
returns-in-Ok c =
    let s = c.args.self.now in
    let same : to_z w32 (of_z w32 c.args.flat.imm) ≡ c.args.flat.imm = search rules in
    stored c.args.op c.moved-address.result (sum (reg s c.args.flat.rs1) c.args.flat.imm) c.reg-2.result (reg s c.args.flat.rs2) c.args.ram.now c.store.new.ram (jump s c.args.pc) (jump s c.behind.result)
    (c.moved-address.ensures ∙ ap (λ (z : ℤ). sum c.reg.result z) same ∙ ap (λ (x : ℕ). sum x c.args.flat.imm) c.reg.ensures) c.reg-2.ensures c.in-Ok.field-0 c.in-Ok.ensures (ap (λ (x : ℕ). jump s x) c.behind.ensures)

pub returns-in-Err-Misaligned : goal.returns-in-Err-Misaligned
returns-in-Err-Misaligned c =
    let s = c.args.self.now in
    let same : to_z w32 (of_z w32 c.args.flat.imm) ≡ c.args.flat.imm = search rules in
    store_misaligns c.args.op c.moved-address.result (sum (reg s c.args.flat.rs1) c.args.flat.imm) c.reg-2.result (reg s c.args.flat.rs2) c.args.ram.now c.store.new.ram (jump s c.args.pc) (jump c.trap.new.self c.trap.result)
    (c.moved-address.ensures ∙ ap (λ (z : ℤ). sum c.reg.result z) same ∙ ap (λ (x : ℕ). sum x c.args.flat.imm) c.reg.ensures) c.reg-2.ensures c.in-Err-Misaligned.field-0 c.in-Err-Misaligned.field-0-is c.in-Err-Misaligned.ensures c.trap.ensures

pub returns-in-Err-Outside : goal.returns-in-Err-Outside
returns-in-Err-Outside c =
    let s = c.args.self.now in
    let same : to_z w32 (of_z w32 c.args.flat.imm) ≡ c.args.flat.imm = search rules in
    store_outside c.args.op c.moved-address.result (sum (reg s c.args.flat.rs1) c.args.flat.imm) c.reg-2.result (reg s c.args.flat.rs2) c.args.ram.now c.store.new.ram (jump s c.args.pc) (jump c.trap-in-Err-Outside.new.self c.trap-in-Err-Outside.result)
    (c.moved-address.ensures ∙ ap (λ (z : ℤ). sum c.reg.result z) same ∙ ap (λ (x : ℕ). sum x c.args.flat.imm) c.reg.ensures) c.reg-2.ensures c.in-Err-Outside.field-0 c.in-Err-Outside.field-0-is c.in-Err-Outside.ensures c.trap-in-Err-Outside.ensures
