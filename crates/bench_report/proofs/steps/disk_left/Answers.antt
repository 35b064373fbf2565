use Rattle.std.proofs.Common.{refl, subst, ap, arith, length}
use Rattle.bench_report.specs.{declared.power.Power.Power, Views.{store_in, facts, fault_state, store_facts, store_fault_state}}
use Rattle.bench_report.{specs.Agree.Agrees, proofs.{Devices.stays, Ended.board_ended}}
use Rattle.bench_report.proofs.steps.disk_left.Goals as goal

pub returns-in-Off-clause-reported : goal.returns-in-Off-clause-reported
returns-in-Off-clause-reported c = λ size b h. let P : Power → Type 0 = λ p. Agrees size b p in let was = subst P c.in-Off.is h in (refl, was.1, was.2)

pub returns-in-On-clause-reported : goal.returns-in-On-clause-reported
returns-in-On-clause-reported c = λ size b h.
    let P : Power → Type 0 = λ p. Agrees size b p in
    let was = subst P c.in-On.is h in
    let board = c.in-On.board in
    let left = c.into_disk.result in
    let device = stays size b (store_fault_state (store_in board)) (fault_state left) (store_facts (store_in board)) (facts left) was.1 c.into_disk.ensures.fault_state (omega (arith, c.into_disk.ensures.failures)) (ap length c.into_disk.ensures.content) (λ x may. (c.into_disk.ensures.facts.now x).0 may) in
    (refl, board_ended size b.disk_state b.kept b.power board (facts left) was.0 c.into_disk.ensures.up c.into_disk.ensures.down c.into_disk.ensures.allowed, device)
