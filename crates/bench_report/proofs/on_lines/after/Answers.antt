use Rattle.std.proofs.Common.{subst, ap, arith, length}
use Rattle.sbi.specs.declared.words.Word.{Word}
use Rattle.bench_report.specs.{Views.{store_in, facts, fault_state, store_facts, store_fault_state}, Agree.BoardAfter}
use Rattle.bench_report.proofs.{Devices.stays, Ended.over_ended}
use Rattle.bench_report.proofs.on_lines.after.Goals as goal

pub returns-in-Over-clause-reported : goal.returns-in-Over-clause-reported
returns-in-Over-clause-reported c = λ size b h.
    let P : Word → Type 0 = λ w. BoardAfter size w b c.args.board in
    let was = subst P c.in-Over.is h in
    let store = store_in c.args.board in
    let left = c.into_disk.result in (
      was.0,
      over_ended size b.disk_state b.kept store (facts left) was.1 c.into_disk.ensures.up,
      stays size b (store_fault_state store) (fault_state left) (store_facts store) (facts left) was.2 c.into_disk.ensures.fault_state (omega (arith, c.into_disk.ensures.failures)) (ap length c.into_disk.ensures.content) (λ x may. (c.into_disk.ensures.facts.now x).0 may),
    )
