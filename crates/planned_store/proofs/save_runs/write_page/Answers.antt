use Rattle.std.proofs.Common.{ℕ, subst}
use Rattle.disk.specs.{Calls.MakesCalls, Facts.Torn}
use Rattle.planned_store.proofs.Chunks.{eight_chunks, page_written}
use Rattle.planned_store.proofs.save_runs.write_page.Goals as goal

pub returns-clause-written : goal.returns-clause-written
returns-clause-written g c put =
    let a = g.D.Disk.facts c.args.disk.now in
    let b = g.D.Disk.facts c.write.new.self in
    let chunks = c.as_chunks.result.0.now in
    let long = eight_chunks c.args.ram.now c.page.result.now chunks c.args.page c.page.ensures.value c.page.ensures.whole c.as_chunks.ensures.front in (
      subst (λ (k : ℕ). MakesCalls 1 (Torn c.args.first k) a b (g.D.Disk.fault_state c.args.disk.now) (g.D.Disk.fault_state c.write.new.self) c.write.result) long c.write.ensures.called,
      page_written c.args.ram.now c.page.result.now chunks c.args.page c.page.ensures.value c.page.ensures.whole c.as_chunks.ensures.front c.args.first a.content b.content c.write.result c.write.ensures.written,
    )
