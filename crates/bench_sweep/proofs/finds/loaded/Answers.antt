use Rattle.std.proofs.Common.{IfOk, subst, sym}
use Rattle.bench_report.specs.Views.{SimStore, store_in}
use Rattle.bench_sweep.{specs.Runs.FoundSo, proofs.Loaded.found_bare}
use Rattle.bench_sweep.proofs.finds.loaded.Goals as goal

pub returns-then-is_some : goal.returns-then-is_some
returns-then-is_some c = record {
  told = (
      let S : SimStore → Type 0 = λ store. IfOk c.with_memory.result (λ plain. FoundSo plain c.args.found.now store) in
      subst S c.store_and_ram-store.ensures c.with_memory.ensures.told);
}

pub returns : goal.returns
returns c = record { told = found_bare c.plain_of.result c.args.found.now (store_in c.args.board) _ (sym c.if-is_some.ensures) c.plain_of.ensures }
