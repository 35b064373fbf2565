use Rattle.std.proofs.Common.{◌≡◌}
use Rattle.store.specs.Views.{journal_of}
use Rattle.hart_threads.proofs.Booted.{AreNoted}
use Rattle.hart_threads.proofs.unshared.note_journal.Given as goal

abbrev pub invariant-loop-count : goal.invariant-loop-count
invariant-loop-count g l = record {
  noted : AreNoted (journal_of l.store) l.count l.keeper.log l.part.told;
  parts : l.keeper.parts ≡ l.fn.keeper.parts;
}
