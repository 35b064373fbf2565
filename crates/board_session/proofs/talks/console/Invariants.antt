use Rattle.std.proofs.Common.{◌≡◌}
use Rattle.hart_threads.specs.Locks.{no_locks}
use Rattle.board_session.{specs.{Commands.party, Dialogues.{dialogue_ends, output_of}}, proofs.Talking.Talking}
use Rattle.board_session.proofs.talks.console.Given as goal

abbrev pub invariant-loop : goal.invariant-loop
invariant-loop g l = record {
  free : l.locks ≡ no_locks;
  talks : Talking g.J.Journal.found g.J.Journal.issued
      (dialogue_ends (g.I.Read.remaining l.fn.input) (output_of g.W.Write.contents l.fn.out) (party l.fn.part.told l.fn.heard))
      (dialogue_ends (g.I.Read.remaining l.input) (output_of g.W.Write.contents l.out) (party l.part.told l.heard));
}
