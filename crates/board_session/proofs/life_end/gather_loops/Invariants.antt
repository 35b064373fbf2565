use Rattle.std.proofs.Common.{◌≡◌, ◌+◌, length, vec_len}
use Rattle.hart_threads.specs.Views.{inside, moments_with, parts_with}
use Rattle.board_session.specs.Backs.{AreBack}
use Rattle.board_session.proofs.life_end.gather_loops.Given as goal

abbrev pub invariant-loop-rested : goal.invariant-loop-rested
invariant-loop-rested g l = record {
  store : inside l.whole ≡ inside l.fn.whole;
  moments : moments_with l.whole ≡ moments_with l.fn.whole;
  back : AreBack (parts_with l.whole);
  many : length (parts_with l.whole) + vec_len l.loops ≡ length (parts_with l.fn.whole) + vec_len l.fn.loops;
}

abbrev pub decreases-loop-rested : goal.decreases-loop-rested
decreases-loop-rested g l = vec_len l.loops
