use Rattle.std.proofs.Common.{◌≡◌, ◌+◌, [], All, length, vec_len}
use Rattle.hart_threads.specs.Views.{inside, moments_with, parts_with}
use Rattle.board_session.specs.Backs.{AreBack}
use Rattle.board_session.proofs.life_end.gather_parts.Given as goal

abbrev pub invariant-loop-part : goal.invariant-loop-part
invariant-loop-part g l = record {
  store : inside l.whole ≡ inside l.fn.whole;
  moments : moments_with l.whole ≡ moments_with l.fn.whole;
  back : AreBack (parts_with l.whole);
  fresh : All (λ p. p.receipts.told ≡ []) l.parts.items;
  many : length (parts_with l.whole) + vec_len l.parts ≡ length (parts_with l.fn.whole) + vec_len l.fn.parts;
}

abbrev pub decreases-loop-part : goal.decreases-loop-part
decreases-loop-part g l = vec_len l.parts
