use Rattle.std.proofs.Common.{◌≡◌, ◌+◌, All, length, map, vec_len, vec_capacity}
use Rattle.arrayvec.specs.ArrayVec.{array_vec_len}
use Rattle.hsm.specs.Seating.{all_harts}
use Rattle.ipi.specs.Seating.{all_pending_views}
use Rattle.store.specs.Views.{journal_of}
use Rattle.hart_threads.specs.{Begun.AreFromLast, Ends.{AreNumberedFrom, own_receipt}, Views.{bus_parts, inside, moments_with, parts_with}}
use Rattle.board_session.specs.{Backs.AreBack, Histories.EndsWith, Sessions.IsOver}
use Rattle.board_session.proofs.life_end.ends_of.Given as goal

abbrev pub invariant-loop-rested : goal.invariant-loop-rested
invariant-loop-rested g l = record {
  store : inside l.whole ≡ inside l.fn.whole;
  moments : moments_with l.whole ≡ moments_with l.fn.whole;
  back : (back : AreBack (parts_with l.whole)) × (back.harts ≡ map own_receipt l.ends.items);
  parts : length (parts_with l.whole) ≡ vec_len l.ends;
  made : vec_len l.ends + vec_len l.loops ≡ vec_len l.fn.loops;
  room : vec_capacity l.ends ≡ vec_capacity l.fn.room;
  numbered : AreNumberedFrom 0 l.ends.items;
  left : AreFromLast (vec_len l.ends) (λ r. r.ended.hart.id) l.loops.items;
  well : All (EndsWith g.J.Threaded.machine g.J.Threaded.turns g.J.Threaded.gated l.parted.token.value (bus_parts l.bus) (all_harts l.back.starts.items) (all_pending_views l.back.raises.items)) l.ends.items;
  seats : array_vec_len l.back.starts ≡ vec_len l.ends;
  over : All (IsOver (journal_of (inside l.whole))) l.ends.items;
}

abbrev pub decreases-loop-rested : goal.decreases-loop-rested
decreases-loop-rested g l = vec_len l.loops
