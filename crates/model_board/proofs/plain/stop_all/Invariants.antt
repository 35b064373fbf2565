use Rattle.std.{proofs.Common.{◌≡◌, ◌<◌, ℕ}, specs.Prelude.{length, get_or}}
use Rattle.hart.specs.State.{never_started}
use Rattle.model_board.proofs.plain.stop_all.Given as goal

abbrev pub invariant-loop-place : goal.invariant-loop-place
invariant-loop-place l = record {
  long : length l.harts.items ≡ length l.initial.harts.items;
  done : (k : ℕ) → k < l.place → get_or l.harts.items k (never_started k) ≡ never_started k;
}
