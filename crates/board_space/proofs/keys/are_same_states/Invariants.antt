use Rattle.std.{proofs.Common.{ℕ, ◌≡◌, ◌<◌}, specs.Prelude.get_or}
use Rattle.hsm.specs.declared.standings.Standing.TheVariants.{Stopped}
use Rattle.board_space.proofs.keys.are_same_states.Given as goal

abbrev pub invariant-loop-place : goal.invariant-loop-place
invariant-loop-place l = (k : ℕ) → k < l.place → get_or l.others k Stopped ≡ get_or l.states k Stopped
