use Rattle.std.proofs.Common.{[], ◌≡◌, ℕ, ◌<◌}
use Rattle.hsm.specs.{declared.view.Stage.TheVariants.Running, Calls.state_in_word}
use Rattle.hsm.specs.declared.state.State.TheVariants as codes
use Rattle.hsm.proofs.standings.settled_hart.Given as goal

abbrev pub ghosts-peek : goal.ghosts-peek
ghosts-peek a = record { by = 0; target = 0; address = 0; opaque = 0; beside = []; stage = Running; harts = a.table.now.table.shared.key.harts }

abbrev pub invariant-loop-number : goal.invariant-loop-number
invariant-loop-number l = (k : ℕ) → k < l.number → state_in_word k l.found ≡ codes.StartPending
