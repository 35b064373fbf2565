use Rattle.std.proofs.Common.{◌≡◌, ℕ, ◌<◌, ◌≤◌, true, false, get_or}
use Rattle.state_space.specs.Graphs.{first_step, target_of, event_of}
use Rattle.state_space.proofs.ends.reaches.Given as goal

abbrev pub invariant-loop-step : goal.invariant-loop-step
invariant-loop-step g l =
    (j : ℕ) → first_step l.graph l.row ≤ j → j < l.step → (g.S.System.rules (g.S.System.setting l.system)).goes (event_of l.graph j) → get_or l.marks (target_of l.graph j) false ≡ true → ⊥
