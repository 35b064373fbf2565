use Rattle.std.proofs.Common.{◌≡◌, ℕ, ◌<◌, false, get_or}
use Rattle.state_space.specs.Deads.{AreReaching, IsStuck}
use Rattle.state_space.proofs.ends.go_over.Given as goal

abbrev pub invariant-loop-down : goal.invariant-loop-down
invariant-loop-down g l = AreReaching (g.S.System.rules (g.S.System.setting l.system)).goes l.graph l.goals l.marks

abbrev pub invariant-loop-up : goal.invariant-loop-up
invariant-loop-up g l = record {
  reaching : AreReaching (g.S.System.rules (g.S.System.setting l.system)).goes l.graph l.goals l.marks;
  stuck : l.any ≡ false → (k : ℕ) → k < l.up → get_or l.marks k false ≡ false → IsStuck (g.S.System.rules (g.S.System.setting l.system)).goes l.graph l.goals l.marks k;
}
