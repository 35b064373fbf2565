use Rattle.std.proofs.Common.{◌≡◌, ◌+◌, ℕ, None, true, false, slice_index_or}
use Rattle.debug_session.specs.{Firsts.ToHalt, Steps.Went}
use Rattle.debug_session.proofs.forth.go.Given as goal

abbrev pub invariant-parts : goal.invariant-parts
invariant-parts g l = record {
  went : (n : ℕ) × (l.round.left + n ≡ l.fn.round.left)
      × Went (λ h. slice_index_or l.fn.round.harts h false ≡ true) n l.setting.shape.now l.fn.timeline l.timeline;
  first : ToHalt l.setting.shape.now l.stops l.first None l.fn.timeline l.timeline;
  harts : l.round.harts ≡ l.fn.round.harts;
}
