use Rattle.std.proofs.Common.{None, ◌≡◌, ◌≤◌, ◌-◌, ℕ}
use Rattle.debug_session.specs.{Firsts.{TellsTouched, ToHalt, seen_in}, Lives.machine_of, Steps.Went, Withins.StayedWithin}
use Rattle.debug_session.proofs.steps.step_within.Given as goal

abbrev pub invariant-loop-done : goal.invariant-loop-done
invariant-loop-done g l = record {
  went : (n : ℕ) × (n ≤ l.done) × Went (λ h. h ≡ l.hart) n l.setting.shape.now l.fn.timeline l.timeline;
  first : ToHalt l.setting.shape.now l.stops l.hart None l.fn.timeline l.timeline;
  within : StayedWithin l.setting.shape.now l.within l.hart l.done l.fn.timeline l.timeline;
  few : l.done ≤ l.within.most;
  tells : TellsTouched (machine_of l.timeline.bench) l.stops.watches.items (seen_in l.before.items);
}

abbrev pub decreases-loop-done : goal.decreases-loop-done
decreases-loop-done g l = l.within.most - l.done
