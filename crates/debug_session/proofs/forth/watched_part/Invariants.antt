use Rattle.std.proofs.Common.{None, ◌≡◌, ◌≤◌, ◌-◌}
use Rattle.debug_session.specs.{Firsts.{TellsTouched, ToHalt, seen_in}, Lives.machine_of, Steps.Went}
use Rattle.debug_session.proofs.forth.watched_part.Given as goal

abbrev pub invariant-loop-sum : goal.invariant-loop-sum
invariant-loop-sum g l = record {
  went : Went (λ h. h ≡ l.hart) l.sum l.setting.shape.now l.fn.timeline l.timeline;
  first : ToHalt l.setting.shape.now l.stops l.hart None l.fn.timeline l.timeline;
  few : l.sum ≤ l.most;
  tells : TellsTouched (machine_of l.timeline.bench) l.stops.watches.items (seen_in l.before.items);
}

abbrev pub decreases-loop-sum : goal.decreases-loop-sum
decreases-loop-sum g l = l.most - l.sum
