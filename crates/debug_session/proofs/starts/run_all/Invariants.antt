use Rattle.std.{proofs.Common.{◌≡◌, ◌++◌, []}, specs.Vec.Iter.into_iter_items}
use Rattle.debug_session.specs.{Ats.IsAt, Steps.AreNoted}
use Rattle.debug_session.proofs.starts.run_all.Given as goal

abbrev pub invariant-loop-line : goal.invariant-loop-line
invariant-loop-line g l = record {
  at : IsAt l.setting.shape.now l.timeline;
  noted : AreNoted l.yielded [] l.timeline.history;
  begins : l.timeline.begins ≡ l.fn.timeline.begins;
  rest : l.yielded ++ into_iter_items l.line-iterator ≡ l.fn.lines.items;
}
