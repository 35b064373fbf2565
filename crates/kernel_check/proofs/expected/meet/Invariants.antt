use Rattle.std.proofs.Common.{drop}
use Rattle.kernel_check.specs.Shown.{Meet}
use Rattle.kernel_check.proofs.expected.meet.Given as goal

abbrev pub invariant-loop-look : goal.invariant-loop-look
invariant-loop-look l = record {
  into : Meet l.looks l.shown → Meet (drop l.look-index l.looks) l.rest;
  back : Meet (drop l.look-index l.looks) l.rest → Meet l.looks l.shown;
}
