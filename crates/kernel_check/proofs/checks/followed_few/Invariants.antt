use Rattle.kernel_check.specs.{Asks.asked_in, Says.SaysAs}
use Rattle.kernel_check.proofs.checks.followed_few.Given as goal

abbrev pub invariant-loop-switches : goal.invariant-loop-switches
invariant-loop-switches g l =
    SaysAs l.best.verdict (asked_in l.task.options.now l.task.shape.now l.task.kernel.now.payload.items) l.task.looks.now l.best.kinds.items
