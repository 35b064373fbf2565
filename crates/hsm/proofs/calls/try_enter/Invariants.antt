use Rattle.std.proofs.Common.{[]}
use Rattle.hsm.proofs.calls.try_enter.Given as goal

abbrev pub ghost-try_enter_beside : goal.ghost-try_enter_beside
ghost-try_enter_beside a = []
