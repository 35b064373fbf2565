use Rattle.std.proofs.Common.{[]}
use Rattle.disk.proofs.log.Log.picked.Given as goal

abbrev pub ghost-with_parts : goal.ghost-with_parts
ghost-with_parts g a = (g.picked, [], [], [])
