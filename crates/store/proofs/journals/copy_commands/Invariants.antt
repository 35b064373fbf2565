use Rattle.std.proofs.Common.{◌≡◌, take, vec_capacity}
use Rattle.store.proofs.journals.copy_commands.Given as goal

abbrev pub invariant-loop-command : goal.invariant-loop-command
invariant-loop-command l =
    record { items : l.copies.items ≡ take l.command-index l.commands; room : vec_capacity l.copies ≡ 4096 }
