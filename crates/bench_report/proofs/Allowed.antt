-- What a boot issues by a mode that the state allows.
use Rattle.std.proofs.Common.{◌≡◌, List, [], Option, None, is_some, if◌then◌else◌, ℕ, sym, ap}
use Rattle.board_model.specs.{Durable.{DurableState, Change}, declared.boot_mode.BootMode.BootMode}
use Rattle.board.specs.{Boots.boot_refusal, Moments.commands_by}
use Rattle.bench_report.specs.PowerOns.{commands_of}

abbrev unless : List Change → Option ℕ → List Change
unless cs o = if is_some o then [] else cs

pub all_issued : (mode : BootMode) (s : DurableState) → boot_refusal s mode ≡ None → commands_by mode s ≡ commands_of mode s
all_issued mode s allowed = sym (ap (unless (commands_by mode s)) allowed)
