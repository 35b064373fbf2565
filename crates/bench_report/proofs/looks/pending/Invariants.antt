use Rattle.std.proofs.Common.{◌≡◌, ◌*◌, ◌≤◌}
use Rattle.machine.specs.Shows.{pending_set}
use Rattle.bench_report.specs.Views.{store_in, machine_in}
use Rattle.bench_report.proofs.looks.pending.Given as goal

abbrev pub invariant-loop-number : goal.invariant-loop-number
invariant-loop-number l =
    (machine_in l.board ≡ machine_in l.fn.board) × (store_in l.board ≡ store_in l.fn.board) × (l.set ≡ pending_set (machine_in l.fn.board) l.number) × (l.set ≤ 128 * l.number)
