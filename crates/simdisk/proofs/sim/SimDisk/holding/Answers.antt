use Rattle.std.proofs.Common.{◌≡◌, ap}
use Rattle.simdisk.{specs.History.log_of, proofs.Notes.fresh_of}
use Rattle.disk.specs.WriteLog.{new_log, synced}
use Rattle.simdisk.proofs.sim.SimDisk.holding.Goals as goal

pub returns-clause-fresh : goal.returns-clause-fresh
returns-clause-fresh c =
    let history = c.in_ok-history.history in
    let begun : log_of history ≡ new_log c.args.content.items = rw (← c.deref.ensures.value) c.in_ok-history.ensures.log in
    fresh_of c.args.content.items (synced (log_of history)) (log_of history) 0 0 _ begun (ap synced begun) c.nothing.ensures
