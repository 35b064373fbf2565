use Rattle.command_line.specs.Told.{fault_of}
use Rattle.simdisk.specs.contracts.device.SimDiskDisk.TheImpl as sim_disk
use Rattle.board_session.proofs.FaultsEnded.{is_written}
use Rattle.board_session.proofs.runs.write_at_the_end.Goals as goal

pub returns : goal.returns
returns g c =
    let w = c.write_disk-written in
    is_written c.args.options.now.new (sim_disk.facts-value.it c.args.disk.now) c.args.ran (g.H.DiskFile.bytes c.args.held.now) (g.H.DiskFile.bytes w.new.held)
    (g.H.HeldFile.left c.args.held.now) (g.H.HeldFile.left w.new.held) (fault_of c.first_of.result) c.as_file_fault.result w.result
    w.ensures.written w.ensures.kept (g.met.H.HeldFile.counts_now _) w.ensures.crash w.ensures.failed c.first_of.ensures c.as_file_fault.ensures
