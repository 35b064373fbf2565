use Rattle.store.proofs.Bridges.{zeros_blank, blank_unmarked, blank_leaves, blank_open, blank_format}
use Rattle.store.proofs.laws.blank_disks.Goals as goal

pub returns-clause-zeros : goal.returns-clause-zeros
returns-clause-zeros g c n disk fresh = zeros_blank n (g.D.Disk.facts disk) fresh

pub returns-clause-unmarked : goal.returns-clause-unmarked
returns-clause-unmarked g c disk blank marked = blank_unmarked (g.D.Disk.facts disk) (g.D.Disk.facts disk) blank (g.met.D.Disk.may_keep disk) marked

pub returns-clause-stands : goal.returns-clause-stands
returns-clause-stands g c disk size s blank leaves = blank_leaves (g.D.Disk.facts disk) size s blank leaves

pub returns-clause-opens : goal.returns-clause-opens
returns-clause-opens g c disk new e blank some why = blank_open (g.D.Disk.facts disk) (g.D.Disk.facts new) blank (g.met.D.Disk.may_keep disk) e some why

pub returns-clause-formats : goal.returns-clause-formats
returns-clause-formats g c disk new size e blank enough why = blank_format (g.D.Disk.facts disk) (g.D.Disk.facts new) blank (g.met.D.Disk.may_keep disk) size e enough why
