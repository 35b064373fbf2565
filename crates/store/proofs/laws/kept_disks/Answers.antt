use Rattle.store.proofs.Bridges.{still_blank, still_kept, finds_no_more, kept_marked, kept_open, kept_format, leaves_one_size, leaves_sized}
use Rattle.store.proofs.laws.kept_disks.Goals as goal

pub returns-clause-goes_on : goal.returns-clause-goes_on
returns-clause-goes_on g c old new no_more =
    let a = g.D.Disk.facts old in
    let b = g.D.Disk.facts new in
    (still_blank a b no_more, still_kept a b no_more, finds_no_more a b no_more)

pub returns-clause-marked : goal.returns-clause-marked
returns-clause-marked g c disk size kept = kept_marked (g.D.Disk.facts disk) size kept (g.met.D.Disk.may_keep disk)

pub returns-clause-one_size : goal.returns-clause-one_size
returns-clause-one_size g c disk y z s leaves kept = leaves_one_size (g.D.Disk.facts disk) y z s leaves kept

pub returns-clause-sized : goal.returns-clause-sized
returns-clause-sized g c disk size s leaves = leaves_sized (g.D.Disk.facts disk) size s leaves

pub returns-clause-opens : goal.returns-clause-opens
returns-clause-opens g c disk new size e kept why = kept_open (g.D.Disk.facts disk) (g.D.Disk.facts new) size e kept (g.met.D.Disk.may_keep disk) why

pub returns-clause-formats : goal.returns-clause-formats
returns-clause-formats g c disk new size e enough why = kept_format (g.D.Disk.facts disk) (g.D.Disk.facts new) size e enough why
