-- What a line arms, and what an armed cut is to leave after it.
use Rattle.disk.specs.declared.device.ArmedFault.{ArmedFault}
use Rattle.disk.specs.declared.device.ArmedFault.TheVariants as faults
use Rattle.simdisk.specs.declared.fill.Fill.{Fill}
use Rattle.script_lang.specs.declared.armings.Arming.{Arming}
use Rattle.script_lang.specs.declared.armings.Arming.TheVariants.{CutAt, CutLane, FailAt, FailLane}

-- the fault of the disk
abbrev pub fault_of : Arming → ArmedFault
fault_of (CutAt n fill) = faults.CutAt n
fault_of (CutLane i n fill) = faults.CutLane i n
fault_of (FailAt n) = faults.FailAt n
fault_of (FailLane i n) = faults.FailLane i n

-- as the newest cut says
abbrev pub newest_fill : Arming → Fill → Fill
newest_fill (CutAt n newest) fill = newest
newest_fill (CutLane i n newest) fill = newest
newest_fill (FailAt n) fill = fill
newest_fill (FailLane i n) fill = fill
