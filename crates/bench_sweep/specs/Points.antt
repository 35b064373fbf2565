-- The calls at which a bench cuts power, or lets one fail. Source: docs/SCRIPT.md, "The benches".
use Rattle.std.specs.Prelude.{◌≡◌, ◌+◌, ◌∷◌, [], ℕ, List, Option, None, Some, get_or}
use Rattle.disk.specs.declared.device.ArmedFault.{ArmedFault}
use Rattle.disk.specs.declared.device.ArmedFault.TheVariants.{FailAt, CutAt, FailLane, CutLane}
use Rattle.simdisk.specs.contracts.logged.SimDiskLogged.TheImpl as sim_logged
use Rattle.simdisk.specs.declared.SimDisk.{SimDisk}
use Rattle.simdisk.specs.declared.fill.Fill.{Fill}
use Rattle.simdisk.specs.declared.fill.Fill.TheVariants.{Byte}
use Rattle.bench_report.specs.Views.{facts}
use Rattle.bench_sweep.specs.declared.points.BenchKind.{BenchKind}
use Rattle.bench_sweep.specs.declared.points.BenchKind.TheVariants.{Cuts, Fails}
use Rattle.bench_sweep.specs.declared.points.Caller.{Caller}
use Rattle.bench_sweep.specs.declared.points.Caller.TheVariants.{Disk, Lane}

-- the callers in order
abbrev pub callers : List Caller
callers = Disk ∷ Lane 0 ∷ Lane 1 ∷ Lane 2 ∷ Lane 3 ∷ []

-- how many calls of a caller a disk has counted
abbrev pub calls_of : Caller → SimDisk → ℕ
calls_of Disk disk = (facts disk).calls
calls_of (Lane i) disk = get_or (sim_logged.ghosts.lane_calls disk) i 0

-- that caller made n calls from the one disk to the other
abbrev pub MadeCalls : SimDisk → SimDisk → Caller → ℕ → Type 0
MadeCalls from to caller n = calls_of caller to ≡ calls_of caller from + n

-- power is cut within its call of that number from now on
abbrev pub cut_of : Caller → ℕ → ArmedFault
cut_of Disk n = CutAt n
cut_of (Lane i) n = CutLane i n

-- its call of that number from now on fails
abbrev pub failure_of : Caller → ℕ → ArmedFault
failure_of Disk n = FailAt n
failure_of (Lane i) n = FailLane i n

abbrev pub fault_at : BenchKind → Caller → ℕ → ArmedFault
fault_at Cuts caller n = cut_of caller n
fault_at Fails caller n = failure_of caller n

-- what a cut leaves of what was not synced, by the fill of its run; a run with a failure has none, and is cut with zeros
abbrev pub cut_fill : Option Fill → Fill
cut_fill None = Byte 0
cut_fill (Some fill) = fill
