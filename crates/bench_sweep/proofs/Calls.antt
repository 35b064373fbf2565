-- How many calls a disk has counted.
use Rattle.std.proofs.Common.{◌≡◌, ℕ, List, ap, get_or}
use Rattle.simdisk.specs.contracts.logged.SimDiskLogged.TheImpl as sim_logged
use Rattle.simdisk.specs.declared.SimDisk.{SimDisk}
use Rattle.bench_report.specs.Views.{facts}
use Rattle.bench_sweep.specs.{declared.points.Caller.{Caller, TheVariants.{Disk, Lane}}, Points.calls_of}

-- the same of each caller
pub same_calls : (caller : Caller) (old new : SimDisk) → (facts new).calls ≡ (facts old).calls → sim_logged.ghosts.lane_calls new ≡ sim_logged.ghosts.lane_calls old → calls_of caller new ≡ calls_of caller old
same_calls Disk old new calls lanes = calls
same_calls (Lane i) old new calls lanes = ap (λ (counts : List ℕ). get_or counts i 0) lanes
