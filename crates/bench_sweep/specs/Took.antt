-- On which disks lines were run, and how many calls these have counted. Source: docs/SCRIPT.md, "The benches".
use Rattle.std.specs.Prelude.{◌≡◌, List, [], ◌∷◌}
use Rattle.board_model.specs.Shapes.{Size}
use Rattle.simdisk.specs.declared.SimDisk.{SimDisk}
use Rattle.script_lang.specs.declared.line.Line.{Line}
use Rattle.report_lines.specs.declared.printed.Answer.{Answer}
use Rattle.bench_report.specs.Agree.{Agrees, HasDisk}
use Rattle.bench_report.specs.Bench.{Bench}
use Rattle.bench_report.specs.Steps.{Step}
use Rattle.bench_report.specs.Views.{disk_in}
use Rattle.bench_report.specs.declared.power.Power.{Power}
use Rattle.bench_report.specs.declared.power.Power.TheVariants.{Off, On}
use Rattle.bench_sweep.specs.declared.points.Caller.{Caller}
use Rattle.bench_sweep.specs.declared.site.Going.{Going}
use Rattle.bench_sweep.specs.Points.{calls_of}

-- the disk of a board, on or off
abbrev pub disk_at : Power → SimDisk
disk_at (Off off) = off.disk
disk_at (On board) = disk_in board

abbrev pub own_disk : Going → SimDisk
own_disk going = disk_at going.bench.power

-- a board, on or off, that stands for that bench, has that disk
abbrev pub StandsOn : Size → Bench → SimDisk → Type 0
StandsOn size b disk = (power : Power) × Agrees size b power × HasDisk power disk

-- Boards of two benches have these disks, and the line leads from the first bench to the second. Which calls the line made the disks' counts
-- alone do not tell.
abbrev pub LineTook : Size → Line → SimDisk → SimDisk → Type 0
LineTook size line old new =
    (b then : Bench) × (answer : Answer) × StandsOn size b old × Step size line b answer then × StandsOn size then new

-- both have counted the same calls of each caller: a disk, and a copy of it, or what a cut or a power-off left of it
abbrev pub CountsAlike : SimDisk → SimDisk → Type 0
CountsAlike old new = (caller : Caller) → calls_of caller new ≡ calls_of caller old

-- So it is of these lines, one after another, from the first disk to the second: each begins with the disk that the one before it left, or
-- with one that has counted the same.
abbrev pub RunTook : Size → List Line → SimDisk → SimDisk → Type 0
RunTook size [] old new = CountsAlike old new
RunTook size (line ∷ more) old new =
    (from to : SimDisk) × CountsAlike old from × LineTook size line from to × RunTook size more to new
