-- What a line says, and the bench after one thing that happened.
use Rattle.std.specs.Prelude.{◌≡◌, ◌≢◌, ◌+◌, ⊤, true, List, [], ◌∷◌, ◌++◌, Some, None, length}
use Rattle.board_model.specs.Durable.{Change, after, fold}
use Rattle.board_model.specs.Kept.{nothing_kept}
use Rattle.disk.specs.Facts.{counted}
use Rattle.disk.specs.FaultState.{FaultState, Cause, fault_state_armed, fault_state_left}
use Rattle.disk.specs.declared.device.ArmedFault.{ArmedFault}
use Rattle.machine.specs.Machine.{Machine}
use Rattle.machine.specs.declared.line.MachineLine.{MachineLine}
use Rattle.report_lines.specs.declared.printed.Printed.{Printed}
use Rattle.report_lines.specs.declared.printed.Printed.TheVariants as printed
use Rattle.report_lines.specs.declared.printed.Answer.{Answer}
use Rattle.bench_report.specs.Bench.{Unknown, Formatted, BenchLife, Bench}

-- ---- answers

-- a line alone
abbrev pub says : Printed → Answer
says line = record { found = None; line = line }

-- a line that shows memory or harts, or what the slots boot
abbrev pub shows : MachineLine → Answer
shows line = says (printed.Shown line)

-- by what a line says, memory was refused neither to a power-on nor to an examination of the disk
abbrev pub SaysEnough : Printed → Type 0
SaysEnough (printed.OnRefused n) = n ≢ 11
SaysEnough (printed.InspectRefused n) = n ≢ 11
SaysEnough line = ⊤

-- ---- the bench after one thing that happened

-- memory was refused: to a power-on, a suspension or an examination of the disk
abbrev pub out_of_memory : Bench → Bench
out_of_memory b = record b { growths = b.growths + 1 }

-- a failure of the disk was answered, after which its fault state is this
abbrev pub failed : FaultState → Bench → Bench
failed m b = record b { failures = counted b.failures 1; fault_state = m }

-- a call of the disk failed, for one of the causes that a disk has
abbrev pub FailsByFault : Bench → Bench → Type 0
FailsByFault b new = (m : FaultState) × Cause b.fault_state m × (new ≡ failed m b)

abbrev pub off : Bench → Bench
off b = record b { power = None }

abbrev pub on_with : BenchLife → Bench → Bench
on_with life b = record b { power = Some life }

-- power was cut
abbrev pub unpowered : Bench → Bench
unpowered b = record b { power = None; fault_state = fault_state_left b.fault_state }

-- that fault is armed, in the place of an older one
abbrev pub armed_with : ArmedFault → Bench → Bench
armed_with fault b = record b { fault_state = fault_state_armed fault b.fault_state }

-- nothing is known of the disk any more
abbrev pub unknown : Bench → Bench
unknown b = record b { disk_state = Unknown }

-- the disk was written past the firmware
abbrev pub written_past : Bench → Bench
written_past b = record (unknown b) { poked = true }

-- the disk was formatted
abbrev pub formatted_anew : Bench → Bench
formatted_anew b = record b { disk_state = Formatted; kept = nothing_kept }

-- an open settled the command in doubt: these are kept
abbrev pub settled : List Change → Bench → Bench
settled changes b = record b { kept = record { changes = changes; doubt = None } }

abbrev pub has_machine : Machine → BenchLife → BenchLife
has_machine m life = record life { machine = m }

-- a command of the life was acknowledged
abbrev pub acknowledged : Change → BenchLife → Bench → Bench
acknowledged c life b = record b {
  kept = record b.kept { changes = b.kept.changes ++ c ∷ [] };
  power = Some (record life { now = after life.now c; receipts = life.receipts + 1 });
}

-- these commands of the life were acknowledged, the first of them first
abbrev pub life_with : List Change → BenchLife → BenchLife
life_with cs life = record life { now = fold life.now cs; receipts = life.receipts + length cs }

abbrev pub all_acknowledged : List Change → BenchLife → Bench → Bench
all_acknowledged cs life b = record b {
  kept = record b.kept { changes = b.kept.changes ++ cs };
  power = Some (life_with cs life);
}

-- a command of the life is in doubt
abbrev pub in_doubt : Change → BenchLife → Bench → Bench
in_doubt c life b = record b { kept = record b.kept { doubt = Some c }; power = Some (record life { doubt = Some c }) }
