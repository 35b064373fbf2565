-- Deeds that ask nothing of the disk and of no hart: what is said of each, and what it does to the bench.
use Rattle.std.specs.Prelude.{◌≡◌, Bool, true, false, List, ℕ, Option, Some, None, length, slice_set}
use Rattle.disk.specs.declared.device.ArmedFault.{ArmedFault}
use Rattle.susp.specs.Dozes.{can_wake, after_wake}
use Rattle.susp.specs.declared.buses.Doze.{Doze}
use Rattle.machine.specs.declared.line.MachineLine.TheVariants as shown
use Rattle.report_lines.specs.declared.printed.Printed.{Printed}
use Rattle.report_lines.specs.declared.printed.Printed.TheVariants as printed
use Rattle.report_lines.specs.declared.printed.Answer.{Answer}
use Rattle.bench_report.specs.Bench.{BenchLife, Bench}
use Rattle.bench_report.specs.Deeds.{Aside, SetSlot, ArmFault, CutPower, CallWake, WritePast}
use Rattle.bench_report.specs.Happens.{says, on_with, unpowered, armed_with, written_past, has_machine}
use Rattle.bench_report.specs.Armings.{fault_of}

-- it leaves the bench as it was; the slots boot these from now on; that fault is armed; power is cut; the board of that
-- life dozes so from now on; or the disk is written past the firmware
pub data Effect : Type 0 where
  Stays : Effect
  SetsPayloads : List (List ℕ) → Effect
  Arms : ArmedFault → Effect
  CutsPower : Effect
  SetsDoze : Option Doze → BenchLife → Effect
  WritesPast : Effect

abbrev pub affected : Effect → Bench → Bench
affected Stays b = b
affected (SetsPayloads payloads) b = record b { payloads = payloads }
affected (Arms fault) b = armed_with fault b
affected CutsPower b = unpowered b
affected (SetsDoze doze life) b = on_with (has_machine (record life.machine { doze = doze }) life) b
affected WritesPast b = written_past b

-- The wake-up device is called: a board that dozes and was not woken is woken, and of any other it is refused 18
-- (NotDozing).
abbrev pub wakes : Bool → BenchLife → Printed × Effect
wakes true life = (printed.Woken, SetsDoze (after_wake life.machine.doze) life)
wakes false life = (printed.WakeRefused 18, Stays)

-- by the board, where it is on, and by what the slots boot
abbrev pub aside : Aside → Option BenchLife → List (List ℕ) → Printed × Effect
aside (SetSlot slot bytes) None payloads =
    (printed.Shown (shown.Payload slot (length bytes)), SetsPayloads (slice_set payloads slot bytes))
aside (SetSlot slot bytes) (Some life) payloads = (printed.Shown shown.Busy, Stays)
aside (ArmFault arming) p payloads = (printed.Armed, Arms (fault_of arming))
aside CutPower p payloads = (printed.Cut, CutsPower)
aside CallWake None payloads = (printed.Off, Stays)
aside CallWake (Some life) payloads = wakes (can_wake life.machine.doze) life
aside WritePast None payloads = (printed.Poked, WritesPast)
aside WritePast (Some life) payloads = (printed.Busy, Stays)

abbrev pub AsideStep : Aside → Option BenchLife → Bench → Answer → Bench → Type 0
AsideStep act p b answer new =
    (answer ≡ says (aside act p b.payloads).0) × (new ≡ affected (aside act p b.payloads).1 b)
