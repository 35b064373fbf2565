-- What a line of a script has the bench do: the one table of the lines. By the deed a line may answer (Steps.antt), asks
-- something of the disk (Prefix.antt), is computed (Plain.antt), leaves the disk to the firmware (Reports.antt), and is run by
-- a bench of crates/bench_sweep. The laws have a case for a deed, and none for a line.
use Rattle.std.specs.Prelude.{ℕ, List, ⊤}
use Rattle.board_model.specs.declared.boot_mode.BootMode.{BootMode}
use Rattle.board_model.specs.declared.call_words.CallWords.{CallWords}
use Rattle.board_model.specs.declared.console_command.ConsoleCommand.{ConsoleCommand}
use Rattle.script_lang.specs.declared.armings.Arming.{Arming}
use Rattle.script_lang.specs.declared.line.Line.{Line}
use Rattle.script_lang.specs.declared.line.Line.TheVariants as lines
use Rattle.script_lang.specs.declared.looks.Look.{Look}

-- A question changes no state. It is of the memory and the harts of a board that is on, or of the disk of one that is off.
pub data Question : Type 0 where
  OfBoard : Look → Question
  OfDisk : Question

-- An aside asks nothing of the disk and of no hart: a slot boots these bytes from now on, a fault is armed, power is cut, the
-- wake-up device calls, or the disk is written past the firmware.
pub data Aside : Type 0 where
  SetSlot : ℕ → List ℕ → Aside
  ArmFault : Arming → Aside
  CutPower : Aside
  CallWake : Aside
  WritePast : Aside

-- Else the firmware is at work: on a format, a power-on, a command of the console, so many turns of a hart, or a call that is
-- made in its place.
pub data Deed : Type 0 where
  Format : Deed
  PowerOn : BootMode → Deed
  Issue : ConsoleCommand → Deed
  Turns : ℕ → ℕ → Deed
  Call : ℕ → CallWords → Deed
  Ask : Question → Deed
  Beside : Aside → Deed

abbrev pub deed_of : Line → Deed
deed_of (lines.Payload slot bytes) = Beside (SetSlot slot bytes)
deed_of lines.Format = Format
deed_of (lines.On mode) = PowerOn mode
deed_of (lines.Command c) = Issue c
deed_of (lines.Turn h n) = Turns h n
deed_of (lines.Call h asked) = Call h asked
deed_of (lines.Show look) = Ask (OfBoard look)
deed_of (lines.Arm arming) = Beside (ArmFault arming)
deed_of (lines.Cut fill) = Beside CutPower
deed_of (lines.Poke sector offset bytes) = Beside WritePast
deed_of lines.Inspect = Ask OfDisk
deed_of lines.Wake = Beside CallWake

-- it is no row of turns
abbrev pub IsNoRow : Deed → Type 0
IsNoRow (Turns h n) = ⊥
IsNoRow deed = ⊤

-- the disk is left to the firmware
abbrev pub IsByFirmwareAlone : Deed → Type 0
IsByFirmwareAlone (Beside WritePast) = ⊥
IsByFirmwareAlone deed = ⊤
