-- What a line asks, and that it leaves the disk to the firmware: its own row says what its deed does.
use Rattle.std.proofs.Common.{◌≡◌, refl}
use Rattle.script_lang.specs.declared.line.Line.{Line}
use Rattle.script_lang.specs.declared.line.Line.TheVariants as lines
use Rattle.bench_report.specs.{Deeds.{deed_of, IsByFirmwareAlone}, Prefix.{line_asks, asked_by}, Reports.IsByFirmware}

pub line_asks-asked_by : (line : Line) → line_asks line ≡ asked_by line
line_asks-asked_by (lines.Payload slot bytes) = refl
line_asks-asked_by line = refl

pub firmware_alone : (line : Line) → IsByFirmware line → IsByFirmwareAlone (deed_of line)
firmware_alone (lines.Poke sector offset bytes) by = by
firmware_alone line by = tt
