-- The exact text of the report lines that show a board's memory and harts. Source: docs/SCRIPT.md.
use Rattle.std.specs.Prelude.{ℕ, List, ◌++◌, take}
use Rattle.std.specs.Fmt.{decimal, signed_decimal}
use Rattle.std.specs.Int.{cast_signed, w64}
use Rattle.std.specs.List.{flat_map}
use Rattle.board_model.specs.Texts.{hex_text}
use Rattle.sbi_calls.specs.declared.words.Did.{Did}
use Rattle.sbi_calls.specs.declared.words.Did.TheVariants.{Idle, Entered, Woke, Resumed, Next, Suspended, Stopped, Dozing}
use Rattle.sbi.specs.declared.resets.ResetType.{ResetType}
use Rattle.sbi.specs.declared.resets.ResetType.TheVariants.{Shutdown, ColdReboot}
use Rattle.sbi.specs.declared.words.LifeEnd.{LifeEnd}
use Rattle.sbi.specs.declared.words.LifeEnd.TheVariants.{Asleep, Reset}
use Rattle.sbi.specs.declared.words.Word.{Word}
use Rattle.sbi.specs.declared.words.Word.TheVariants.{Goes, Over}
use Rattle.machine.specs.declared.line.MachineLine.{MachineLine}
use Rattle.machine.specs.declared.line.MachineLine.TheVariants as lines
use lib.Chars.{codes}

abbrev pub bytes_text : List ℕ → List ℕ
bytes_text bytes = flat_map (hex_text 2) bytes

-- what a hart did
abbrev pub did_text : Did → List ℕ
did_text Idle = codes "idle"
did_text Entered = codes "entered"
did_text Woke = codes "woke"
did_text Resumed = codes "resumed"
did_text Next = codes "next"
did_text Suspended = codes "suspended"
did_text Stopped = codes "stopped"
did_text Dozing = codes "dozing"

abbrev pub reset_text : ResetType → List ℕ
reset_text Shutdown = codes "shutdown"
reset_text ColdReboot = codes "reboot"

-- how the life ended
abbrev pub end_text : LifeEnd → List ℕ
end_text Asleep = codes "asleep"
end_text (Reset kind) = reset_text kind

abbrev pub word_text : Word → List ℕ
word_text (Goes did) = did_text did
word_text (Over end) = end_text end

abbrev pub machine_line_text : MachineLine → List ℕ
machine_line_text (lines.Turn h k word) =
    codes "turn " ++ decimal h ++ codes " " ++ decimal k ++ codes " " ++ word_text word
machine_line_text (lines.Answered h e v) =
    codes "call " ++ decimal h ++ codes " error " ++ signed_decimal (cast_signed w64 e) ++ codes " value 0x"
    ++ hex_text 16 v
machine_line_text (lines.Called h word) = codes "call " ++ decimal h ++ codes " " ++ word_text word
machine_line_text (lines.NotStarted h) = codes "call " ++ decimal h ++ codes " not started"
machine_line_text (lines.Reg h r v) =
    codes "reg " ++ decimal h ++ codes " " ++ decimal r ++ codes " 0x" ++ hex_text 16 v
machine_line_text (lines.Pc h v) = codes "pc " ++ decimal h ++ codes " 0x" ++ hex_text 16 v
machine_line_text (lines.Csr h c v) =
    codes "csr " ++ decimal h ++ codes " 0x" ++ hex_text 3 c ++ codes " 0x" ++ hex_text 16 v
machine_line_text (lines.Pending harts) = codes "pending 0x" ++ hex_text 2 harts
machine_line_text (lines.Mem bytes) = codes "mem " ++ bytes_text (take bytes.count bytes.bytes)
machine_line_text (lines.Payload slot count) = codes "payload " ++ decimal slot ++ codes " " ++ decimal count
machine_line_text lines.Busy = codes "busy"
machine_line_text lines.Off = codes "off"
