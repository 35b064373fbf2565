-- What a line does and tells that is run as far as no armed cut strikes.
use Rattle.std.specs.Prelude.{⊤, Option, Ok}
use Rattle.board_model.specs.declared.durable.Durable.{Durable}
use Rattle.report_lines.specs.declared.printed.Answer.{Answer}
use Rattle.report_lines.specs.declared.printed.Printed.{Printed}
use Rattle.script_lang.specs.declared.line.Line.{Line}
use Rattle.script_lang.specs.declared.line.Line.TheVariants as lines
use Rattle.bench_report.specs.declared.power.Power.{Power}
use Rattle.bench_report.specs.Agree.{ArmsIts, CutsIts, HadEnough, InspectsIts, PokesIts}
use Rattle.bench_report.specs.Bench.{Bench}
use Rattle.bench_report.specs.Happens.{SaysEnough}
use Rattle.bench_report.specs.PowerOns.{TellsNow}
use Rattle.bench_report.specs.Prefix.{AskedLine, Boot, asked_by}

-- where the line powers a board on, that is the state which the power-on left
abbrev pub TellsAsked : AskedLine → Answer → Option Durable → Bench → Type 0
TellsAsked (Boot mode) a now new = TellsNow a.found now new
TellsAsked asked a now new = ⊤

abbrev pub TellsIts : Line → Answer → Option Durable → Bench → Type 0
TellsIts line a now new = TellsAsked (asked_by line) a now new

-- what a line arms, cuts and pokes, and what it says of the disk's content: of the power before it and the power after it
abbrev pub LineLeft : Line → Answer → Power → Power → Type 0
LineLeft line answer before left =
    ArmsIts line left × CutsIts line before left × PokesIts line before (Ok answer) left × InspectsIts line before (Ok answer)

-- a line but a power-on, a command of the console and a row of turns, each of which a function of its own runs
abbrev pub IsOtherLine : Line → Type 0
IsOtherLine (lines.On mode) = ⊥
IsOtherLine (lines.Command c) = ⊥
IsOtherLine (lines.Turn h n) = ⊥
IsOtherLine line = ⊤

-- a line that keeps bytes, for which there may be no memory
abbrev pub KeepsBytes : Line → Type 0
KeepsBytes (lines.Payload slot bytes) = ⊤
KeepsBytes (lines.Poke sector offset bytes) = ⊤
KeepsBytes line = ⊥

-- memory was refused to none: by what a line says, and by the board that it leaves
abbrev pub HasEnough : Power → Printed → Type 0
HasEnough power said = HadEnough power × SaysEnough said
