-- What a session makes of its disk, its input and its output, whatever it was refused. Source: docs/CONSOLE.md, "Statuses
-- and faults".
use Rattle.std.specs.Prelude.{◌≡◌, ◌⊎◌, ℕ, List, [], Option, Result, Ok, Err}
use Rattle.board_model.specs.declared.refusal.Refusal.{Refusal}
use Rattle.board_session.specs.Commands.{party}
use Rattle.board_session.specs.Dialogues.{Written, dialogue_ends}
use Rattle.board_session.specs.declared.talks.Left.{Left}
use Rattle.board_session.specs.declared.given.Options.{Options}
use Rattle.board_session.specs.Sessions.{RanOver, RefusesSession, outcome_of}
use Rattle.command_line.specs.declared.fault.ProgramFault.{ProgramFault}
use Rattle.command_line.specs.declared.fault.ProgramFault.TheVariants.{Refused}
use Rattle.disk.specs.Facts.{Facts}
use Rattle.hart_threads.specs.declared.ends.HartEnd.{HartEnd}
use Rattle.hart_threads.specs.Heard.{Hearing, heard_nothing}

-- it ran over the disk that was given, until its console left so
abbrev pub RanUntil : Options → List (List ℕ) → Facts → Facts → List ℕ → Option (List ℕ) → Written → Written → Option Left → Type 0
RanUntil o payloads old now moments input out written left =
    (rest : Option (List ℕ)) × (heard : Hearing) × (ends : List HartEnd)
    × RanOver o.new o.shape o.mode payloads o.turns old now moments left (dialogue_ends input out (party [] heard_nothing)) rest written heard ends

-- It was refused by its disk, before any line was answered; or it ran. From one disk to the other, with an input and an output
-- of which this is known; and these are the moments at which its boot was over and its receipts were made.
abbrev pub HasRun : Options → List (List ℕ) → Facts → Facts → List ℕ → Option (List ℕ) → Written → Written → Result (Unit {0}) Refusal → Type 0
HasRun o payloads old now moments input out written ran =
    (RefusesSession o.new o.shape o.mode payloads old ran now × (written ≡ out))
    ⊎ ((left : Option Left) × RanUntil o payloads old now moments input out written left × (ran ≡ outcome_of left))

-- the fault of a program for it
abbrev pub told_of : Result (Unit {0}) Refusal → Result (Unit {0}) ProgramFault
told_of (Ok done) = Ok done
told_of (Err e) = Err (Refused e)
