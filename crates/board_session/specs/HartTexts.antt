-- The line that tells how a hart ended. Source: docs/CONSOLE.md, "The harts"; SBI specification 2.0, chapter HSM.
use Rattle.std.specs.Prelude.{ℕ, Bool, true, false, List, [], ◌∷◌, ◌++◌, flat_map, Option, Some, None, is_some}
use Rattle.std.specs.Fmt.{decimal}
use Rattle.hsm.specs.declared.state.State.{State}
use Rattle.hsm.specs.declared.state.State.TheVariants as states
use Rattle.board_model.specs.Texts.{hex_text}
use Rattle.board_model.specs.declared.durable.Entry.{Entry}
use Rattle.hart_threads.specs.declared.ends.HartEnd.{HartEnd}
use Rattle.hart_threads.specs.declared.loops.Why.{Why}
use Rattle.hart_threads.specs.declared.loops.Why.TheVariants as whys
use lib.Chars.{codes}

abbrev pub state_text : State → List ℕ
state_text states.Started = codes "started"
state_text states.Stopped = codes "stopped"
state_text states.StartPending = codes "start_pending"
state_text states.Suspended = codes "suspended"

abbrev pub doze_text : Bool → List ℕ
doze_text false = []
doze_text true = codes " dozing"

-- by a command that ended the life, its own or another hart's, by the gate or the console, or with its turns
abbrev pub shut_text : Option (ℕ × Entry) → List ℕ
shut_text (Some over) = codes "life"
shut_text None = codes "quit"

abbrev pub reason_text : Why → Option (ℕ × Entry) → List ℕ
reason_text whys.Life over = codes "life"
reason_text whys.Closed over = shut_text over
reason_text whys.Gate over = codes "quit"
reason_text whys.Turns over = codes "turns"

abbrev pub value_text : ℕ → List ℕ
value_text v = codes "0x" ++ hex_text 16 v

-- which hart, its state, and whether its board dozes by it
abbrev pub place_text : ℕ → State → Bool → List ℕ
place_text number state dozing = codes "hart " ++ decimal number ++ codes " " ++ state_text state ++ doze_text dozing

-- where it stands, and what its last trap left
abbrev pub trap_text : ℕ → ℕ → ℕ → ℕ → List ℕ
trap_text pc scause sepc stval =
    codes "pc " ++ value_text pc ++ codes " scause " ++ value_text scause ++ codes " sepc " ++ value_text sepc
    ++ codes " stval " ++ value_text stval

-- how many turns it made, and why its loop ended
abbrev pub loop_text : ℕ → Why → Option (ℕ × Entry) → List ℕ
loop_text made why over = codes "turns " ++ decimal made ++ codes " ended " ++ reason_text why over

-- a line of these three, with its line feed
abbrev pub line_of : List ℕ → List ℕ → List ℕ → List ℕ
line_of place trap end = codes "sbiboard: " ++ (place ++ (codes " " ++ (trap ++ (codes " " ++ (end ++ 10 ∷ [])))))

-- a hart whose loop has ended, in a line
abbrev pub line_text : HartEnd → List ℕ
line_text e =
    line_of (place_text e.hart.id e.state (is_some e.doze)) (trap_text e.hart.pc e.hart.scause e.hart.sepc e.hart.stval)
    (loop_text e.made e.why e.over)

-- their lines, in order
abbrev pub lines_text : List HartEnd → List ℕ
lines_text ends = flat_map line_text ends
