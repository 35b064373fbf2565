-- The text of a history as a script, and what a hart is in words.
use Rattle.std.specs.Prelude.{ℕ, List, ◌++◌, [], Option, Some, None, length, ◌==◌, if◌then◌else◌}
use Rattle.std.specs.Fmt.{decimal}
use Rattle.std.specs.List.{flat_map}
use Rattle.board.specs.Boots.{payload_at}
use Rattle.board_model.specs.Shapes.{Size}
use Rattle.script_lang.specs.Lines.{text_of}
use Rattle.script_lang.specs.Spellings.{board_text}
use Rattle.script_lang.specs.declared.line.Line.{Line}
use Rattle.hsm.specs.declared.state.State.{State}
use Rattle.hsm.specs.declared.state.State.TheVariants as states
use Rattle.bench_report.specs.declared.live.LiveBench.{LiveBench}
use Rattle.debug_session.specs.Lives.{machine_of, state_in}
use lib.Chars.{codes}

-- a comment that names the payload with which a slot begins, which no line has room for; none where there is none
abbrev pub begin_text : ℕ → List ℕ → List ℕ
begin_text number bytes =
    if length bytes == 0 then [] else
    codes "\n# --p" ++ decimal number ++ codes ": a file of " ++ decimal (length bytes) ++ codes " bytes"

abbrev pub begins_text : List (List ℕ) → List ℕ
begins_text begins =
    begin_text 0 (payload_at begins 0) ++ begin_text 1 (payload_at begins 1) ++ begin_text 2 (payload_at begins 2)
    ++ begin_text 3 (payload_at begins 3)

-- each line, with a line feed before it
abbrev pub lines_text : List Line → List ℕ
lines_text past = flat_map (λ line. codes "\n" ++ text_of line) past

-- the board line, the comments, and the lines that were run
abbrev pub history_text : Size → List (List ℕ) → List Line → List ℕ
history_text size begins past = board_text size ++ begins_text begins ++ lines_text past

-- ---- the state of a hart, in the words of the SBI specification 2.0, chapter HSM
abbrev pub status_text : Option State → List ℕ
status_text None = codes "power off"
status_text (Some states.Started) = codes "STARTED"
status_text (Some states.Stopped) = codes "STOPPED"
status_text (Some states.StartPending) = codes "START_PENDING"
status_text (Some states.Suspended) = codes "SUSPENDED"

abbrev pub state_text : ℕ → LiveBench → List ℕ
state_text h bench = status_text (state_in h (machine_of bench))
