-- Texts of a session. Source: docs/SCRIPT.md for the board line; "Debugging with GDB", appendix "GDB Remote Serial Protocol",
-- "Thread List Format".
use Rattle.std.specs.Prelude.{◌≡◌, ℕ, ◌+◌, false, List, ◌++◌, Option, Some, None, length, map}
use Rattle.std.specs.Fmt.{decimal, digits}
use Rattle.std.specs.List.{flat_map, range_with_len}
use Rattle.board_model.specs.Shapes.{Size}
use Rattle.debug_session.specs.Texts.{state_text}
use Rattle.debug_session.specs.Turns.{lives_begun, turns_told}
use Rattle.script_lang.specs.Spellings.{board_text}
use Rattle.script_lang.specs.declared.line.Line.{Line}
use Rattle.debug_session.specs.Lives.{machine_of, pc_in}
use Rattle.bench_report.specs.declared.live.LiveBench.{LiveBench}
use Rattle.debug_session.specs.Replies.{pairs_of}
use lib.Chars.{codes}

-- the board line of a script, with its line feed
abbrev pub board_line : Size → List ℕ
board_line size = board_text size ++ codes "\n"

-- where a hart stands, by its pc; none is there where no board is on that has it
abbrev pub stands_text : ℕ → Option ℕ → List ℕ
stands_text h None = codes "hart " ++ (decimal h ++ codes " off\n")
stands_text h (Some pc) = codes "hart " ++ (decimal h ++ (codes " pc 0x" ++ (digits 16 false pc ++ codes "\n")))

abbrev pub hart_line : LiveBench → ℕ → List ℕ
hart_line b h = stands_text h (pc_in h (machine_of b))

-- `monitor harts`
abbrev pub hart_lines : ℕ → LiveBench → List ℕ
hart_lines harts b = flat_map (hart_line b) (range_with_len 0 harts)

-- `monitor when`: where a history stands, and the hart that is selected
abbrev pub when_text : ℕ → List Line → List ℕ
when_text h past =
    codes "life " ++ (decimal (lives_begun past) ++ (codes ", line " ++ (decimal (length past) ++ (codes ", turn "
    ++ (decimal (turns_told past) ++ (codes ", hart " ++ (decimal h ++ codes "\n")))))))

-- a hart as a thread, with its state
abbrev pub thread_line : LiveBench → ℕ → List ℕ
thread_line b h =
    codes "<thread id=\"" ++ (digits 16 false (h + 1) ++ (codes "\" core=\"" ++ (decimal h ++ (codes "\" name=\"hart "
    ++ (decimal h ++ (codes "\">" ++ (state_text h b ++ codes "</thread>\n")))))))

abbrev pub thread_lines : ℕ → LiveBench → List ℕ
thread_lines harts b = flat_map (thread_line b) (range_with_len 0 harts)

-- the threads, as an object of qXfer
abbrev pub threads_object : Size → LiveBench → List ℕ
threads_object size b =
    codes "<?xml version=\"1.0\"?>\n<threads>\n" ++ (thread_lines size.harts b ++ codes "</threads>\n")

-- the packet of a piece of text for the console
abbrev pub console_packet : List ℕ → List ℕ
console_packet piece = codes "O" ++ pairs_of piece

-- these packets hand a text to the console, piece by piece
abbrev pub HandOver : List ℕ → List (List ℕ) → Type 0
HandOver text packets =
    (pieces : List (List ℕ)) × (flat_map (λ piece. piece) pieces ≡ text) × (packets ≡ map console_packet pieces)
