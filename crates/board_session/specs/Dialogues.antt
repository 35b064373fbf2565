-- The console's work: lines that are taken from an input, each obeyed and answered.
-- Source: docs/CONSOLE.md, "The console".
use Rattle.std.specs.Prelude.{◌≡◌, ◌⊎◌, ◌++◌, ℕ, zero, suc, Bool, true, false, List, [], ◌∷◌, Option, Some, None}
use Rattle.std.specs.Io.Buffered.{writer_buffer, writer_contents}
use Rattle.std.specs.Io.KnownBytes.{Appends}
use Rattle.std.specs.declared.io.buffered.BufWriter.{BufWriter}
use Rattle.board_model.specs.Durable.{Change, DurableState}
use Rattle.board_session.specs.declared.lines.LineEnd.{LineEnd}
use Rattle.board_session.specs.declared.lines.LineEnd.TheVariants as line_ends
use Rattle.board_session.specs.declared.words.Said.{Said}
use Rattle.board_session.specs.declared.words.Said.TheVariants as saids
use Rattle.board_session.specs.declared.reply.Reply.{Reply}
use Rattle.board_session.specs.declared.talks.Left.{Left}
use Rattle.board_session.specs.declared.talks.Left.TheVariants as lefts
use Rattle.board_session.specs.Commands.{Party, IsAnswerTo}
use Rattle.board_session.specs.Lines.{TakesLine, is_line, line_meaning}
use Rattle.board_session.specs.Texts.{reply_text}

-- what a writer was given, where that is known, and which bytes of it are not written yet
pub record Written : Type 0 where
  pub known : Option (List ℕ)
  pub held : List ℕ

abbrev pub output_of : {W A : Type 0} → (W → Option (List ℕ)) → BufWriter W A → Written
output_of contents w = record { known = writer_contents contents w; held = writer_buffer w }

-- so many bytes more are written, and none is held back
abbrev pub Shows : Written → Written → List ℕ → Type 0
Shows a b bytes = Appends a.known b.known bytes × (b.held ≡ [])

-- an input and an output, by what is left of the one, where that is known, and what was given to the other; and what the console was
-- told
pub record DialogueEnds : Type 0 where
  pub input : Option (List ℕ)
  pub output : Written
  pub party : Party

abbrev pub dialogue_ends : Option (List ℕ) → Written → Party → DialogueEnds
dialogue_ends i o p = record { input = i; output = o; party = p }

-- ---- when the console leaves
-- where no line came: the input has ended, or failed
abbrev pub left_without : LineEnd → Option Left
left_without line_ends.Feed = None
left_without line_ends.EndOfInput = Some lefts.EndOfInput
left_without line_ends.Failure = Some lefts.InputFailed

-- what was kept is a line, or none came
abbrev pub left_before_if : Bool → LineEnd → Option Left
left_before_if true ended = None
left_before_if false ended = left_without ended

abbrev pub left_before : LineEnd → List ℕ → Option Left
left_before ended kept = left_before_if (is_line ended kept) ended

-- where the input failed in a line, that was the last one
abbrev pub left_behind : LineEnd → Option Left
left_behind line_ends.Feed = None
left_behind line_ends.EndOfInput = None
left_behind line_ends.Failure = Some lefts.InputFailed

-- once a line was answered: it said so, or the input had failed in it
abbrev pub left_after : LineEnd → Said → Option Left
left_after ended (saids.Command command) = left_behind ended
left_after ended saids.State = left_behind ended
left_after ended saids.Wake = left_behind ended
left_after ended saids.Quit = Some lefts.Quit
left_after ended saids.Other = left_behind ended

-- ---- lines and answers, in a life that began in that state and of which the boot issued those commands
-- a line is taken, ended so, and has an answer
abbrev pub Obeyed : DurableState → List Change → LineEnd → Said → Reply → DialogueEnds → DialogueEnds → Type 0
Obeyed found issued ended said answer a b =
    (kept : List ℕ) × TakesLine a.input b.input kept ended × (is_line ended kept ≡ true)
    × (said ≡ line_meaning kept) × IsAnswerTo found issued said answer a.party b.party

-- and the answer is written as a line, of which no byte is held back
abbrev pub Exchanged : DurableState → List Change → LineEnd → Said → DialogueEnds → DialogueEnds → Type 0
Exchanged found issued ended said a b =
    (answer : Reply) × Obeyed found issued ended said answer a b
    × Shows a.output b.output (reply_text answer ++ 10 ∷ [])

-- so many lines, none of which says `quit`, and in none of which the input failed
abbrev pub TalksOn : DurableState → List Change → ℕ → DialogueEnds → DialogueEnds → Type 0
TalksOn found issued zero a b = b ≡ a
TalksOn found issued (suc n) a b =
    (mid : DialogueEnds) × (ended : LineEnd) × (said : Said) × TalksOn found issued n a mid
    × Exchanged found issued ended said mid b × (left_after ended said ≡ None)

-- no line came, and the input ended or failed
abbrev pub HasNone : LineEnd → DialogueEnds → DialogueEnds → Type 0
HasNone ended a b = TakesLine a.input b.input [] ended × (b.output ≡ a.output) × (b.party ≡ a.party)

-- how the console left: no line was left, where the input ended or failed; the last line was answered, and said `quit`,
-- or the input failed in it; or the answer to the last line could not be written
abbrev pub Leaves : DurableState → List Change → Left → DialogueEnds → DialogueEnds → Type 0
Leaves found issued lefts.Quit a b =
    (ended : LineEnd) × (said : Said) × Exchanged found issued ended said a b × (left_after ended said ≡ Some lefts.Quit)
Leaves found issued lefts.EndOfInput a b = HasNone line_ends.EndOfInput a b
Leaves found issued lefts.InputFailed a b =
    HasNone line_ends.Failure a b
    ⊎ ((ended : LineEnd) × (said : Said) × Exchanged found issued ended said a b
    × (left_after ended said ≡ Some lefts.InputFailed))
Leaves found issued lefts.Unwritten a b =
    (ended : LineEnd) × (said : Said) × (answer : Reply) × Obeyed found issued ended said answer a b

-- Lines and their answers, and then why the console left. What it was told is what it answered.
abbrev pub Talks : DurableState → List Change → Left → DialogueEnds → DialogueEnds → Type 0
Talks found issued left a b =
    (n : ℕ) × (mid : DialogueEnds) × TalksOn found issued n a mid × Leaves found issued left mid b
