-- Where a history stands: how many turns and lives it has.
use Rattle.std.specs.Prelude.{◌≡◌, ◌≤◌, ℕ, Bool, true, false, List, count_by, min}
use Rattle.std.specs.List.{sum_by}
use Rattle.script_lang.specs.declared.line.Line.{Line}
use Rattle.script_lang.specs.declared.line.Line.TheVariants as lines
use Rattle.debug_session.specs.Ats.{IsBefore}
use Rattle.debug_session.specs.declared.timeline.Timeline.{Timeline}

-- how many turns a line makes
abbrev pub turns_of : Line → ℕ
turns_of (lines.Turn h n) = n
turns_of line = 0

-- how many turns of any harts a history has
abbrev pub turns_made : List Line → ℕ
turns_made past = sum_by turns_of past

-- how many turns it has, as 64 bits hold it
abbrev pub turns_told : List Line → ℕ
turns_told past = min (turns_made past) 18446744073709551615

-- a line switches the power on
abbrev pub begins_life : Line → Bool
begins_life (lines.On mode) = true
begins_life line = false

-- how many lines do
abbrev pub lives_begun : List Line → ℕ
lives_begun past = count_by begins_life past

-- The history ends before the turn that came after n others; it and whatever came after are forgotten, and nothing else. Nothing
-- changes where there is no such turn.
abbrev pub WentTo : ℕ → Bool → Timeline → Timeline → Type 0
WentTo n true old new = (h : ℕ) × IsBefore h old.history new.history × (turns_made new.history ≡ n)
WentTo n false old new = (turns_made old.history ≤ n) × (new ≡ old)
