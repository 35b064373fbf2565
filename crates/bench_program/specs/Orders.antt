-- Which scripts have several orders, and which of them can show that one differs. Source: docs/SCRIPT.md, "Schedules".
use Rattle.std.specs.Prelude.{◌==◌, Bool, true, false, List, [], ◌∷◌, Result, Ok, Err, if◌then◌else◌}
use Rattle.board_model.specs.declared.refusal.Refusal.{Refusal}
use Rattle.script_lang.specs.Scripts.{Script}
use Rattle.script_lang.specs.declared.line.Line.{Line}
use Rattle.script_lang.specs.declared.line.Line.TheVariants.{On, Turn, Call, Show, Inspect}

-- both are rows of turns, of two harts
abbrev pub are_of_two : Line → Line → Bool
are_of_two (Turn g m) (Turn h n) = if g == h then false else true
are_of_two a b = false

-- of a line and those after it: the next one is a row of another hart
abbrev pub meets_other : Line → List Line → Bool
meets_other a [] = false
meets_other a (b ∷ more) = are_of_two a b

-- a line whose answer tells what a board or a disk holds
abbrev pub tells_state : Line → Bool
tells_state (On mode) = true
tells_state (Call hart words) = true
tells_state (Show look) = true
tells_state Inspect = true
tells_state line = false

-- of the first line of which that holds, with those after it: what is said of these; false where there is none
abbrev pub at_first : (Line → List Line → Bool) → (List Line → Bool) → List Line → Bool
at_first holds says [] = false
at_first holds says (a ∷ more) = if holds a more then says more else at_first holds says more

-- a stretch of rows is of two harts, so the lines have several orders
abbrev pub has_orders : List Line → Bool
has_orders lines = at_first meets_other (λ more. true) lines

-- a line tells what a board or a disk holds
abbrev pub tells_any : List Line → Bool
tells_any lines = at_first (λ a more. tells_state a) (λ more. true) lines

-- one does after the first rows of two harts, so that the report of an order can differ
abbrev pub is_shown : List Line → Bool
is_shown lines = at_first meets_other tells_any lines

-- of a script that has no fault
abbrev pub shown_in : Result Script Refusal → Bool
shown_in (Ok said) = is_shown said.lines
shown_in (Err e) = true
