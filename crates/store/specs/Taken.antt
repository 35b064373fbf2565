-- Which commands in a row the table of commands takes.
-- Source: docs/DURABLE.md, "Commands".
use Rattle.std.specs.Prelude.{◌&&◌, Bool, true, List, [], ◌∷◌, is_none}
use Rattle.board_model.specs.Durable.{DurableState, Change, refusal_of, after}

-- it refuses none of them, each in the state that those before it made
abbrev pub are_taken : DurableState → List Change → Bool
are_taken s [] = true
are_taken s (c ∷ cs) = is_none (refusal_of s c) && are_taken (after s c) cs
