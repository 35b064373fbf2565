-- Which commands a disk keeps, and what an open finds.
-- Source: docs/DURABLE.md, "What an open finds".
use Rattle.std.specs.Prelude.{◌≡◌, ◌⊎◌, List, [], ◌∷◌, ◌++◌, Option, None, Some}
use Rattle.board_model.specs.Durable.{DurableState, Change, formatted, refusal_of, fold}

-- The commands acknowledged since the format, in order, and the one command
-- in doubt: it answered 6 after it reached the disk, or was under way when power failed.
pub record Kept : Type 0 where
  pub changes : List Change
  pub doubt : Option Change

abbrev pub nothing_kept : Kept
nothing_kept = record { changes = []; doubt = None }

-- The prefix law: what an open finds is the state after the commands that are kept.
abbrev pub found_of : List Change → DurableState
found_of changes = fold formatted changes

-- The list with the command in doubt at its end, which the table does not refuse there.
abbrev pub TakesIn : Option Change → List Change → List Change → Type 0
TakesIn None old changes = ⊥
TakesIn (Some c) old changes = (refusal_of (found_of old) c ≡ None) × (changes ≡ old ++ c ∷ [])

-- What the next open may keep: the list as it stands, or with the command in doubt.
abbrev pub MayKeep : Kept → List Change → Type 0
MayKeep kept changes = (changes ≡ kept.changes) ⊎ TakesIn kept.doubt kept.changes changes

-- The states that the next open may find.
abbrev pub MayFind : Kept → DurableState → Type 0
MayFind kept s = (changes : List Change) × MayKeep kept changes × (s ≡ found_of changes)
