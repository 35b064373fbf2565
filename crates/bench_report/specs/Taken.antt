-- Which of some commands in a row took effect on the disk. None does that the table of commands refuses.
-- Source: docs/DURABLE.md, "What an open finds".
use Rattle.std.specs.Prelude.{◌≡◌, ◌⊎◌, List, [], ◌∷◌, None}
use Rattle.board_model.specs.Durable.{DurableState, Change, refusal_of, after}

-- all of them
abbrev pub TakesAll : List Change → DurableState → DurableState → Type 0
TakesAll [] s t = t ≡ s
TakesAll (c ∷ cs) s t = (refusal_of s c ≡ None) × TakesAll cs (after s c) t

-- some first of them: none, all, or those up to one that is in doubt
abbrev pub TakesSome : List Change → DurableState → DurableState → Type 0
TakesSome [] s t = t ≡ s
TakesSome (c ∷ cs) s t = (t ≡ s) ⊎ ((refusal_of s c ≡ None) × TakesSome cs (after s c) t)

-- some first of them, but not all
abbrev pub TakesFewer : List Change → DurableState → DurableState → Type 0
TakesFewer [] s t = ⊥
TakesFewer (c ∷ cs) s t = (t ≡ s) ⊎ ((refusal_of s c ≡ None) × TakesFewer cs (after s c) t)
