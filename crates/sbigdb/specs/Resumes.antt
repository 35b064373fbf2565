-- What the words of a `vCont` ask of the harts of a board. The thread of a hart is one more than its number.
use Rattle.std.specs.Prelude.{◌≡◌, ℕ, ◌+◌, ◌<◌, Bool, true, false, List, [], ◌∷◌, Option, Some, None, ◌==◌}
use Rattle.std.specs.List.{slice_split}
use Rattle.board_model.specs.Shapes.{Size}
use Rattle.sbigdb.specs.declared.asked.VCont.{VCont}
use Rattle.sbigdb.specs.declared.asked.VCont.TheVariants as asked
use Rattle.debug_session.specs.Actions.{are_known, first_asked}
use Rattle.debug_session.specs.declared.actions.ResumeAction.{ResumeAction}
use Rattle.debug_session.specs.declared.actions.ResumeAction.TheVariants.{Step, StepWithin, Go}

abbrev pub goes : Option ResumeAction → Bool
goes None = false
goes (Some Step) = false
goes (Some (StepWithin first end)) = false
goes (Some Go) = true

-- a hart is to go on
abbrev pub is_going : ℕ → List (List ℕ) → Bool
is_going h words = goes (first_asked (h + 1) words)

-- which harts are to go on, of all eight that a board may have
abbrev pub goers_by : List (List ℕ) → List Bool
goers_by words =
    is_going 0 words ∷ is_going 1 words ∷ is_going 2 words ∷ is_going 3 words ∷ is_going 4 words ∷ is_going 5 words
    ∷ is_going 6 words ∷ is_going 7 words ∷ []

abbrev pub steps : Option ResumeAction → Bool
steps None = false
steps (Some Step) = true
steps (Some (StepWithin first end)) = true
steps (Some Go) = false

-- none of the first n harts is to step
abbrev pub NoneSteps : ℕ → List (List ℕ) → Type 0
NoneSteps n words = (h : ℕ) → h < n → steps (first_asked (h + 1) words) ≡ false

-- The words ask it of a board of that size: a hart of the board that is to step steps, or where none is those go on that are to.
abbrev pub IsAskedIn : Size → List (List ℕ) → VCont → Type 0
IsAskedIn size words asked.Nothing = are_known words ≡ false
IsAskedIn size words (asked.Step h) = (h < size.harts) × (first_asked (h + 1) words ≡ Some Step)
IsAskedIn size words (asked.StepWithin h first end) = (h < size.harts) × (first_asked (h + 1) words ≡ Some (StepWithin first end))
IsAskedIn size words (asked.Go harts) = NoneSteps size.harts words × (harts ≡ goers_by words)

-- the words are those of a packet, between semicolons
abbrev pub IsAskedBy : Size → Option (List ℕ) → VCont → Type 0
IsAskedBy size None what = what ≡ asked.Nothing
IsAskedBy size (Some actions) what = IsAskedIn size (slice_split (λ b. b == 59) actions) what
