-- What `vCont` asks of each thread. Source: "Debugging with GDB", appendix "GDB Remote Serial Protocol", "Packets", `vCont`.
use Rattle.std.specs.Prelude.{ℕ, Bool, true, false, List, [], ◌∷◌, Option, Some, None, ◌==◌, nat_lt, if◌then◌else◌, bytes_eq, ◌&&◌}
use Rattle.debug_session.specs.Fields.{number_of, parted_at, two_numbers}
use Rattle.debug_session.specs.declared.actions.ResumeAction.{ResumeAction}
use Rattle.debug_session.specs.declared.actions.ResumeAction.TheVariants.{Step, StepWithin, Go}
use lib.Chars.{codes}

-- r START,END
abbrev pub within : Option (ℕ × ℕ) → Option ResumeAction
within None = None
within (Some range) = Some (StepWithin range.0 range.1)

-- s, S and c, C: after a capital one stands a signal, which no hart takes
abbrev pub lettered : ℕ → List ℕ → Option ResumeAction
lettered letter rest =
    if letter == 115 then Some Step else
    (if letter == 83 then Some Step else
    (if letter == 99 then Some Go else
    (if letter == 67 then Some Go else
    (if letter == 114 then within (two_numbers rest) else None))))

abbrev pub action_of : List ℕ → Option ResumeAction
action_of [] = None
action_of (letter ∷ rest) = lettered letter rest

abbrev pub is_that : ℕ → Option ℕ → Bool
is_that thread None = false
is_that thread (Some n) = n == thread

-- a text names that thread, or all of them
abbrev pub names : ℕ → List ℕ → Bool
names thread text = if bytes_eq text (codes "-1") then true else is_that thread (number_of text)

-- what ACTION or ACTION:THREAD asks of a thread
abbrev pub in_parts : ℕ → List ℕ → Option (List ℕ × List ℕ) → Option ResumeAction
in_parts thread word None = action_of word
in_parts thread word (Some parts) = if names thread parts.1 then action_of parts.0 else None

abbrev pub asked_by : ℕ → List ℕ → Option ResumeAction
asked_by thread word = in_parts thread word (parted_at 58 word)

abbrev pub or_next : Option ResumeAction → Option ResumeAction → Option ResumeAction
or_next None next = next
or_next (Some action) next = Some action

-- what the words ask of a thread: the first that names it
abbrev pub first_asked : ℕ → List (List ℕ) → Option ResumeAction
first_asked thread [] = None
first_asked thread (word ∷ more) = or_next (asked_by thread word) (first_asked thread more)

-- whether the action of a word is known, and its thread, where it has one, can be one; and those of all words
abbrev pub some_action : Option ResumeAction → Bool
some_action None = false
some_action (Some action) = true

-- a text can name a thread, or all of them
abbrev pub is_positive : Option ℕ → Bool
is_positive None = false
is_positive (Some n) = nat_lt 0 n

abbrev pub is_thread : List ℕ → Bool
is_thread text = if bytes_eq text (codes "-1") then true else is_positive (number_of text)

abbrev pub known_in : List ℕ → Option (List ℕ × List ℕ) → Bool
known_in word None = some_action (action_of word)
known_in word (Some parts) = some_action (action_of parts.0) && is_thread parts.1

abbrev pub is_known : List ℕ → Bool
is_known word = known_in word (parted_at 58 word)

abbrev pub are_known : List (List ℕ) → Bool
are_known [] = true
are_known (word ∷ more) = is_known word && are_known more
