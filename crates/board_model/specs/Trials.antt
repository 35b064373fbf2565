-- A slot on trial, over whole lists of commands. Source: docs/DURABLE.md, "Laws".
use Rattle.std.specs.Prelude.{ℕ, suc, Bool, true, false, ⊤, List, [], ◌∷◌, if◌then◌else◌}
use Rattle.board_model.specs.Durable.{Change, TrialStep, DecidesTrial, CountsBoot, SparesTrial, trial_step}

abbrev pub counts_boot : TrialStep → Bool
counts_boot DecidesTrial = false
counts_boot CountsBoot = true
counts_boot SparesTrial = false

-- whether the command is a boot of the slot on trial
abbrev pub is_boot : Change → Bool
is_boot c = counts_boot (trial_step c)

abbrev pub DecidesNone : TrialStep → Type 0
DecidesNone DecidesTrial = ⊥
DecidesNone CountsBoot = ⊤
DecidesNone SparesTrial = ⊤

-- the command does not decide on a trial: it neither finds the slot good nor sets another
abbrev pub IsUndecided : Change → Type 0
IsUndecided c = DecidesNone (trial_step c)

-- how often the slot was booted
abbrev pub boots_in : List Change → ℕ
boots_in [] = 0
boots_in (c ∷ cs) = if is_boot c then suc (boots_in cs) else boots_in cs
