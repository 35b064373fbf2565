-- What a crash may leave at the moments of a power-on.
-- Source: docs/BOARD.md, "Power on"; docs/STORE.md, "What a crash leaves".
use Rattle.std.specs.Prelude.{◌≡◌, ◌⊎◌, ◌-◌, List, [], ◌∷◌, Option, None, Some}
use Rattle.disk.specs.Facts.{Content, Facts}
use Rattle.board_model.specs.Durable.{DurableState, Change, Consume, Discard, Attempt, after}
use Rattle.board_model.specs.Shapes.{Size}
use Rattle.board_model.specs.declared.boot_mode.BootMode.{BootMode}
use Rattle.board_model.specs.declared.durable.Trial.{Trial}
use Rattle.board_model.specs.declared.boot_mode.BootMode.TheVariants as modes
use Rattle.board_model.specs.declared.refusal.Refusal.{Refusal}
use Rattle.board_model.specs.declared.refusal.Refusal.TheVariants.{Device, Down}
use Rattle.store.specs.Leaves.{LeftAsBefore}
use Rattle.store.specs.Standing.{selected, live_sector, other_sector, version_at, StandsFor}

-- the command by which a boot is counted, where a trial stands
abbrev pub attempts_of : Option Trial → List Change
attempts_of None = []
attempts_of (Some trial) = Attempt ∷ []

-- The commands that a boot by the mode issues where the open found that state, the first of them first. A
-- resume is no boot of a slot, and counts none.
abbrev pub commands_by : BootMode → DurableState → List Change
commands_by modes.Fresh s = attempts_of s.trial
commands_by modes.Keep s = attempts_of s.trial
commands_by modes.Discard s = Discard ∷ attempts_of s.trial
commands_by modes.Resume s = Consume ∷ []

-- of these commands, the ones that may have gone to the disk before a boot was refused
abbrev pub gone_before : Refusal → List Change → List Change
gone_before Device cs = cs
gone_before Down cs = cs
gone_before e cs = []

-- some first of these commands, none or all of them too, make t of s
abbrev pub IsAlong : List Change → DurableState → DurableState → Type 0
IsAlong [] s t = t ≡ s
IsAlong (c ∷ cs) s t = (t ≡ s) ⊎ IsAlong cs (after s c) t

-- What a crash may leave from the start of a power-on, or from an open on: what a crash just before it could
-- have left, or its state in a record of version 2; or where these commands may have gone to the disk, what
-- some first of them make of the state found.
abbrev pub MayLeave : Facts → Size → DurableState → List Change → Content → Type 0
MayLeave disk size s [] c = LeftAsBefore disk c
MayLeave disk size s (change ∷ more) c =
    LeftAsBefore disk c ⊎ ((t : DurableState) × IsAlong (change ∷ more) s t × StandsFor c size t)

-- of what a crash just before could have left, or of its state in a record of version 2, that step makes it
abbrev pub LeavesFrom : Facts → (Content → Content → Type 0) → Content → Type 0
LeavesFrom disk step c = (b : Content) × LeftAsBefore disk b × step b c

-- A content as a command makes it of an old one: its gate selects the other record, which is of version 2, and
-- in the sector of the one that is not selected stands what was selected before.
abbrev pub IsWrittenOver : Content → Content → Type 0
IsWrittenOver old new =
    (selected new ≡ 1 - selected old) × (version_at (live_sector new) ≡ 2) × (other_sector new ≡ live_sector old)

-- The content stands for the state, and these commands make the new one of it, each in turn of what stands for
-- the state before it; without any it is the same.
abbrev pub AreWritten : Size → DurableState → List Change → Content → Content → Type 0
AreWritten size s [] old new = StandsFor old size s × (new ≡ old)
AreWritten size s (c ∷ cs) old new =
    StandsFor old size s × ((mid : Content) × IsWrittenOver old mid × AreWritten size (after s c) cs mid new)
