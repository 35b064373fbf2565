-- What a crash leaves at each moment of a life: what some first commands of its journal make of the state found, all among them that had
-- been acknowledged by then. Source: docs/STORE.md, "A life"; docs/THREADS.md, "Receipts".
use Rattle.std.specs.Prelude.{◌≡◌, ◌⊎◌, ℕ, ◌+◌, ◌≤◌, ◌<◌, List, [], ◌∷◌, ◌++◌, Option, None, Some, Result, Ok, Err, length, slice_index, take}
use Rattle.std.specs.Option.{option_to_list}
use Rattle.board_model.specs.Durable.{DurableState, Change, fold}
use Rattle.board_model.specs.Shapes.{Size}
use Rattle.board_model.specs.declared.durable.Entry.{Entry}
use Rattle.board_model.specs.declared.refusal.Refusal.{Refusal}
use Rattle.disk.specs.Facts.{Content, Facts}
use Rattle.store.specs.Standing.{StandsFor}

-- the commands of a life that may be kept: those of its journal, and then the one in doubt
abbrev pub sent : List Change → Option Change → List Change
sent journal doubt = journal ++ option_to_list doubt

-- the content stands for what the first k of the commands make of the state, where k is this number or more
abbrev pub IsOfFirst : Size → DurableState → List Change → ℕ → Content → Type 0
IsOfFirst size found cs least c = (k : ℕ) × (least ≤ k) × (k ≤ length cs) × StandsFor c size (fold found (take k cs))

-- each crash at that moment or a later one has left such a content
abbrev pub KeptSince : Size → DurableState → List Change → Facts → ℕ → ℕ → Type 0
KeptSince size found cs disk moment least = (c : Content) → disk.since moment c → ∥ IsOfFirst size found cs least c ∥₁

-- The moments of a life that began in the state found: the one at which its boot was over, which had issued so many commands, and then
-- that of each receipt. From each of them on a crash has left what some first commands make, with all that had been acknowledged by
-- then. Before that boot was over it had left what is said of it.
pub record AreKept (size : Size) (found : DurableState) (earlier : ℕ → Content → Type 0) (begun issued : ℕ) (journal : List Change) (doubt : Option Change) (disk : Facts)
    (moments : List ℕ) : Type 0 where
  pub first : (0 < length moments) × (begun ≤ slice_index moments 0)
  pub many : length moments + issued ≡ length journal + 1
  pub passed : (i : ℕ) → i < length moments → slice_index moments i ≤ disk.moment
  pub ever : (t : ℕ) (c : Content) → t ≤ begun → disk.since t c → ∥ earlier t c ⊎ IsOfFirst size found (sent journal doubt) issued c ∥₁
  pub kept : (i : ℕ) → i < length moments → KeptSince size found (sent journal doubt) disk (slice_index moments i) (issued + i)

-- the moments once a command was answered at that moment
abbrev pub moments_after : Result ℕ Refusal → ℕ → List ℕ → List ℕ
moments_after (Ok n) moment moments = moments ++ moment ∷ []
moments_after (Err e) moment moments = moments

-- the same of a call that may have been told a receipt
abbrev pub moments_told : Option (ℕ × Entry) → ℕ → List ℕ → List ℕ
moments_told None moment moments = moments
moments_told (Some t) moment moments = moments ++ moment ∷ []
