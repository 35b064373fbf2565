-- What each command does to the image and to a trial: proofs above split on these, and not on the commands.
use Rattle.std.{proofs.Common.{◌≡◌, ◌∙◌, ℕ, ◌+◌, List, length, Option, Some, None, refl, sym, ap, subst, arith}, specs.Prelude.IfSome}
use Rattle.board_model.specs.Durable.{DurableState, Image, Change, Suspend, Consume, Discard, Attempt, after, image_step, DropsImage, LeavesImage, trial_step, DecidesTrial, CountsBoot, SparesTrial, TrialStep, IsWhole, CarriesWhole}
use Rattle.board_model.specs.{Shapes.{Size, ram_bytes_of}, Views.{change_of, change_in, entry_of}, declared.durable.Command.Command}
use Rattle.board_model.{specs.declared.durable.Entry.Entry, proofs.Attempts.{attempt_next, attempt_apart}}
use Rattle.board_model.specs.declared.durable.Command.TheVariants as commands
use Rattle.board_model.specs.declared.durable.Entry.TheVariants as entries

-- a command that leaves the image does the same whatever image stands, and takes no serial
pub record Leaves (c : Change) : Type 0 where
  pub step : image_step c ≡ LeavesImage
  pub apart : (s : DurableState) (x : Option Image) → after (record s { image = x }) c ≡ record (after s c) { image = x }
  pub next : (s : DurableState) → (after s c).next ≡ s.next

-- a command, by what it does to the image
pub data ByImage : Change → Type 0 where
  Made : (hart address opaque : ℕ) (memory : List ℕ) → ByImage (Suspend hart address opaque memory)
  Dropped : {c : Change} → image_step c ≡ DropsImage → ((s : DurableState) → after s c ≡ record s { image = None }) → ByImage c
  Left : {c : Change} → Leaves c → ByImage c

pub by_image : (c : Change) → ByImage c
by_image (Suspend hart address opaque memory) = Made hart address opaque memory
by_image Consume = Dropped refl (λ s. refl)
by_image Discard = Dropped refl (λ s. refl)
by_image Attempt = Left (record { step = refl; apart = λ s x. attempt_apart s x s.trial; next = λ s. attempt_next s s.trial })
by_image c = Left (record { step = refl; apart = λ s x. refl; next = λ s. refl })

pub left_image : (c : Change) → Leaves c → (s : DurableState) → (after s c).image ≡ s.image
left_image c leaves s = ap (λ (x : DurableState). x.image) (leaves.apart s s.image)

-- what holds of serials and images holds after a command, where it holds in each of the three ways
pub image_after : (P : ℕ → Option Image → Type 0) (s : DurableState) (c : Change) → ByImage c
    → ((i : Image) → i.serial ≡ s.next → P (s.next + 1) (Some i)) → P s.next None → P s.next s.image
    → P (after s c).next (after s c).image
image_after P s c (Made hart address opaque memory) made dropped left = made _ refl
image_after P s c (Dropped step drops) made dropped left = subst (λ (x : DurableState). P x.next x.image) (sym (drops s)) dropped
image_after P s c (Left leaves) made dropped left =
    subst (P (after s c).next) (sym (left_image c leaves s)) (subst (λ (n : ℕ). P n s.image) (sym (leaves.next s)) left)

-- where each suspension carries the memory of its board, so does the image that stands
whole_by : (size : Size) (s : DurableState) (c : Change) → ByImage c → IsWhole size s → CarriesWhole size c → IsWhole size (after s c)
whole_by size s c (Made hart address opaque memory) whole carries = carries
whole_by size s c (Dropped step drops) whole carries = subst (IsWhole size) (sym (drops s)) tt
whole_by size s c (Left leaves) whole carries = subst (λ (i : Option Image). IfSome i (λ i. length i.memory ≡ ram_bytes_of size)) (sym (left_image c leaves s)) whole

pub whole_after : (size : Size) (s : DurableState) (c : Change) → IsWhole size s → CarriesWhole size c → IsWhole size (after s c)
whole_after size s c whole carries = whole_by size s c (by_image c) whole carries

-- a command that spares the trial
spared : (c : Change) → trial_step c ≡ SparesTrial → (s : DurableState) → ((after s c).slot ≡ s.slot) × ((after s c).trial ≡ s.trial)
spared Attempt is s = cc
spared c is s = grind arith

-- a command, by what it does to the trial
pub data ByTrial : Change → Type 0 where
  Decides : {c : Change} → trial_step c ≡ DecidesTrial → ByTrial c
  Counts : ByTrial Attempt
  Spares : {c : Change} → trial_step c ≡ SparesTrial → ((s : DurableState) → ((after s c).slot ≡ s.slot) × ((after s c).trial ≡ s.trial)) → ByTrial c

counts : (c : Change) → trial_step c ≡ CountsBoot → ByTrial c
counts Attempt is = Counts
counts c is = cc

pub by_trial : (c : Change) → ByTrial c
by_trial c = by_step (trial_step c) refl
  where
    by_step : (k : TrialStep) → trial_step c ≡ k → ByTrial c
    by_step DecidesTrial is = Decides is
    by_step CountsBoot is = counts c is
    by_step SparesTrial is = Spares is (spared c is)

-- the entry of a command is that command
pub entry_of_command : (c : Command) → entry_of (change_of c) ≡ entries.Command c
entry_of_command (commands.Slot n) = refl
entry_of_command c = refl

pub entry_of_change : (e : Entry) (memory : List ℕ) → entry_of (change_in e memory) ≡ e
entry_of_change (entries.Command c) memory = entry_of_command c
entry_of_change (entries.Suspend hart address opaque) memory = refl

-- a command that carries no memory makes no image
made_by_none : (c : Command) (hart address opaque : ℕ) (memory : List ℕ) → change_of c ≡ Suspend hart address opaque memory → ⊥
made_by_none c hart address opaque memory is =
    let same : entries.Command c ≡ entries.Suspend hart address opaque = sym (entry_of_command c) ∙ ap entry_of is in
    cc

pub data ByCommand : Command → Type 0 where
  Drops : {c : Command} → image_step (change_of c) ≡ DropsImage → ((s : DurableState) → after s (change_of c) ≡ record s { image = None }) → ByCommand c
  Keeps : {c : Command} → Leaves (change_of c) → ByCommand c

of_change : (c : Command) (d : Change) → change_of c ≡ d → ByImage d → ByCommand c
of_change c d is (Made hart address opaque memory) = absurd (made_by_none c hart address opaque memory is)
of_change c d is (Dropped step drops) = Drops (ap image_step is ∙ step) (λ s. ap (after s) is ∙ drops s)
of_change c d is (Left leaves) = Keeps (subst Leaves (sym is) leaves)

pub by_command : (c : Command) → ByCommand c
by_command c = of_change c (change_of c) refl (by_image (change_of c))
