-- What an attempt leaves.
use Rattle.std.{proofs.Common.{◌≡◌, ℕ, ◌≤◌, zero, suc, Option, None, Some, refl, ap, arith}, specs.Prelude.IfSome}
use Rattle.board_model.specs.{Durable.{DurableState, Image, HasValidNumbers, attempted, booted_by}, declared.durable.Trial.Trial}

booted_next : (s : DurableState) (f l : ℕ) → (booted_by s f l).next ≡ s.next
booted_next s f zero = refl
booted_next s f (suc l) = refl

pub attempt_next : (s : DurableState) (t : Option Trial) → (attempted s t).next ≡ s.next
attempt_next s None = refl
attempt_next s (Some t) = booted_next s t.fallback t.left

-- it asks nothing of the image
booted_apart : (s : DurableState) (x : Option Image) (f l : ℕ) → booted_by (record s { image = x }) f l ≡ record (booted_by s f l) { image = x }
booted_apart s x f zero = refl
booted_apart s x f (suc l) = refl

pub attempt_apart : (s : DurableState) (x : Option Image) (t : Option Trial) → attempted (record s { image = x }) t ≡ record (attempted s t) { image = x }
attempt_apart s x None = refl
attempt_apart s x (Some t) = booted_apart s x t.fallback t.left

pub attempt_image : (s : DurableState) (t : Option Trial) → (attempted s t).image ≡ s.image
attempt_image s t = ap (λ (x : DurableState). x.image) (attempt_apart s s.image t)

-- and where it falls back, to a slot
booted_valid : (s : DurableState) (f l : ℕ) → s.slot ≤ 3 → f ≤ 3 → l ≤ 7 → HasValidNumbers (booted_by s f l)
booted_valid s f zero slot fallback left = (fallback, tt)
booted_valid s f (suc l) slot fallback left = (slot, (fallback, omega arith))

pub attempt_valid : (s : DurableState) (t : Option Trial) → s.slot ≤ 3 → s.trial ≡ t → IfSome t (λ t. (t.fallback ≤ 3) × (t.left ≤ 7)) → HasValidNumbers (attempted s t)
attempt_valid s None slot none valid = (slot, rw none tt)
attempt_valid s (Some t) slot is valid = booted_valid s t.fallback t.left slot valid.0 valid.1
