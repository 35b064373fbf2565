-- Numbers, a digit at a time.
use Rattle.std.proofs.Common.{◌≡◌, ◌∙◌, ℕ, ◌<◌, suc, List, [], ◌∷◌, Some, None, drop, length, get_or, refl, ap, drop-cons}
use Rattle.debug_session.specs.{Packets.value_of, Fields.{with_digits, shifted}}

-- what is no number is none with more digits
pub nothing_after : (word : List ℕ) → with_digits None word ≡ None
nothing_after [] = refl
nothing_after (c ∷ more) = nothing_after more

-- a digit that makes no number leaves none
pub stopped_at : (n i : ℕ) (word : List ℕ) → i < length word → shifted n (value_of (get_or word i 0)) ≡ None → with_digits (Some n) (drop i word) ≡ None
stopped_at n i word l e = rw (drop-cons word i 0 l) (ap (λ x. with_digits x (drop (suc i) word)) e ∙ nothing_after (drop (suc i) word))
