-- The slots of a window: none has a row yet, or some have what was made for them.
use Rattle.std.proofs.Common.{◌≡◌, ◌∙◌, ◌+◌, ◌<◌, ℕ, List, Option, None, Result, Vec, All, length, slice_index_or, ap, subst, sym}
use Rattle.std.{specs.{Vec.with_items, declared.alloc.AllocError.AllocError}, proofs.lemmas.List.with_items_is}
use Rattle.crew.specs.Handed.{MayBeMade}

-- the slots are lent, and are what they have become
module _ {X Z : Type 0} (slots back : Vec X Z) (lent new now : List X) (same : lent ≡ slots.items) (as_many : length new ≡ length lent) (is : back ≡ with_items slots new) (value : now ≡ back.items) where
  new_length : length new ≡ length slots.items
  new_length = as_many ∙ ap (λ (l : List X). length l) same

  pub now_new : now ≡ new
  now_new = value ∙ (ap (λ (v : Vec X Z). v.items) is ∙ with_items_is slots new (new_length ∙ sym slots.ok.0))

  pub now_length : length now ≡ length slots.items
  now_length = ap (λ (l : List X). length l) now_new ∙ new_length

pub still_length : {X Z : Type 0} (slots back : Vec X Z) (now : List X) → back ≡ slots → now ≡ back.items → length now ≡ length slots.items
still_length {X} {Z} slots back now is value = ap (λ (l : List X). length l) (value ∙ ap (λ (v : Vec X Z). v.items) is)

module _ {Row : Type 0} (is : ℕ → Row → Type 0) (first : ℕ) where
  pub none_made : (items now : List (Option (Result Row AllocError))) → now ≡ items → All (λ slot. slot ≡ None) items
      → (i : ℕ) (d : Option (Result Row AllocError)) → i < length now → MayBeMade is (first + i) (slice_index_or now i d)
  none_made items now same none i d lt =
      subst (λ (slot : Option (Result Row AllocError)). MayBeMade is (first + i) slot) (sym (ap (λ (l : List (Option (Result Row AllocError))). slice_index_or l i d) same ∙ none i d (subst (λ (l : List (Option (Result Row AllocError))). i < length l) same lt))) tt

  pub some_made : (lent new now : List (Option (Result Row AllocError))) → length new ≡ length lent → now ≡ new → ((i : ℕ) (d : Option (Result Row AllocError)) → i < length lent → MayBeMade is (first + i) (slice_index_or new i d))
      → (i : ℕ) (d : Option (Result Row AllocError)) → i < length now → MayBeMade is (first + i) (slice_index_or now i d)
  some_made lent new now as_many same each i d lt =
      subst (λ (l : List (Option (Result Row AllocError))). MayBeMade is (first + i) (slice_index_or l i d)) (sym same)
      (each i d (subst (λ (n : ℕ). i < n) (ap (λ (l : List (Option (Result Row AllocError))). length l) same ∙ as_many) lt))
