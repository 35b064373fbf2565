-- What the parts were told, beside the journal.
use Rattle.std.specs.Prelude.{◌≡◌, ◌++◌, ℕ, suc, List, [], ◌∷◌, Some, length, slice_get}
use Rattle.board_model.specs.declared.durable.Entry.{Entry}
use Rattle.tallies.specs.Books.{Each}
use Rattle.tallies.specs.declared.book_views.PartView.{PartView}

-- the receipts of those parts
abbrev pub told_in : List (PartView Entry) → List (ℕ × Entry)
told_in [] = []
told_in (d ∷ ds) = d.told ++ told_in ds

-- the entry stands in the journal at the receipt's number, from 1
abbrev pub StandsIn : List Entry → ℕ × Entry → Type 0
StandsIn journal t = (k : ℕ) × (t.0 ≡ suc k) × (slice_get journal k ≡ Some t.1)

abbrev pub AreStanding : List Entry → List (ℕ × Entry) → Type 0
AreStanding journal = Each (StandsIn journal)

-- The receipts are those of the journal's entries: each has its entry stand in the journal at its number, from 1;
-- each entry has one; and they are as many as the entries, so none is there twice.
pub record AreReceiptsOf (journal : List Entry) (told : List (ℕ × Entry)) : Type 0 where
  pub stand : AreStanding journal told
  pub all : (k : ℕ) (entry : Entry) → slice_get journal k ≡ Some entry
      → (i : ℕ) × (slice_get told i ≡ Some (suc k, entry))
  pub many : length told ≡ length journal
