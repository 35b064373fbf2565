-- What is known of a book's journal, seat by seat, and the rule that keeps it. Source: docs/THREADS.md, "Receipts".
use Rattle.std.specs.Prelude.{◌≡◌, ℕ, ◌<◌, ◌≤◌, zero, suc, true, false, List, [], ◌∷◌, ◌++◌, ◌==◌, length, if◌then◌else◌, drop}
use mathlib.Core.Option.{some}
use lib.ListN.{get_elem?}
use Rattle.atomic_table.specs.Seated.{TableId}
use Rattle.atomic_table.specs.Table.{State, Me, Step}
use Rattle.board_model.specs.Shapes.{Size}
use Rattle.tallies.specs.Sums.{total}
use Rattle.tallies.specs.Logs.{Log}
use Rattle.board_model.specs.declared.durable.Entry.{Entry}
use Rattle.tallies.specs.declared.book_views.PartView.{PartView}
use Rattle.tallies.specs.declared.book_views.BookView.{BookView}

-- a fact of each element
abbrev pub Each : {A : Type 0} → (A → Type 0) → List A → Type 0
Each P [] = Unit {0}
Each P (x ∷ xs) = P x × Each P xs

-- the name of no book
abbrev pub no_book : TableId
no_book = record { words = 0; slots = 0; views_name = 0; atom = 0; block = 0; offset = 0; slot_names = [] }

-- a size, for want of a better
abbrev pub one_page : Size
one_page = record { harts = 1; pages = 1; lanes = 1 }

-- the entries, the oldest first
abbrev pub entries_of : Log Entry → List Entry
entries_of [] = []
entries_of (e ∷ l) = entries_of l ++ e.1 ∷ []

module _ {E : Type 0} where
  -- what a part was told: the receipts of its entries, from 1, each with the entry
  abbrev pub told_by : ℕ → Log E → List (ℕ × E)
  told_by who [] = []
  told_by who (e ∷ l) = if e.0 == who then (suc (length l), e.1) ∷ told_by who l else told_by who l

  abbrev pub part_view : ℕ → List (ℕ × E) → PartView E
  part_view who told = record { who = who; told = told }

  abbrev pub keeper_view : ℕ → Log E → List (PartView E) → BookView E
  keeper_view count log parts = record { keeps = true; count = count; log = log; parts = parts }

  abbrev pub parts_seat : List (PartView E) → BookView E
  parts_seat parts = record { keeps = false; count = 0; log = []; parts = parts }

  abbrev pub part_seat : PartView E → BookView E
  part_seat d = parts_seat (d ∷ [])

  abbrev pub nobody : BookView E
  nobody = parts_seat []

  -- parts that were told nothing
  abbrev pub fresh_from : ℕ → ℕ → List (PartView E)
  fresh_from first zero = []
  fresh_from first (suc n) = part_view first [] ∷ fresh_from (suc first) n

  abbrev pub opening_view : ℕ → BookView E
  opening_view count = keeper_view count [] (fresh_from 0 count)

  abbrev pub first_of : List (PartView E) → PartView E
  first_of [] = part_view 0 []
  first_of (d ∷ ds) = d

  -- a part with one receipt more
  abbrev pub told_after : ℕ → E → PartView E → PartView E
  told_after number entry d = part_view d.who ((number, entry) ∷ d.told)

  -- ---- seats
  abbrev pub other_parts : BookView E → BookView E
  other_parts v = record { keeps = v.keeps; count = v.count; log = v.log; parts = drop 1 v.parts }

  abbrev pub one_part : BookView E → BookView E
  one_part v = part_seat (first_of v.parts)

  abbrev pub with_part : BookView E → BookView E → BookView E
  with_part v w = record { keeps = v.keeps; count = v.count; log = v.log; parts = first_of w.parts ∷ v.parts }

  -- the keeper's, with an entry more, and the part that added it
  abbrev pub with_entry : E → BookView E → BookView E → BookView E
  with_entry entry v w = record { keeps = v.keeps; count = v.count; log = ((first_of w.parts).who, entry) ∷ v.log; parts = told_after (suc (length v.log)) entry (first_of w.parts) ∷ v.parts }

  -- ---- the rule
  abbrev pub is_of : ℕ → PartView E → ℕ
  is_of who d = if d.who == who then 1 else 0

  abbrev pub seats : ℕ → BookView E → ℕ
  seats who v = total (is_of who) v.parts

  -- how many parts a seat has
  abbrev pub held_by : BookView E → ℕ
  held_by v = length v.parts

  abbrev pub keeps_of : BookView E → ℕ
  keeps_of v = if v.keeps then 1 else 0

  -- the part was told what it added
  abbrev pub IsPart : Log E → PartView E → Type 0
  IsPart log d = d.told ≡ told_by d.who log

  -- There is one keeper, which knows all entries; each part is there once, no other is, and each was told just what it
  -- added; only parts added.
  pub record IsKept (s : State (Unit {0}) (BookView E)) : Type 0 where
    pub count : ℕ
    pub log : Log E
    pub knows : (id : ℕ) (v : BookView E) → get_elem? s.views id ≡ some v → v.keeps ≡ true → (v.count ≡ count) × (v.log ≡ log)
    pub one : total keeps_of s.views ≡ 1
    pub entered : (id : ℕ) (v : BookView E) → get_elem? s.views id ≡ some v → Each (IsPart log) v.parts
    pub once : (who : ℕ) → who < count → total (seats who) s.views ≡ 1
    pub none_else : (who : ℕ) → count ≤ who → total (seats who) s.views ≡ 0
    pub of : Each (λ e. e.0 < count) log
    pub whole : total held_by s.views ≡ count

  -- What a look tells the keeper: each of its parts was told what it added, and only parts added; and if it has as many
  -- parts as there are, it has each of them once.
  abbrev pub Learnt : BookView E → Type 0
  Learnt v =
      Each (IsPart v.log) v.parts × Each (λ e. e.0 < v.count) v.log
      × (length v.parts ≡ v.count → (who : ℕ) → who < v.count → total (is_of who) v.parts ≡ 1)

  abbrev pub Learns : Step (Unit {0}) → Me (Unit {0}) (BookView E) → ℕ → Me (Unit {0}) (BookView E) → Type 0
  Learns st m found m' = (m' ≡ m) × (m.0.keeps ≡ true → Learnt m.0)
