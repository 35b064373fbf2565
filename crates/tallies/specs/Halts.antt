-- A word that is set once, what those know who look at it, and the rule that keeps it. Source: docs/THREADS.md, "The end of a loop".
use Rattle.std.specs.Prelude.{◌≡◌, ◌≢◌, ◌==◌, ◌+◌, ℕ, zero, suc, Bool, true, false, not, if◌then◌else◌, [], ◌∷◌, Option, Some, None, is_some}
use mathlib.Core.Option.{some}
use lib.ListN.{get_elem?}
use Rattle.atomic_table.specs.Seated.{TableId}
use Rattle.atomic_table.specs.Table.{State, Me, Step}
use Rattle.tallies.specs.Sums.{total}
use Rattle.tallies.specs.declared.halt_views.HaltView.{HaltView}

-- ---- a watch
-- which word it is of, whether it may set the word, how many of its looks found it unset, and where it set the word, or found it set, the
-- sum that all had by then
pub record Watched : Type 0 where
  pub of : TableId
  pub may_set : Bool
  pub unset : ℕ
  pub sum : Option ℕ

abbrev pub watched : TableId → Bool → ℕ → Option ℕ → Watched
watched of may_set unset sum = record { of = of; may_set = may_set; unset = unset; sum = sum }

-- one look more, by what it found: only one that found the word unset is counted, and one that found it set knows the sum
abbrev pub HasLooked : Bool → Watched → Watched → Type 0
HasLooked true w w' = (n : ℕ) × (w' ≡ watched w.of w.may_set w.unset (Some n))
HasLooked false w w' = w' ≡ watched w.of w.may_set (suc w.unset) w.sum

-- ---- the rule
abbrev pub halt_view : Bool → ℕ → Option ℕ → HaltView
halt_view may_set unset sum = record { may_set = may_set; unset = unset; sum = sum }

abbrev pub no_looks : HaltView
no_looks = halt_view false 0 None

abbrev pub first_view : HaltView
first_view = halt_view true 0 None

abbrev pub unset_of : HaltView → ℕ
unset_of v = v.unset

abbrev pub sets_of : HaltView → ℕ
sets_of v = if v.may_set then 1 else 0

-- how many may set the word: one, until it is set
abbrev pub setters : ℕ → ℕ
setters zero = 1
setters (suc n) = 0

-- There is one word. Once it was set it stays so, and the looks that found it unset are as many as they were then. While it is unset there
-- is one who may set it, and after that nobody may.
pub record IsKept (s : State (Unit {0}) HaltView) : Type 0 where
  pub word : ℕ
  pub one : s.words ≡ word ∷ []
  pub set : (id : ℕ) (v : HaltView) (n : ℕ) → get_elem? s.views id ≡ some v → v.sum ≡ Some n
      → (word ≢ 0) × (n ≡ total unset_of s.views)
  pub right : total sets_of s.views ≡ setters word

-- ---- steps
abbrev pub Enters : Step (Unit {0}) → Me (Unit {0}) HaltView → ℕ → Me (Unit {0}) HaltView → Type 0
Enters st m found m' = m'.0 ≡ no_looks

abbrev pub LooksBy : Bool → HaltView → HaltView → Type 0
LooksBy true v v' = (n : ℕ) × (v' ≡ halt_view v.may_set v.unset (Some n))
LooksBy false v v' = v' ≡ halt_view v.may_set (suc v.unset) v.sum

abbrev pub Looks : Step (Unit {0}) → Me (Unit {0}) HaltView → ℕ → Me (Unit {0}) HaltView → Type 0
Looks st m found m' = LooksBy (not (found == 0)) m.0 m'.0 × (m'.1 ≡ m.1)

abbrev pub Sets : Step (Unit {0}) → Me (Unit {0}) HaltView → ℕ → Me (Unit {0}) HaltView → Type 0
Sets st m found m' = (n : ℕ) × (m'.0 ≡ halt_view false m.0.unset (Some n)) × (m'.1 ≡ m.1)

-- who may set the word has not found it set, nor has another of whom it knows
abbrev pub Learns : Step (Unit {0}) → Me (Unit {0}) HaltView → ℕ → Me (Unit {0}) HaltView → Type 0
Learns st m found m' = (m' ≡ m) × (m.0.may_set ≡ true → is_some m.0.sum ≡ false)

-- ---- a watch is copied, and one learns what another knows
abbrev pub same_view : HaltView → HaltView
same_view v = v

-- what it knows of the word, with no look of its own
abbrev pub what_is_known : HaltView → HaltView
what_is_known v = halt_view false 0 v.sum

abbrev pub with_known : HaltView → HaltView → HaltView
with_known v w = halt_view v.may_set (v.unset + w.unset) w.sum
