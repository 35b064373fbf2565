-- Turns in a row by one look.
use Rattle.std.proofs.Common.{◌≡◌, ℕ, zero, suc, ◌+◌, ◌<◌, Bool, true, false, List, [], ◌∷◌, ◌++◌, take, get_or, Option, Some, None, refl, sym, ap, ◌∙◌, subst, inl, inr, arith}
use Rattle.std.{specs.Prelude.length, proofs.lemmas.List.{get_or-set_same, set-set, set-get_or, length-set, take_more}}
use Rattle.hart.specs.State.{ArchState, never_started, started as fresh}
use Rattle.sbi_calls.specs.declared.words.{Turned.{Turned, TheVariants.Made}, Did.TheVariants.Next}
use Rattle.turns.specs.{Turns.{Moment, moment, TurnOf}, Many.{NextTurns, RowOf}}
use Rattle.susp.specs.{Dozes.doze_of, declared.buses.Doze.Doze}
use Rattle.machine.specs.{Machine.{Machine, hart_at}, Turns.{moment_of, with_moment, TurnBy, DozeTurn, DoneBy, MakesTurn, MakesRow}}

-- a hart that stands so is read so, and replaced by the next
read_back : (h : ℕ) (m : Machine) (a : Moment) → h < length m.harts → moment_of h (with_moment h m a) ≡ a
read_back h m a lt = ap (λ (s : ArchState). moment a.table s a.memory) (get_or-set_same m.harts h a.hart (never_started h) lt)

put_twice : (h : ℕ) (m : Machine) (a b : Moment) → with_moment h (with_moment h m a) b ≡ with_moment h m b
put_twice h m a b = ap (λ (harts : List ArchState). let r : Machine = record { size = m.size; memory = b.memory; doze = m.doze; harts = harts; table = b.table } in r) (set-set m.harts h a.hart b.hart)

pub put_same : (h : ℕ) (m : Machine) → with_moment h m (moment_of h m) ≡ m
put_same h m = ap (λ (harts : List ArchState). let r : Machine = record { size = m.size; memory = m.memory; doze = m.doze; harts = harts; table = m.table } in r) (set-get_or m.harts h (never_started h))

-- what the hart makes where the board does not doze by it is its turn, and a turn of its doze where it does
turn_by : (o : Option Doze) (h : ℕ) (old new : Machine) (word : Turned) → doze_of h old.doze ≡ o → TurnBy o h old new word → MakesTurn h old new word
turn_by o h old new word e p = subst (λ (x : Option Doze). TurnBy x h old new word) (sym e) p

module _ (h : ℕ) (old : Machine) (lt : h < length old.harts) (awake : doze_of h old.doze ≡ None) where
  one_more : (a b : Moment) (word : Turned) → TurnOf old.size a b word → MakesTurn h (with_moment h old a) (with_moment h old b) word
  one_more a b word turn =
      turn_by None h (with_moment h old a) (with_moment h old b) word awake (b, subst (λ (x : Moment). TurnOf old.size x b word) (sym (read_back h old a lt)) turn, sym (put_twice h old a b))

  -- turns that all said Next, and the row that follows them, are one row
  nexts_on : (k : ℕ) (b : Moment) → NextTurns old.size k (moment_of h old) b → (n : ℕ) (new : Machine) (word : Turned) → MakesRow h n (with_moment h old b) new word → MakesRow h (n + k) old new word
  nexts_on zero b e n new word row =
      let z : n ≡ n + 0 = omega arith in
      subst (λ (j : ℕ). MakesRow h j old new word) z (subst (λ (m : Machine). MakesRow h n m new word) (ap (with_moment h old) e ∙ put_same h old) row)
  nexts_on (suc k) b x n new word row =
      let z : suc n + k ≡ n + suc k = omega arith in
      subst (λ (j : ℕ). MakesRow h j old new word) z (nexts_on k x.0 x.1 (suc n) new word (inr (with_moment h old b, one_more x.0 b (Made Next) x.2, row)))

  pub own_row : (count : ℕ) (new : Machine) (word : Turned) → DoneBy (λ a b. RowOf old.size count a b word) h old new → MakesRow h count old new word
  own_row count new word r =
      let row = r.1 in
      let turn = one_more row.1 r.0 word row.4 in
      let last : MakesTurn h (with_moment h old row.1) new word = subst (λ (m : Machine). MakesTurn h (with_moment h old row.1) m word) (sym r.2) turn in
      let z : suc zero + row.0 ≡ count = let e = row.2 in omega (arith, e) in
      subst (λ (j : ℕ). MakesRow h j old new word) z (nexts_on row.0 row.1 row.3 (suc zero) new word (inl (refl, last)))

-- the hart of a doze makes one turn
pub doze_row : (d : Doze) (h : ℕ) (old new : Machine) (word : Turned) → doze_of h old.doze ≡ Some d → DozeTurn d.woken d h old new word → MakesRow h 1 old new word
doze_row d h old new word is p = inl (refl, turn_by (Some d) h old new word is p)

-- ---- as many harts
doze_as_many : (woken : Bool) (d : Doze) (h : ℕ) (old new : Machine) (word : Turned) → DozeTurn woken d h old new word → length new.harts ≡ length old.harts
doze_as_many false d h old new word p = ap (λ (m : Machine). length m.harts) p.0
doze_as_many true d h old new word p = ap (λ (m : Machine). length m.harts) p.0 ∙ length-set old.harts h (fresh (hart_at old h).id d.at.address d.at.opaque)

turns_as_many_by : (o : Option Doze) (h : ℕ) (old new : Machine) (word : Turned) → TurnBy o h old new word → length new.harts ≡ length old.harts
turns_as_many_by None h old new word p = ap (λ (m : Machine). length m.harts) p.2 ∙ length-set old.harts h p.0.hart
turns_as_many_by (Some d) h old new word p = doze_as_many d.woken d h old new word p

pub turns_as_many : (h : ℕ) (old new : Machine) (word : Turned) → MakesTurn h old new word → length new.harts ≡ length old.harts
turns_as_many h old new word p = turns_as_many_by (doze_of h old.doze) h old new word p

pub rows_as_many : (h count : ℕ) (old new : Machine) (word : Turned) → MakesRow h count old new word → length new.harts ≡ length old.harts
rows_as_many h zero old new word p = absurd p
rows_as_many h (suc n) old new word p =
    elim p [
      | inl x ↦ turns_as_many h old new word x.1
      | inr x ↦ rows_as_many h n x.0 new word x.2 ∙ turns_as_many h old x.0 (Made Next) x.1
    ]

-- ---- one hart more is copied
pub copied_more : (copies now harts : List ArchState) (n : ℕ) (x : ArchState) → now ≡ copies ++ x ∷ [] → copies ≡ take n harts → n < length harts → x ≡ get_or harts n x → now ≡ take (n + 1) harts
copied_more copies now harts n x is was lt at =
    is ∙ (ap (λ (l : List ArchState). l ++ x ∷ []) was ∙ (ap (λ (y : ArchState). take n harts ++ y ∷ []) at ∙ sym (take_more harts n x lt)))
