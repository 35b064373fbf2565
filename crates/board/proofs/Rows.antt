-- Turns in a line, put together from rows of which the last turn alone may ask the store.
use Rattle.std.proofs.Common.{◌≡◌, ℕ, zero, suc, ◌+◌, ◌-◌, ◌≤◌, false, refl, subst, inl, inr, arith}
use Rattle.disk.specs.{declared.{device.{Disk.Ghosts, Lane.{Ghosts as Lanes}}}}
use Rattle.store.specs.{declared.stores.Store.Store, Views.fault_state_of}
use Rattle.sbi_calls.specs.declared.words.{Turned.{Turned, TheVariants.Made}, Did.TheVariants.Next}
use Rattle.machine.specs.Machine.{Machine}
use Rattle.machine.specs.Turns as machines
use Rattle.sbi.specs.{Words.ends, declared.words.Word.{Word, TheVariants.Goes}}
use Rattle.board.specs.Turns.{Comes, TurnsHeld, IsLastHeld, TurnsManyHeld, RowHeld}

module _ {D L : Type 0} {g : Ghosts D L} {l : Lanes L} where
  -- no cut has struck
  abbrev pub IsCalm : Store D L g l → Type 0
  IsCalm store = (fault_state_of store).struck ≡ false

  -- So many of the turns were made: if the last of them is the last of the line, that is the line; else
  -- whatever those that are left come to, the line comes to.
  pub record Reaches (h count made : ℕ) (m n : Machine) (old new : Store D L g l) (word : Word) : Type 0 where
    pub stops : (left : ℕ) → left + made ≡ count → IsLastHeld word left new → TurnsManyHeld h count m n old new made word
    pub goes_on : ends word ≡ false → IsCalm new → (left rest total : ℕ) (end : Machine) (store : Store D L g l) (last : Word) → left + made ≡ count → total ≡ made + rest → TurnsManyHeld h left n end new store rest last
        → TurnsManyHeld h count m end old store total last

  -- a turn that said Next asks nothing of the store
  pub row_reaches : (h count made : ℕ) (m mid n : Machine) (old new : Store D L g l) (turned : Turned) (word : Word) → made ≤ count → IsCalm old → machines.MakesRow h made m mid turned → Comes turned h mid n old new word → Reaches h count made m n old new word
  row_reaches h count zero m mid n old new turned word low calm p came = absurd p
  row_reaches h zero (suc k) m mid n old new turned word low calm p came = absurd (let no : ⊥ = omega (arith, low) in no)
  row_reaches h (suc count) (suc k) m mid n old new turned word low calm p came = elim p [
    | inl x ↦ (
        let z = x.0 in
        let turn : TurnsHeld h m n old new word = (mid, turned, x.1, came) in
        let one : suc k ≡ 1 = omega (arith, z) in
        record {
          stops = λ left sum last. (n, new, word, turn, inl (subst (λ (j : ℕ). IsLastHeld word j new) (omega (arith, sum, z)) last, refl, refl, one, refl));
          goes_on = λ on still left rest total end store last sum all more. (n, new, word, turn, inr (on, still, rest, omega (arith, all, z), subst (λ (j : ℕ). TurnsManyHeld h j n end new store rest last) (omega (arith, sum, z)) more));
        })
    | inr x ↦ (
        let turn : TurnsHeld h m x.0 old old (Goes Next) = (x.0, Made Next, x.1, (refl, refl, refl)) in
        let r = row_reaches h count k x.0 mid n old new turned word (omega (arith, low)) calm x.2 came in
        record {
          stops = λ left sum last. (x.0, old, Goes Next, turn, inr (refl, calm, k, refl, r.stops left (omega (arith, sum)) last));
          goes_on = λ on still left rest total end store last sum all more. (x.0, old, Goes Next, turn, inr (refl, calm, k + rest, omega (arith, all), r.goes_on on still left rest (k + rest) end store last (omega (arith, sum)) refl more));
        })
  ]

  -- the rows of a line, each after the other
  pub first_row : (h count made : ℕ) (m n : Machine) (old new : Store D L g l) (word : Word) → made ≤ count → IsCalm old → RowHeld h m n old new made word → Reaches h count made m n old new word
  first_row h count made m n old new word low calm r = row_reaches h count made m r.0 n old new r.1 word low calm r.2 r.3

  pub more_row : (h count made more : ℕ) (m n n' : Machine) (old new new' : Store D L g l) (said word : Word) → made ≤ count → more ≤ count - made → ends said ≡ false → IsCalm new → Reaches h count made m n old new said → RowHeld h n n' new new' more word
      → Reaches h count (made + more) m n' old new' word
  more_row h count made more m n n' old new new' said word low most on calm before r =
      let after = first_row h (count - made) more n n' new new' word most calm r in
      let sum : (count - made) + made ≡ count = omega (arith, low) in
      record {
        stops = λ left all last. before.goes_on on calm (count - made) more (made + more) n' new' word sum refl (after.stops left (omega (arith, all, low)) last);
        goes_on = λ on' still left rest total end store last all whole more'.
            before.goes_on on calm (count - made) (more + rest) total end store last sum (omega (arith, whole)) (after.goes_on on' still left rest (more + rest) end store last (omega (arith, all, low)) refl more');
      }
