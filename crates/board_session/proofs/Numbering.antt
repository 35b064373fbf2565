-- Ends of harts, one after another.
use Rattle.std.proofs.{Common.{◌≡◌, ℕ, suc, ◌+◌, List, [], ◌∷◌, ◌++◌, length, arith, sym, subst}, lemmas.List.length_push}
use Rattle.hart_threads.specs.{Begun.AreFromLast, Ends.AreNumberedFrom, declared.ends.HartEnd.HartEnd}

-- one more, of the next hart
pub numbered_more : (first : ℕ) (es : List HartEnd) (e : HartEnd) → AreNumberedFrom first es → e.hart.id ≡ first + length es → AreNumberedFrom first (es ++ e ∷ [])
numbered_more first [] e are is = (let n = is in omega (arith, n), tt)
numbered_more first (d ∷ es) e are is = (are.0, numbered_more (suc first) es e are.1 (omega (arith, is)))

pub numbered_next : (es all : List HartEnd) (e : HartEnd) (k : ℕ) → AreNumberedFrom 0 es → length es ≡ k → e.hart.id ≡ k → all ≡ es ++ e ∷ [] → AreNumberedFrom 0 all
numbered_next es all e k are many is grown = subst (λ (l : List HartEnd). AreNumberedFrom 0 l) (sym grown) (numbered_more 0 es e are (omega (arith, many, is)))

-- the one that was taken off the end is of the first number, and the others are of those after it
pub from_last_taken : {A : Type 0} (first : ℕ) (number : A → ℕ) (xs all : List A) (x : A) → all ≡ xs ++ x ∷ [] → AreFromLast first number all → (number x ≡ first) × AreFromLast (suc first) number xs
from_last_taken {A} first number xs all x is are = taken xs (subst (λ (l : List A). AreFromLast first number l) is are)
  where
    taken : (ys : List A) → AreFromLast first number (ys ++ x ∷ []) → (number x ≡ first) × AreFromLast (suc first) number ys
    taken [] are = (let n = are.0 in omega (arith, n), tt)
    taken (y ∷ ys) are = let rest = taken ys are.1 in let n = are.0 in (rest.0, (omega (arith, n, length_push ys x), rest.1))
