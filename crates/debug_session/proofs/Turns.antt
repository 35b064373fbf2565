-- Turns counted, one line more.
use Rattle.std.proofs.Common.{◌≡◌, ◌<◌, ◌≤◌, ◌+◌, ◌-◌, ◌∙◌, ℕ, zero, suc, true, List, [], ◌++◌, length, take, get_or, ap, arith}
use Rattle.std.{specs.Prelude.min, proofs.lemmas.List.{take_more, Sums.{sum_by_push, sum_by-append}}}
use Rattle.script_lang.specs.declared.line.Line.{Line}
use Rattle.debug_session.specs.{Pasts.some_turns, Ats.IsBefore, declared.timeline.Timeline.Timeline}
use Rattle.debug_session.specs.Turns.{WentTo, turns_made, turns_of, turns_told}

-- of the first lines, with one more
pub made_more : (xs : List Line) (i : ℕ) (d : Line) → i < length xs → turns_made (take (i + 1) xs) ≡ turns_made (take i xs) + turns_of (get_or xs i d)
made_more xs i d less = ap turns_made (take_more xs i d less) ∙ sum_by_push turns_of (take i xs) (get_or xs i d)

-- and as 64 bits hold it
pub told_more : (xs : List Line) (i sum : ℕ) (d : Line) → i < length xs → sum ≡ turns_told (take i xs) → min (sum + turns_of (get_or xs i d)) 18446744073709551615 ≡ turns_told (take (i + 1) xs)
told_more xs i sum d less is = omega (arith, is, made_more xs i d less)

-- the turns of what is left of a history that is cut
pub made_cut : (h k : ℕ) (xs : List Line) → turns_made (xs ++ some_turns h k) ≡ turns_made xs + k
made_cut h zero xs = sum_by-append turns_of xs []
made_cut h (suc k) xs = sum_by-append turns_of xs (some_turns h (suc k)) ∙ ap (λ (n : ℕ). turns_made xs + n) (some k)
  where
    some : (k : ℕ) → turns_made (some_turns h (suc k)) ≡ suc k
    some k = omega arith

-- a history that is cut before a turn
pub went_to : (h i k n : ℕ) (old new : Timeline) → turns_made (take i old.history) + k ≡ n → new.history ≡ take i old.history ++ some_turns h k → IsBefore h old.history new.history → WentTo n true old new
went_to h i k n old new is cut before = (h, before, ap turns_made cut ∙ made_cut h k (take i old.history) ∙ is)

-- no more than a history lacks, and than a command makes
pub left_few : (now past : List Line) (n k turns most : ℕ) → n ≤ k → k ≡ min (turns - turns_told now) most → now ≡ past → (n ≤ turns - turns_told past) × (n ≤ most)
left_few now past n k turns most few is same =
    let told : turns_told now ≡ turns_told past = ap turns_told same in (omega (arith, few, is, told), omega (arith, few, is))
