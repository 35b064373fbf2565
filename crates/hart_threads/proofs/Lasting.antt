-- The last command of a journal, and its receipt.
use Rattle.std.proofs.Common.{◌≡◌, ◌∙◌, ℕ, zero, suc, ◌+◌, ◌-◌, ◌≤◌, ◌<◌, true, List, [], ◌∷◌, ◌++◌, Some, length, get_or, arith, refl, sym, ap, subst}
use Rattle.board_model.{specs.{Durable.{DurableState, Change}, Shapes.Size, Views.{change_in, entry_of}}, proofs.Steps.entry_of_change}
use Rattle.board_model.specs.declared.durable.Entry.{Entry}
use Rattle.sbi_abi.specs.declared.call.Call.{Call}
use Rattle.sbi_calls.specs.declared.words.Did.{Did}
use Rattle.sbi.specs.declared.words.{LifeEnd.LifeEnd, Word.{Word, TheVariants.{Goes, Over}}}
use Rattle.store.specs.Taken.{are_taken}
use Rattle.hart_threads.{specs.{Legal.{BeginsWith, IsToldOf}, Noted.entries_in}, proofs.{Naming.begins_on, Noting.{number, tied_on}}}
use Rattle.hart_threads.specs.Called.{AsksFor, AddsBy, IsLastOf, IsToldBy}
use Rattle.tallies.specs.{Logs.Log, Books.entries_of}

pub one_longer : (xs ys : List Change) (c : Change) → ys ≡ xs ++ c ∷ [] → length ys ≡ length xs + 1
one_longer xs ys c e = ap (λ (zs : List Change). length zs) e ∙ longer xs c
  where
    longer : (xs : List Change) (c : Change) → length (xs ++ c ∷ []) ≡ length xs + 1
    longer [] c = refl
    longer (x ∷ xs) c = let i = longer xs c in omega (arith, i)

at_end : (xs : List Change) (c d : Change) → get_or (xs ++ c ∷ []) (length xs) d ≡ c
at_end [] c d = refl
at_end (x ∷ xs) c d = at_end xs c d

pub split_last : (cs : List Change) (n : ℕ) (d : Change) → length cs ≡ suc n → (earlier : List Change) × (cs ≡ earlier ++ get_or cs n d ∷ []) × (length earlier ≡ n)
split_last [] n d e = let no : ⊥ = omega (arith, e) in absurd no
split_last (c ∷ []) zero d e = ([], refl, refl)
split_last (c ∷ x ∷ xs) zero d e = let no : ⊥ = omega (arith, e) in absurd no
split_last (c ∷ cs) (suc n) d e =
    let shorter : length cs ≡ suc n = omega (arith, e) in
    let r = split_last cs n d shorter in
    let m : length (c ∷ r.0) ≡ suc n = omega (arith, r.2) in
    (c ∷ r.0, ap (λ (xs : List Change). c ∷ xs) r.1, m)

-- ---- the receipt of the last command
pub told_last : (found : DurableState) (cs : List Change) (n : ℕ) (entry : Entry) → are_taken found cs ≡ true → IsLastOf cs n entry → n ≤ 4096 → IsToldOf found n entry
told_last found cs n entry taken last few =
    let memory = last.2.0 in
    let d = change_in entry memory in
    let len : length cs ≡ suc (n - 1) = omega (arith, last.0, last.1) in
    let s = split_last cs (n - 1) d len in
    let is : cs ≡ s.0 ++ d ∷ [] = s.1 ∙ ap (λ (c : Change). s.0 ++ c ∷ []) last.2.1 in
    let place : n ≡ length s.0 + 1 = omega (arith, s.2, last.0) in
    (s.0, memory, subst (λ (xs : List Change). are_taken found xs ≡ true) is taken, place, few)

-- ---- a durable call after which the life goes on adds nothing
pub stays : (size : Size) (call : Call) (by : ℕ) (did : Did) (word : Word) (old new : List Change) → word ≡ Goes did → AddsBy size call by word old new → new ≡ old
stays size call by did word old new is adds = subst (λ (w : Word). AddsBy size call by w old new) is adds

-- ---- one that ended the life adds its command
pub record Grows (size : Size) (call : Call) (by : ℕ) (end : LifeEnd) (old new : List Change) : Type 0 where
  pub entry : Entry
  pub memory : List ℕ
  pub asks : AsksFor size call by end entry
  pub grown : new ≡ old ++ change_in entry memory ∷ []
  pub longer : length new ≡ length old + 1
  pub few : length old < 4096

pub grows : (size : Size) (call : Call) (by : ℕ) (end : LifeEnd) (word : Word) (old new : List Change) → word ≡ Over end → AddsBy size call by word old new → Grows size call by end old new
grows size call by end word old new is adds =
    let a = subst (λ (w : Word). AddsBy size call by w old new) is adds in
    record { entry = a.0; memory = a.1; asks = a.2; grown = a.3; longer = one_longer old new (change_in a.0 a.1) a.3; few = a.4 }

module _ (size : Size) (call : Call) (by : ℕ) (end : LifeEnd) (old new : List Change) (g : Grows size call by end old new) where
  pub begins_longer : (issued : List Change) → BeginsWith issued old → BeginsWith issued new
  begins_longer issued was = begins_on issued old new (change_in g.entry g.memory) was g.grown

  -- the last command is the one that was asked for
  pub last_is : (n : ℕ) (entry : Entry) → IsLastOf new n entry → entry ≡ g.entry
  last_is n entry last =
      let c = change_in g.entry g.memory in
      let d = change_in entry last.2.0 in
      let longer = g.longer in
      let place : n - 1 ≡ length old = omega (arith, last.1, longer) in
      let same : d ≡ c = sym last.2.1 ∙ ap (λ (xs : List Change). get_or xs (n - 1) d) g.grown ∙ ap (λ (k : ℕ). get_or (old ++ c ∷ []) k d) place ∙ at_end old c d in
      sym (entry_of_change entry last.2.0) ∙ ap entry_of same ∙ entry_of_change g.entry g.memory

  pub told_of : (word : Word) (t told : ℕ × Entry) → word ≡ Over end → told ≡ t → IsLastOf new t.0 t.1 → IsToldBy size call by word (Some told)
  told_of word t told is made last =
      subst (λ (w : Word). IsToldBy size call by w (Some told)) (sym is)
      (t, ap (λ (x : ℕ × Entry). Some x) made, subst (λ (e : Entry). AsksFor size call by end e) (sym (last_is t.0 t.1 last)) g.asks)

  -- the book stays the journal's
  pub tied_after : (log : Log Entry) (n : ℕ) (entry : Entry) (who : ℕ) → IsLastOf new n entry → entries_in old ≡ entries_of log → entries_in new ≡ entries_of ((who, entry) ∷ log)
  tied_after log n entry who last tied =
      tied_on old new log (change_in g.entry g.memory) entry who tied (entry_of_change g.entry g.memory ∙ sym (last_is n entry last)) g.grown

  pub place_after : (log : Log Entry) (n : ℕ) → n ≡ length new → entries_in old ≡ entries_of log → n ≡ suc (length log)
  place_after log n is tied = number old log n tied (is ∙ g.longer)
