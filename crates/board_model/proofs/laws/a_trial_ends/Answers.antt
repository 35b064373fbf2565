use Rattle.std.proofs.Common.{◌≡◌, ◌∙◌, [], ◌∷◌, ℕ, zero, suc, ◌-◌, ◌≤◌, List, Option, None, Some, Bool, true, false, nat_lt, if◌then◌else◌, refl, sym, ap, subst, arith}
use Rattle.std.{specs.List.All, proofs.lemmas.{List.Elements.{All-head, All-tail}, Bool.Decides.nat_tests}}
use Rattle.board_model.specs.Durable.{DurableState, Change, Tries, Attempt, after, fold, attempted, attempts, fallback_by}
use Rattle.board_model.specs.{Trials.{IsUndecided, DecidesNone, boots_in, counts_boot}, declared.durable.Trial.Trial}
use Rattle.board_model.proofs.Steps.{ByTrial, Decides, Counts, Spares, by_trial}
use Rattle.board_model.proofs.laws.a_trial_ends.Goals as goal

abbrev trial : ℕ → ℕ → Trial
trial fallback left = record { fallback = fallback; left = left }

-- One boot fewer is left.
once : (s : DurableState) (f l : ℕ) → s.trial ≡ Some (trial f (suc l)) → after s Attempt ≡ record s { trial = Some (trial f l) }
once s f l is = ap (attempted s) is

counts : (s : DurableState) (f l n : ℕ) → s.trial ≡ Some (trial f l) → n ≤ l
    → ((fold s (attempts n)).slot ≡ s.slot) × ((fold s (attempts n)).trial ≡ Some (trial f (l - n)))
counts s f l zero is le = (refl, is ∙ ap (λ (k : ℕ). Some (trial f k)) (omega arith))
counts s f zero (suc n) is le = absurd (omega (arith, le))
counts s f (suc l) (suc n) is le =
    subst (λ (x : DurableState). ((fold x (attempts n)).slot ≡ s.slot) × ((fold x (attempts n)).trial ≡ Some (trial f (suc l - suc n)))) (sym (once s f l is))
    (let rest = counts (record s { trial = Some (trial f l) }) f l n refl (omega (arith, le)) in
    (rest.0, rest.1 ∙ ap (λ (k : ℕ). Some (trial f k)) (omega arith)))

falls : (s : DurableState) (f l : ℕ) → s.trial ≡ Some (trial f l)
    → ((fold s (Attempt ∷ attempts l)).slot ≡ f) × ((fold s (Attempt ∷ attempts l)).trial ≡ None)
falls s f zero is =
    subst (λ (x : DurableState). (x.slot ≡ f) × (x.trial ≡ None)) (sym (let fell : after s Attempt ≡ record s { slot = f; trial = None } = ap (attempted s) is in fell)) (refl, refl)
falls s f (suc l) is =
    subst (λ (x : DurableState). ((fold x (Attempt ∷ attempts l)).slot ≡ f) × ((fold x (Attempt ∷ attempts l)).trial ≡ None)) (sym (once s f l is))
    (falls (record s { trial = Some (trial f l) }) f l refl)

pub returns-clause-booted : goal.returns-clause-booted
returns-clause-booted c s t n is le = counts s t.fallback t.left n is le

pub returns-clause-falls_back : goal.returns-clause-falls_back
returns-clause-falls_back c s t is = falls s t.fallback t.left is

-- what the rest of a list does: from a state without a trial, and from one with a trial
abbrev Stays : List Change → Type 0
Stays cs = (s : DurableState) → s.trial ≡ None → (fold s cs).slot ≡ s.slot

abbrev Runs : List Change → Type 0
Runs cs = (s : DurableState) (f l : ℕ) → s.trial ≡ Some (trial f l) → (fold s cs).slot ≡ (if nat_lt l (boots_in cs) then f else s.slot)

-- once the trial is over, a boot changes nothing
stays_on : (c : Change) (cs : List Change) → ByTrial c → IsUndecided c → Stays cs → Stays (c ∷ cs)
stays_on c cs (Decides step) undecided stays = absurd (subst DecidesNone step undecided)
stays_on c cs Counts undecided stays = λ s none.
    subst (λ (x : DurableState). (fold x cs).slot ≡ s.slot) (sym (let same : after s Attempt ≡ s = ap (attempted s) none in same)) (stays s none)
stays_on c cs (Spares step same) undecided stays = λ s none. stays (after s c) ((same s).1 ∙ none) ∙ (same s).0

stays_all : (cs : List Change) → All IsUndecided cs → Stays cs
stays_all [] all = λ s none. refl
stays_all (c ∷ cs) all = stays_on c cs (by_trial c) (All-head IsUndecided c cs all) (stays_all cs (All-tail IsUndecided c cs all))

-- one boot more, and one that was left
one_more : (l k : ℕ) → nat_lt (suc l) (suc k) ≡ nat_lt l k
one_more l k = grind (arith, nat_tests)

past : (k : ℕ) (f n : ℕ) → f ≡ (if nat_lt zero (suc k) then f else n)
past k f n = ap (λ (b : Bool). if b then f else n) (let yes : true ≡ nat_lt zero (suc k) = grind (arith, nat_tests) in yes)

unspent : (l : ℕ) (f n : ℕ) → n ≡ (if nat_lt l zero then f else n)
unspent l f n = ap (λ (b : Bool). if b then f else n) (let no : false ≡ nat_lt l zero = grind (arith, nat_tests) in no)

-- a boot, and what comes after it
booted : (cs : List Change) → Stays cs → Runs cs → (s : DurableState) (f l : ℕ) → s.trial ≡ Some (trial f l)
    → (fold (after s Attempt) cs).slot ≡ (if nat_lt l (suc (boots_in cs)) then f else s.slot)
booted cs stays runs s f zero is =
    subst (λ (x : DurableState). (fold x cs).slot ≡ (if nat_lt zero (suc (boots_in cs)) then f else s.slot)) (sym (let fell : after s Attempt ≡ record s { slot = f; trial = None } = ap (attempted s) is in fell))
    (stays (record s { slot = f; trial = None }) refl ∙ past (boots_in cs) f s.slot)
booted cs stays runs s f (suc l) is =
    subst (λ (x : DurableState). (fold x cs).slot ≡ (if nat_lt (suc l) (suc (boots_in cs)) then f else s.slot)) (sym (once s f l is))
    (runs (record s { trial = Some (trial f l) }) f l refl ∙ ap (λ (b : Bool). if b then f else s.slot) (sym (one_more l (boots_in cs))))

runs_on : (c : Change) (cs : List Change) → ByTrial c → IsUndecided c → Stays cs → Runs cs → Runs (c ∷ cs)
runs_on c cs (Decides step) undecided stays runs = absurd (subst DecidesNone step undecided)
runs_on c cs Counts undecided stays runs = booted cs stays runs
runs_on c cs (Spares step same) undecided stays runs = λ s f l is.
    runs (after s c) f l ((same s).1 ∙ is)
    ∙ ap (λ (n : ℕ). if nat_lt l (boots_in cs) then f else n) (same s).0
    ∙ ap (λ (b : Bool). if nat_lt l (if b then suc (boots_in cs) else boots_in cs) then f else s.slot) (sym (ap counts_boot step))

runs_all : (cs : List Change) → All IsUndecided cs → Runs cs
runs_all [] all = λ s f l is. unspent l f s.slot
runs_all (c ∷ cs) all =
    let rest = All-tail IsUndecided c cs all in
    runs_on c cs (by_trial c) (All-head IsUndecided c cs all) (stays_all cs rest) (runs_all cs rest)

pub returns-clause-never_good : goal.returns-clause-never_good
returns-clause-never_good c s n boots cs none all = runs_all cs all (after s (Tries n boots)) s.slot boots (ap (λ (o : Option Trial). begun o) none)
  where
    begun : Option Trial → Option Trial
    begun o = Some (trial (fallback_by s.slot o) boots)
