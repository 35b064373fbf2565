-- Commands of a life in a row, none of which the table refuses: each is acknowledged, or the disk failed.
use Rattle.std.proofs.Common.{◌≡◌, ◌⊎◌, ◌≤◌, ◌<◌, ◌+◌, inl, inr, ℕ, List, [], ◌∷◌, ◌++◌, length, length-append, Option, None, Some, is_some, if◌then◌else◌, Result, Ok, Err, refl, sym, ◌∙◌, ap, subst, arith}
use Rattle.std.{specs.Bool.⊤, proofs.lemmas.List.append-nil}
use mathlib.Core.List.{append_assoc}
use Rattle.board_model.specs.{Durable.{DurableState, Change, Discard, formatted, refusal_of, after, fold}, Kept.Kept, Shapes.Size}
use Rattle.board_model.specs.declared.{boot_mode.BootMode.BootMode, durable.Trial.Trial}
use Rattle.board_model.specs.declared.boot_mode.BootMode.TheVariants as modes
use Rattle.board.{specs.{Boots.boot_refusal, Moments.{attempts_of, commands_by}}, proofs.Issued.fold_more}
use Rattle.bench_report.specs.{Bench.{DiskState, Blank, Unknown, Formatted, BenchLife, Bench}, Agree.LifeIs}
use Rattle.bench_report.specs.Happens.{acknowledged, in_doubt, life_with, all_acknowledged}
use Rattle.bench_report.{specs.Commands.{Writes, IssuedBy, Issued, IssuesAll}, proofs.Determined.{DiskHasFailed, fails, not_both, some_inj}}

-- the table refuses none of them, each in the state after those before it
abbrev pub AreTaken : List Change → DurableState → Type 0
AreTaken [] s = ⊤
AreTaken (c ∷ cs) s = (refusal_of s c ≡ None) × AreTaken cs (after s c)

pub taken_at : (done : List Change) (c : Change) (later : List Change) (s : DurableState) → AreTaken (done ++ c ∷ later) s → refusal_of (fold s done) c ≡ None
taken_at [] c later s taken = taken.0
taken_at (d ∷ done) c later s taken = taken_at done c later (after s d) taken.1

-- ---- the commands of a boot
attempts_taken : (s : DurableState) (trial : Option Trial) → s.trial ≡ trial → AreTaken (attempts_of trial) s
attempts_taken s None e = tt
attempts_taken s (Some t) e = let P : Option Trial → Option ℕ = λ o. if is_some o then None else Some 20 in (ap P e, tt)

pub commands_taken : (mode : BootMode) (s : DurableState) → boot_refusal s mode ≡ None → AreTaken (commands_by mode s) s
commands_taken modes.Fresh s allowed = attempts_taken s s.trial refl
commands_taken modes.Keep s allowed = attempts_taken s s.trial refl
commands_taken modes.Discard s allowed = (allowed, attempts_taken (after s Discard) s.trial refl)
commands_taken modes.Resume s allowed = (allowed, tt)

pub few_of : (cs done : List Change) (c : Change) (later : List Change) → length cs ≤ 2 → cs ≡ done ++ c ∷ later → length done ≤ 1
few_of cs done c later few parts =
    let long : length cs ≡ length (done ++ c ∷ later) = ap length parts in omega (arith, few, long, length-append done (c ∷ later))

-- ---- the life and the bench after them
abbrev pub life_then : Change → BenchLife → BenchLife
life_then c life = record life { now = after life.now c; receipts = life.receipts + 1 }

more_life : (c : Change) (cs : List Change) (life : BenchLife) → life_with cs (life_then c life) ≡ life_with (c ∷ cs) life
more_life c cs life =
    let P : ℕ → BenchLife = λ n. record life { now = fold life.now (c ∷ cs); receipts = n } in
    let e : life.receipts + 1 + length cs ≡ life.receipts + length (c ∷ cs) = omega arith in
    ap P e

abbrev keeping : Bench → List Change → Option BenchLife → Bench
keeping b changes p = record b { kept = record b.kept { changes = changes }; power = p }

more_bench : (c : Change) (cs : List Change) (life : BenchLife) (b : Bench) → all_acknowledged cs (life_then c life) (acknowledged c life b) ≡ all_acknowledged (c ∷ cs) life b
more_bench c cs life b =
    ap (λ xs. keeping b xs (Some (life_with cs (life_then c life)))) (append_assoc b.kept.changes (c ∷ []) cs)
    ∙ ap (λ (l : BenchLife). keeping b (b.kept.changes ++ c ∷ cs) (Some l)) (more_life c cs life)

no_life : (life : BenchLife) → life_with [] life ≡ life
no_life life =
    let P : ℕ → BenchLife = λ n. record life { receipts = n } in
    let e : life.receipts + length {A = Change} [] ≡ life.receipts = omega arith in
    ap P e

no_bench : (life : BenchLife) (b : Bench) → b.power ≡ Some life → all_acknowledged [] life b ≡ b
no_bench life b on =
    ap (λ xs. keeping b xs (Some (life_with [] life))) (append-nil b.kept.changes)
    ∙ ap (λ (l : BenchLife). keeping b b.kept.changes (Some l)) (no_life life)
    ∙ ap (λ (p : Option BenchLife). keeping b b.kept.changes p) (sym on)

-- the life goes on from what the disk keeps
pub follows_all : (size : Size) (m : DiskState) (k : Kept) (cs : List Change) (life : BenchLife) (z : Size) → LifeIs size m k life z → LifeIs size m (record k { changes = k.changes ++ cs }) (life_with cs life) z
follows_all size Blank k cs life z h = h
follows_all size Unknown k cs life z h = h
follows_all size Formatted k cs life z h = (h.0, ap (λ (s : DurableState). fold s cs) h.1 ∙ sym (fold_more formatted k.changes cs), h.2, h.3)

-- ---- what they answer
first_issued : (c : Change) (life : BenchLife) (b : Bench) → life.doubt ≡ None → life.receipts < 4096 → refusal_of life.now c ≡ None → Issued c life b (Ok (life.receipts + 1)) (acknowledged c life b)
first_issued c life b calm few table =
    let P : Option Change → Type 0 = λ d. IssuedBy d c life b (Ok (life.receipts + 1)) (acknowledged c life b) in
    let Q : Option ℕ → Type 0 = λ r. Writes r c life b (Ok (life.receipts + 1)) (acknowledged c life b) in
    subst P (sym calm) (inr (few, subst Q (sym table) (inl (refl, refl))))

-- each is acknowledged
pub all_issue : (cs : List Change) (life : BenchLife) (b : Bench) → b.power ≡ Some life → life.doubt ≡ None → life.receipts + length cs ≤ 4096 → AreTaken cs life.now → IssuesAll cs b (Ok 0) (all_acknowledged cs life b)
all_issue [] life b on calm few taken = (refl, no_bench life b on)
all_issue (c ∷ cs) life b on calm few taken =
    let mid : Bench = acknowledged c life b in
    let P : Bench → Type 0 = λ x. IssuesAll cs mid (Ok 0) x in
    let rest : P (all_acknowledged cs (life_then c life) mid) = all_issue cs (life_then c life) mid refl calm (omega (arith, few)) taken.1 in
    (life, on, Ok (life.receipts + 1), mid, first_issued c life b calm (omega (arith, few)) taken.0, inl (life.receipts + 1, refl, subst P (more_bench c cs life b) rest))

-- the disk refuses the one after those that are acknowledged
pub all_but : (done : List Change) (c : Change) (later : List Change) (life : BenchLife) (b : Bench) (n : ℕ) (new : Bench) → b.power ≡ Some life → life.doubt ≡ None → life.receipts + length done < 4096 → AreTaken (done ++ c ∷ later) life.now
    → Writes None c (life_with done life) (all_acknowledged done life b) (Err n) new → IssuesAll (done ++ c ∷ later) b (Err n) new
all_but [] c later life b n new on calm few taken refuses =
    let P : BenchLife → Type 0 = λ l. Writes None c l (all_acknowledged [] life b) (Err n) new in
    let Q : Bench → Type 0 = λ x. Writes None c life x (Err n) new in
    let R : Option ℕ → Type 0 = λ r. Writes r c life b (Err n) new in
    let S : Option Change → Type 0 = λ d. IssuedBy d c life b (Err n) new in
    let here : R None = subst Q (no_bench life b on) (subst P (no_life life) refuses) in
    (life, on, Err n, new, subst S (sym calm) (inr (omega (arith, few), subst R (sym taken.0) here)), inr (n, refl, refl, refl))
all_but (d ∷ done) c later life b n new on calm few taken refuses =
    let mid : Bench = acknowledged d life b in
    let P : BenchLife → Type 0 = λ l. Writes None c l (all_acknowledged (d ∷ done) life b) (Err n) new in
    let Q : Bench → Type 0 = λ x. Writes None c (life_with done (life_then d life)) x (Err n) new in
    let there : Q (all_acknowledged done (life_then d life) mid) = subst Q (sym (more_bench d done life b)) (subst P (sym (more_life d done life)) refuses) in
    let rest : IssuesAll (done ++ c ∷ later) mid (Err n) new = all_but done c later (life_then d life) mid n new refl calm (omega (arith, few)) taken.1 there in
    (life, on, Ok (life.receipts + 1), mid, first_issued d life b calm (omega (arith, few)) taken.0, inl (life.receipts + 1, refl, rest))

-- the one is acknowledged, or the disk failed
abbrev Acknowledged : Change → BenchLife → Bench → Result ℕ ℕ → Bench → Type 0
Acknowledged c life b o new = (o ≡ Ok (life.receipts + 1)) × (new ≡ acknowledged c life b)

abbrev FailedIn : Result ℕ ℕ → Bench → Type 0
FailedIn o new = DiskHasFailed new × ((n : ℕ) × (o ≡ Err n))

writes_or_failed : (c : Change) (life : BenchLife) (b : Bench) (o : Result ℕ ℕ) (new : Bench) → Writes None c life b o new → Acknowledged c life b o new ⊎ FailedIn o new
writes_or_failed c life b o new (inl w) = inl w
writes_or_failed c life b o new (inr (inl w)) = inr (fails b new w.1, (5, w.0))
writes_or_failed c life b o new (inr (inr w)) = inr (fails (in_doubt c life b) new w.1, (6, w.0))

issued_or_failed : (c : Change) (life : BenchLife) (b : Bench) (o : Result ℕ ℕ) (new : Bench) → life.receipts < 4096 → refusal_of life.now c ≡ None → IssuedBy None c life b o new → Acknowledged c life b o new ⊎ FailedIn o new
issued_or_failed c life b o new few table (inl full) = absurd (omega (arith, few, full.0))
issued_or_failed c life b o new few table (inr w) = let Q : Option ℕ → Type 0 = λ r. Writes r c life b o new in writes_or_failed c life b o new (subst Q table w.1)

pub all_or_failed : (cs : List Change) (life : BenchLife) (b : Bench) (o : Result ℕ ℕ) (new : Bench) → b.power ≡ Some life → life.doubt ≡ None → life.receipts + length cs ≤ 4096 → AreTaken cs life.now → IssuesAll cs b o new → (o ≡ Ok 0) ⊎ DiskHasFailed new
all_or_failed [] life b o new on calm few taken h = inl h.0
all_or_failed (c ∷ cs) life b o new on calm few taken (other, also, first, mid, i, rest) =
    let L : BenchLife → Type 0 = λ l. Issued c l b first mid in
    let P : Option Change → Type 0 = λ d. IssuedBy d c life b first mid in
    let here : P None = subst P calm (subst L (some_inj life other b.power on also) i) in
    by (issued_or_failed c life b first mid (omega (arith, few)) taken.0 here) rest (λ is more. all_or_failed cs (life_then c life) mid o new (ap (λ (m : Bench). m.power) is) calm (omega (arith, few)) taken.1 more)
  where
    by : Acknowledged c life b first mid ⊎ FailedIn first mid → ((n : ℕ) × (first ≡ Ok n) × IssuesAll cs mid o new) ⊎ ((n : ℕ) × (first ≡ Err n) × (o ≡ Err n) × (new ≡ mid))
        → (mid ≡ acknowledged c life b → IssuesAll cs mid o new → (o ≡ Ok 0) ⊎ DiskHasFailed new) → (o ≡ Ok 0) ⊎ DiskHasFailed new
    by (inl did) (inl more) goes = goes did.1 more.2
    by (inl did) (inr stops) goes = not_both (life.receipts + 1) stops.0 first did.0 stops.1
    by (inr failed) (inl more) goes = not_both more.0 failed.1.0 first more.1 failed.1.1
    by (inr failed) (inr stops) goes = inr (subst DiskHasFailed (sym stops.3) failed.0)
