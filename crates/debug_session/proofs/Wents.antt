-- Turns that became part of a history, one command after another.
use Rattle.std.proofs.Common.{◌≡◌, ◌⊎◌, ⊎_elim, true≢false, ◌≤◌, ◌+◌, ◌-◌, inl, inr, ℕ, zero, suc, Bool, true, false, List, [], ◌∷◌, ◌++◌, Option, Some, None, length, refl, sym, ap, ◌∙◌, subst, append_assoc, arith}
use Rattle.std.{specs.Prelude.{All, replicate}, proofs.lemmas.List.{append-nil, length-append, length-replicate}}
use Rattle.std.proofs.lemmas.List.Elements.{All-append, All-cons, All-head, All-nil, All-tail}
use Rattle.board_model.specs.Shapes.{Size}
use Rattle.machine.specs.Machine.{Machine}
use Rattle.script_lang.specs.declared.line.Line.{Line}
use Rattle.script_lang.specs.declared.line.Line.TheVariants as lines
use Rattle.debug_session.specs.{Pasts.moments, declared.timeline.Timeline.Timeline, Passes.{GoesTo, Passes}, Ats.{IsAt, MadeTurns}}
use Rattle.debug_session.specs.{Lives.{HasHalted, machine_of, pc_in, stands_in}, declared.forth.RoundPart.RoundPart}
use Rattle.debug_session.specs.{declared.halts.HaltReason.HaltReason, Firsts.{Stretched, halt_after}, Withins.{HaltsBy, MadeOne}}
use Rattle.debug_session.specs.Steps.{EndsStep, IsStep, IsTurnOf, Went, halt_step}
use Rattle.bench_report.specs.{declared.rows.TurnRow.TurnRow, Rows.{IsWithin, is_off, made_in}, Bench.Bench}
use Rattle.bench_report.specs.declared.rows.TurnRow.TheVariants as rows
use Rattle.debug_session.specs.declared.halts.HaltReason.TheVariants as halts

-- none
pub went_none : (May : ℕ → Type 0) (size : Size) (t : Timeline) → IsAt size t → Went May 0 size t t
went_none May size t at = record {
  at = at;
  begins = refl;
  turns = [];
  grew = sym (append-nil (moments t.history));
  only = All-nil (IsTurnOf May);
  as_many = refl;
}

-- by harts that may run
may_turn : (A B : ℕ → Type 0) → ((h : ℕ) → A h → B h) → (line : Line) → IsTurnOf A line → IsTurnOf B line
may_turn A B may (lines.Turn h n) is = (is.0, may h is.1)
may_turn A B may line is = absurd is

may_all : (A B : ℕ → Type 0) → ((h : ℕ) → A h → B h) → (xs : List Line) → All (IsTurnOf A) xs → All (IsTurnOf B) xs
may_all A B may [] all = All-nil (IsTurnOf B)
may_all A B may (x ∷ xs) all = All-cons (IsTurnOf B) x xs (may_turn A B may x (All-head (IsTurnOf A) x xs all)) (may_all A B may xs (All-tail (IsTurnOf A) x xs all))

-- and then others
pub went_more : (May Next : ℕ → Type 0) (n k : ℕ) (size : Size) (first mid last : Timeline) → ((h : ℕ) → Next h → May h) → Went May n size first mid → Went Next k size mid last → Went May (n + k) size first last
went_more May Next n k size first mid last may one two = record {
  at = two.at;
  begins = two.begins ∙ one.begins;
  turns = one.turns ++ two.turns;
  grew = two.grew ∙ ap (λ (xs : List Line). xs ++ two.turns) one.grew ∙ append_assoc (moments first.history) one.turns two.turns;
  only = All-append (IsTurnOf May) one.turns two.turns one.only (may_all Next May may two.turns two.only);
  as_many = length-append one.turns two.turns ∙ ap (λ (x : ℕ). x + length two.turns) one.as_many ∙ ap (λ (x : ℕ). n + x) two.as_many;
}

-- ---- turns of one hart

-- one turn comes to any address
one_turn : (size : Size) (h : ℕ) (points : List ℕ) (row : TurnRow) (b new : Bench) → IsWithin 1 row → GoesTo size h points row b new → GoesTo size h [] row b new
one_turn size h points rows.Off b new within goes = goes
one_turn size h points (rows.Made n word) b new within (mid, passed, last) =
    let none : n - 1 ≡ 0 = omega (arith, within) in
    let P : ℕ → Type 0 = λ k. Passes size h points k b mid in
    let Q : ℕ → Type 0 = λ k. Passes size h [] k b mid in
    (mid, subst Q (sym none) (subst P none passed), last)
one_turn size h points (rows.Lost n) b new within (mid, passed, last) =
    let none : n - 1 ≡ 0 = omega (arith, within) in
    let P : ℕ → Type 0 = λ k. Passes size h points k b mid in
    let Q : ℕ → Type 0 = λ k. Passes size h [] k b mid in
    (mid, subst Q (sym none) (subst P none passed), last)

-- one turn, as a step
step_ends : (row : TurnRow) (rests : Bool) (pc : Option ℕ) (made : ℕ) (halt : Option HaltReason) → IsWithin 1 row → made ≡ made_in row → HaltsBy row rests pc halt → EndsStep row rests pc (halt_step halt made)
step_ends rows.Off true pc made halt within count by =
    let P : Option HaltReason → Type 0 = λ x. halt_step x made ≡ halts.Idle in
    let Q : ℕ → Type 0 = λ k. halt_step None k ≡ halts.Idle in
    subst P (sym by) (subst Q (sym count) refl)
step_ends rows.Off false pc made halt within count by = (ap (λ (x : Option HaltReason). halt_step x made) by.0, by.1)
step_ends (rows.Made n word) rests pc made None within count by = inl (stepped made (omega (arith, within, count)))
  where
    stepped : (k : ℕ) → k ≡ 1 → halt_step None k ≡ halts.Stepped
    stepped k is = let P : ℕ → Type 0 = λ x. halt_step None x ≡ halts.Stepped in subst P (sym is) refl
step_ends (rows.Made n word) rests pc made (Some halt) within count by = inr by
step_ends (rows.Lost n) rests pc made halt within count by = ap (λ (x : Option HaltReason). halt_step x made) by

pub step_of : (size : Size) (h : ℕ) (points : List ℕ) (part : RoundPart) (old new : Timeline) → MadeOne size h points part old new → IsStep size h (halt_step part.halt part.made) old new
step_of size h points part old new (row, turns, within, count, by) = (
  row,
  part.rests,
  within,
  record { moves = λ b left. (let did = turns.moves b left in (did.0, did.1, did.2, did.3, one_turn size h points row b did.0 within did.4)); grew = turns.grew; busy = turns.busy },
  step_ends row part.rests (pc_in h (machine_of new.bench)) part.made part.halt within count by,
)

turns_of_one : (h n : ℕ) → All (IsTurnOf (λ x. x ≡ h)) (replicate n (lines.Turn h 1))
turns_of_one h zero = All-nil (IsTurnOf (λ x. x ≡ h))
turns_of_one h (suc n) = All-cons (IsTurnOf (λ x. x ≡ h)) (lines.Turn h 1) (replicate n (lines.Turn h 1)) (refl, refl) (turns_of_one h n)

pub went_of : (size : Size) (h most made : ℕ) (points : List ℕ) (rests : Bool) (halt : Option HaltReason) (old new : Timeline) → IsAt size new → new.begins ≡ old.begins → Stretched size h most points made rests halt old new
    → Went (λ x. x ≡ h) made size old new
went_of size h most made points rests halt old new at begins (row, made_turns, count, within, why, is) = record {
  at = at;
  begins = begins;
  turns = replicate (made_in row) (lines.Turn h 1);
  grew = made_turns.grew;
  only = turns_of_one h (made_in row);
  as_many = length-replicate (made_in row) (lines.Turn h 1) ∙ sym count;
}

pub few_of : (size : Size) (h most made : ℕ) (points : List ℕ) (rests : Bool) (halt : Option HaltReason) (old new : Timeline) → Stretched size h most points made rests halt old new
    → made ≤ most
few_of size h most made points rests halt old new (row, turns, e, within, why, is) = few row e within
  where
    few : (r : TurnRow) → made ≡ made_in r → IsWithin most r → made ≤ most
    few rows.Off e within = omega (arith, e)
    few (rows.Made n word) e within = omega (arith, e, within)
    few (rows.Lost n) e within = omega (arith, e, within)

-- one turn more at most
pub step_more : (h done made : ℕ) (size : Size) (first mid last : Timeline) → (n : ℕ) × (n ≤ done) × Went (λ x. x ≡ h) n size first mid → made ≤ 1 → Went (λ x. x ≡ h) made size mid last
    → (n : ℕ) × (n ≤ done + 1) × Went (λ x. x ≡ h) n size first last
step_more h done made size first mid last (n, few, one) more two =
    (n + made, omega (arith, few, more), went_more (λ x. x ≡ h) (λ x. x ≡ h) n made size first mid last (λ x e. e) one two)

pub few_went : (May : ℕ → Type 0) (k most : ℕ) (size : Size) (first last : Timeline) → k ≤ most → (n : ℕ) × (n ≤ k) × Went May n size first last → (n : ℕ) × (n ≤ most) × Went May n size first last
few_went May k most size first last less (n, few, went) = (n, omega (arith, less, few), went)

-- ---- parts of a round
pub left_went : (May : ℕ → Type 0) (left whole : ℕ) (size : Size) (first last : Timeline) → (n : ℕ) × (left + n ≡ whole) × Went May n size first last → (n : ℕ) × (n ≤ whole) × Went May n size first last
left_went May left whole size first last (n, e, went) = (n, omega (arith, e), went)

pub part_more : (May : ℕ → Type 0) (h was before left whole : ℕ) (size : Size) (first mid last : Timeline) → May h → before ≡ was → (n : ℕ) × (was + n ≡ whole) × Went May n size first mid
    → (k : ℕ) × (left + k ≡ before) × Went (λ x. x ≡ h) k size mid last → (n : ℕ) × (left + n ≡ whole) × Went May n size first last
part_more May h was before left whole size first mid last may same (n, e, one) (k, f, two) =
    (n + k, omega (arith, same, e, f), went_more May (λ x. x ≡ h) n k size first mid last (λ x is. subst May (sym is) may) one two)

-- ---- a row of turns that was made
pub left_same : (May : ℕ → Type 0) (now was whole : ℕ) (size : Size) (first last : Timeline) → now ≡ was → (n : ℕ) × (was + n ≡ whole) × Went May n size first last → (n : ℕ) × (now + n ≡ whole) × Went May n size first last
left_same May now was whole size first last same (n, e, went) = (n, omega (arith, same, e), went)

off_why : (h most : ℕ) (points : List ℕ) (row : TurnRow) (rests : Bool) (m : Option Machine) → (rests ≡ false → (made_in row ≡ most) ⊎ HasHalted h points row m) → is_off row ≡ true → rests ≡ false → (most ≡ 0) ⊎ (pc_in h m ≡ None)
off_why h most points rows.Off rests m why off e =
    ⊎_elim (λ all. inl (sym all)) (λ halted. ⊎_elim (λ x. absurd (true≢false x.0)) (λ none. inr none) halted) (why e)
off_why h most points (rows.Made n word) rests m why off e = absurd (true≢false (sym off))
off_why h most points (rows.Lost n) rests m why off e = absurd (true≢false (sym off))

pub stretched : (size : Size) (h most made : ℕ) (points : List ℕ) (row : TurnRow) (rests : Bool) (halt : Option HaltReason) (old new : Timeline) → MadeTurns size h points row rests old new → IsWithin most row
    → (rests ≡ false → (made_in row ≡ most) ⊎ HasHalted h points row (machine_of new.bench)) → made ≡ made_in row → halt ≡ halt_after row rests (stands_in points (pc_in h (machine_of new.bench)))
    → Stretched size h most points made rests halt old new
stretched size h most made points row rests halt old new turns within why count is =
    (row, turns, count, within, off_why h most points row rests (machine_of new.bench) why, is)
