-- The clauses of the layers below, in the words that the bench's lemmas use.
use Rattle.std.proofs.Common.{◌≡◌, ◌≢◌, ◌⊎◌, ◌<◌, ℕ, ◌+◌, inl, inr, refl, sym, ◌∙◌, ap, subst, arith, [], ◌∷◌, ◌++◌, length, Some, None, Ok, true, false}
use Rattle.std.proofs.lemmas.List.{length-append}
use Rattle.board_model.specs.{Durable.{DurableState, Change, refusal_of, after, ends_life}, Shapes.Size, Views.number_of_refusal}
use Rattle.board_model.specs.declared.refusal.Refusal.{Refusal, TheVariants.{Device, Down, JournalFull}}
use Rattle.disk.specs.{Facts.{Facts, Failed}, FaultState.{FaultState, Cause}}
use Rattle.store.specs.{Lives.{Life, now_of, Refused, Applied}, Opens.{CausedRefusal, FormatRefused, OpenRefused}}
use Rattle.board.proofs.Issued.{fold_more}
use Rattle.bench_report.specs.Views.{IsLife}

-- a call that answered 5 failed for a cause, and one that answered neither 5 nor 6 did not
pub struck : (e : Refusal) (m n : FaultState) → CausedRefusal m e n → e ≡ Device → Cause m n
struck Device m n h is = h
struck e m n h is = absurd (let no : ⊥ = cc in no)

pub downed : (e : Refusal) (m n : FaultState) → CausedRefusal m e n → e ≡ Down → Cause m n
downed Down m n h is = h
downed e m n h is = absurd (let no : ⊥ = cc in no)

pub calm : (e : Refusal) (m n : FaultState) → CausedRefusal m e n → e ≢ Down → e ≢ Device → n ≡ m
calm Device m n h up is = absurd (is refl)
calm Down m n h up is = absurd (up refl)
calm e m n h up is = h

-- the command may reach the disk: fewer than 4,096 were acknowledged, and the table doesn't refuse it
abbrev pub Reaches : DurableState → ℕ → Change → Type 0
Reaches now count c = (count < 4096) × (refusal_of now c ≡ None)

-- what an acknowledged command did, from a life that is seen as `now` after `count` commands with none in
-- doubt
abbrev pub Acknowledges : DurableState → ℕ → Change → ℕ → Life → Type 0
Acknowledges now count c n new = Reaches now count c × (n ≡ count + 1) × IsLife new (after now c) (count + 1) None

-- the same of one that was refused
abbrev pub Refuses : DurableState → ℕ → Change → Refusal → Life → Type 0
Refuses now count c e new =
    ((e ≡ Device) × Reaches now count c × IsLife new now count None)
    ⊎ ((e ≡ Down) × Reaches now count c × IsLife new now count (Some c))
    ⊎ ((e ≡ JournalFull) × (count ≡ 4096) × IsLife new now count None)
    ⊎ ((refusal_of now c ≡ Some (number_of_refusal e)) × (count < 4096) × IsLife new now count None)

module _ (now : DurableState) (count : ℕ) (c : Change) (old new : Life) (is : IsLife old now count None) where
  reaches : (length old.journal < 4096) → (refusal_of (now_of old) c ≡ None) → Reaches now count c
  reaches few table = let P : DurableState → Type 0 = λ s. refusal_of s c ≡ None in (omega (arith, few, is.1), subst P is.0 table)

  again : new ≡ old → IsLife new now count None
  again e = let P : Life → Type 0 = λ l. IsLife l now count None in subst P (sym e) is

  pub acknowledged : ends_life c ≡ false → (n : ℕ) → Applied old c (Ok n) new → Acknowledges now count c n new
  acknowledged goes n h =
      let next : Life = record old { journal = old.journal ++ c ∷ []; over = ends_life c } in
      let P : Life → Type 0 = λ l. IsLife l (after now c) (count + 1) None in
      let long : length (old.journal ++ c ∷ []) ≡ count + 1 = length-append old.journal (c ∷ []) ∙ ap (λ k. k + 1) is.1 in
      let after_it : IsLife next (after now c) (count + 1) None = (fold_more old.found old.journal (c ∷ []) ∙ ap (λ s. after s c) is.0, long, is.2, goes) in
      (reaches h.0.1 h.0.2, h.1 ∙ ap (λ k. k + 1) is.1, subst P (sym h.2) after_it)

  -- the same of a command that may end the life
  pub ended : (n : ℕ) → Applied old c (Ok n) new → Reaches now count c × (n ≡ count + 1) × (now_of new ≡ after now c) × (new.doubt ≡ None)
  ended n h =
      let next : Life = record old { journal = old.journal ++ c ∷ []; over = ends_life c } in
      let P : Life → Type 0 = λ l. (now_of l ≡ after now c) × (l.doubt ≡ None) in
      let is_next : (now_of next ≡ after now c) × (next.doubt ≡ None) = (fold_more old.found old.journal (c ∷ []) ∙ ap (λ s. after s c) is.0, is.2) in
      let did = subst P (sym h.2) is_next in
      (reaches h.0.1 h.0.2, h.1 ∙ ap (λ k. k + 1) is.1, did.0, did.1)

  pub refused : (e : Refusal) → Refused old c e new → Refuses now count c e new
  refused e (inl h) = inl (h.0, reaches h.1.1 h.1.2, again h.2)
  refused e (inr (inl h)) =
      let P : Life → Type 0 = λ l. IsLife l now count (Some c) in
      inr (inl (h.0, reaches h.1.1 h.1.2, subst P (sym h.2) (is.0, is.1, refl, is.3)))
  refused e (inr (inr (inl h))) = absurd (let never : true ≡ false = sym h.1 ∙ is.3 in let no : ⊥ = cc in no)
  refused e (inr (inr (inr (inl h)))) = inr (inr (inl (h.0, sym is.1 ∙ h.2, again h.3)))
  refused e (inr (inr (inr (inr h)))) =
      let P : DurableState → Type 0 = λ s. refusal_of s c ≡ Some (number_of_refusal e) in
      inr (inr (inr (subst P is.0 h.0, omega (arith, h.2, is.1), again h.3)))

-- a format or an open that answered 5 counted a failure, and neither answers 6
pub failed_format : (disk : Facts) (size : Size) (e : Refusal) (new : Facts) → FormatRefused disk size e new → e ≡ Device → Failed disk.failures new.failures
failed_format disk size Device new h is = h.1
failed_format disk size e new h is = absurd (let no : ⊥ = cc in no)

pub no_down : (disk : Facts) (size : Size) (e : Refusal) (new : Facts) → FormatRefused disk size e new → e ≢ Down
no_down disk size Down new h is = absurd h
no_down disk size e new h is = (let no : ⊥ = cc in no)

pub failed_open : (disk : Facts) (e : Refusal) (new : Facts) → OpenRefused disk e new → e ≡ Device → Failed disk.failures new.failures
failed_open disk Device new h is = h
failed_open disk e new h is = absurd (let no : ⊥ = cc in no)

pub never_down : (disk : Facts) (e : Refusal) (new : Facts) → OpenRefused disk e new → e ≢ Down
never_down disk Down new h is = absurd h
never_down disk e new h is = (let no : ⊥ = cc in no)
