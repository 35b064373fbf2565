-- What is seen of a command and of a suspension that found no other in doubt.
use Rattle.std.proofs.Common.{◌≡◌, ◌∙◌, ◌+◌, ◌<◌, ℕ, List, Some, None, Result, Ok, Err, MatchResult, inl, inr, refl, sym, ap, subst, length, true, false}
use Rattle.board_model.specs.{Durable.{DurableState, Change, Suspend, refusal_of}, Shapes.Size, Views.number_of_refusal}
use Rattle.board_model.{proofs.Table.of_table, specs.declared.refusal.Refusal.Refusal}
use Rattle.board_model.specs.declared.refusal.Refusal.TheVariants.{NotFormatted, AlreadyFormatted, BadShape, BadRecord, Device, Down, Over, NoImage, BadSlot, JournalFull, Memory, SerialsSpent, BadImage, BadScript, ImageThere, Output, NotPlain, NotDozing, BadTries, NoTrial}
use Rattle.disk.specs.FaultState.{FaultState}
use Rattle.store.specs.{Answers.StoreView, Follows.FitsBoard, Lives.{now_of, Refused, Applied, SuspendRefused, SuspendApplied, Suspended}}
use Rattle.store.specs.Opens.{CausedRefusal}
use Rattle.theorem.specs.{Story.{Now, acknowledged, Takes, Fits, Checks, Commands}, Told.{IsOn, seen_of}}
use Rattle.theorem.{specs.declared.asks.Seen.TheVariants.Denied, proofs.Stays.{moved, still, takes, goes, made, doubted, reseen}}

-- what the table refuses has no cause on the disk
table_calm : (s : DurableState) (c : Change) (e : Refusal) (m n : FaultState) → refusal_of s c ≡ Some (number_of_refusal e) → CausedRefusal m e n → n ≡ m
table_calm s c Device m n is why = absurd (let of : false ≡ true = of_table s c 5 is in cc)
table_calm s c Down m n is why = absurd (let of : false ≡ true = of_table s c 6 is in cc)
table_calm s c e m n is why = why

-- and what it refuses is refused by its number alone
by_table : (size : Size) (w : Now) (c : Change) (e : Refusal) → Takes w → Fits size c → refusal_of w.state c ≡ Some (number_of_refusal e) → Checks size w c e
by_table size w c NotFormatted takes fits is = absurd (let of : false ≡ true = of_table w.state c 1 is in cc)
by_table size w c AlreadyFormatted takes fits is = absurd (let of : false ≡ true = of_table w.state c 2 is in cc)
by_table size w c BadShape takes fits is = absurd (let of : false ≡ true = of_table w.state c 3 is in cc)
by_table size w c BadRecord takes fits is = absurd (let of : false ≡ true = of_table w.state c 4 is in cc)
by_table size w c Device takes fits is = absurd (let of : false ≡ true = of_table w.state c 5 is in cc)
by_table size w c Down takes fits is = absurd (let of : false ≡ true = of_table w.state c 6 is in cc)
by_table size w c Over takes fits is = absurd (let of : false ≡ true = of_table w.state c 7 is in cc)
by_table size w c JournalFull takes fits is = absurd (let of : false ≡ true = of_table w.state c 10 is in cc)
by_table size w c Memory takes fits is = absurd (let of : false ≡ true = of_table w.state c 11 is in cc)
by_table size w c BadImage takes fits is = absurd (let of : false ≡ true = of_table w.state c 13 is in cc)
by_table size w c (BadScript line) takes fits is = absurd (let of : false ≡ true = of_table w.state c 14 is in cc)
by_table size w c ImageThere takes fits is = absurd (let of : false ≡ true = of_table w.state c 15 is in cc)
by_table size w c Output takes fits is = absurd (let of : false ≡ true = of_table w.state c 16 is in cc)
by_table size w c NotPlain takes fits is = absurd (let of : false ≡ true = of_table w.state c 17 is in cc)
by_table size w c NotDozing takes fits is = absurd (let of : false ≡ true = of_table w.state c 18 is in cc)
by_table size w c NoImage takes fits is = (takes, fits, is)
by_table size w c BadSlot takes fits is = (takes, fits, is)
by_table size w c SerialsSpent takes fits is = (takes, fits, is)
by_table size w c BadTries takes fits is = (takes, fits, is)
by_table size w c NoTrial takes fits is = (takes, fits, is)

abbrev Seen_in : Size → Now → Change → Refusal → StoreView → Type 0
Seen_in size w c e new = (v : Now) × Commands size w c (Denied e) v × IsOn size v new

module _ (size : Size) (w : Now) (old new : StoreView) (c : Change) (on : IsOn size w old) (calm : old.life.doubt ≡ None) (board : new.size ≡ old.size) where
  caused : (e : Refusal) → CausedRefusal old.fault_state e new.fault_state → (f : Refusal) → e ≡ f → CausedRefusal w.faults f new.fault_state
  caused e why f is = subst (λ (m : FaultState). CausedRefusal m f new.fault_state) (sym on.faults) (subst (λ (x : Refusal). CausedRefusal old.fault_state x new.fault_state) is why)

  calmly : (e : Refusal) → CausedRefusal old.fault_state e new.fault_state → (f : Refusal) → e ≡ f → CausedRefusal old.fault_state f new.fault_state
  calmly e why f is = subst (λ (x : Refusal). CausedRefusal old.fault_state x new.fault_state) is why

  as_said : (e f : Refusal) → e ≡ f → Seen_in size w c f new → Seen_in size w c e new
  as_said e f is seen = subst (λ (x : Refusal). Seen_in size w c x new) (sym is) seen

  -- it was checked, and nothing is done
  pub over : (e : Refusal) → e ≡ Over → CausedRefusal old.fault_state e new.fault_state → old.life.over ≡ true → new.life ≡ old.life → Seen_in size w c e new
  over e is why ended life = as_said e Over is (w, inl ((on.doubt ∙ calm, on.over ∙ ended), refl), still size w old new on board life (calmly e why Over is))

  pub full : (e : Refusal) → e ≡ JournalFull → CausedRefusal old.fault_state e new.fault_state → old.life.over ≡ false → length old.life.journal ≡ 4096 → new.life ≡ old.life → Seen_in size w c e new
  full e is why going many life =
      as_said e JournalFull is (w, inl ((on.doubt ∙ calm, on.over ∙ going, on.receipts ∙ many), refl), still size w old new on board life (calmly e why JournalFull is))

  pub unfit : (e : Refusal) → e ≡ BadShape → CausedRefusal old.fault_state e new.fault_state → (Fits size c → ⊥) → old.life.over ≡ false → length old.life.journal < 4096 → new.life ≡ old.life → Seen_in size w c e new
  unfit e is why not going few life =
      as_said e BadShape is (w, inl (((on.doubt ∙ calm, on.over ∙ going, subst (λ (n : ℕ). n < 4096) (sym on.receipts) few), not), refl), still size w old new on board life (calmly e why BadShape is))

  module _ (fits : Fits size c) where
    pub denied : (e : Refusal) → Refused old.life c e new.life → CausedRefusal old.fault_state e new.fault_state → Seen_in size w c e new
    denied e (inl did) why = as_said e Device did.0 (
      record w { faults = new.fault_state },
      inr (goes size w old new on board c fits calm did.1, (caused e why Device did.0, refl)),
      moved size w old new on board did.2,
    )
    denied e (inr (inl did)) why = as_said e Down did.0 (
      record w { doubt = Some c; faults = new.fault_state },
      inr (goes size w old new on board c fits calm did.1, (caused e why Down did.0, refl)),
      doubted size w old new on board c fits calm did.2,
    )
    denied e (inr (inr (inl did))) why = over e did.0 why did.1 did.2
    denied e (inr (inr (inr (inl did)))) why = full e did.0 why did.1 did.2 did.3
    denied e (inr (inr (inr (inr did)))) why = (
      w,
      inl (by_table size w c e (takes size w old new on board c fits calm did.1 did.2) fits (ap (λ (s : DurableState). refusal_of s c) on.state ∙ did.0), refl),
      still size w old new on board did.3 (table_calm (now_of old.life) c e old.fault_state new.fault_state did.0 why),
    )

    pub issued : (r : Result ℕ Refusal) → Applied old.life c r new.life → MatchResult r (λ n. new.fault_state ≡ old.fault_state) (λ e. CausedRefusal old.fault_state e new.fault_state)
        → (v : Now) × Commands size w c (seen_of r) v × IsOn size v new
    issued (Ok n) did same = (
      acknowledged w c,
      (goes size w old new on board c fits calm did.0, did.1 ∙ ap (λ (m : ℕ). m + 1) (sym on.receipts), refl),
      made size w old new on board c fits calm did.2 same,
    )
    issued (Err e) did why = denied e did why

module _ (size : Size) (w : Now) (old new : StoreView) (hart address opaque : ℕ) (memory : List ℕ) (on : IsOn size w old) (calm : old.life.doubt ≡ None) (board : new.size ≡ old.size) where
  abbrev suspension : Change
  suspension = Suspend hart address opaque memory

  fits_here : FitsBoard old.size memory hart address → FitsBoard size memory hart address
  fits_here fits = subst (λ (z : Size). FitsBoard z memory hart address) on.board fits

  fits_there : FitsBoard size memory hart address → FitsBoard old.size memory hart address
  fits_there fits = subst (λ (z : Size). FitsBoard z memory hart address) (sym on.board) fits

  abbrev Answer : Result ℕ Refusal → Type 0
  Answer r = (v : Now) × Commands size w suspension (seen_of r) v × IsOn size v new

  refused : (e : Refusal) → SuspendRefused (FitsBoard old.size memory hart address) old.life suspension e new.life → CausedRefusal old.fault_state e new.fault_state → Answer (Err e)
  refused e (inl did) why = denied size w old new suspension on calm board (fits_here did.0) e did.1 why
  refused e (inr (inl did)) why = unfit size w old new suspension on calm board e did.0 why (λ fits. did.1 (fits_there fits)) did.2 did.3 did.4
  refused e (inr (inr (inl did))) why =
      subst (λ (x : Refusal). Answer (Err x)) (sym did.0) (
        w,
        inr (goes size w old new on board suspension (fits_here did.1) calm did.2, refl),
        still size w old new on board did.3 (subst (λ (x : Refusal). CausedRefusal old.fault_state x new.fault_state) did.0 why),
      )
  refused e (inr (inr (inr (inl did)))) why = over size w old new suspension on calm board e did.0 why did.1 did.2
  refused e (inr (inr (inr (inr did)))) why = full size w old new suspension on calm board e did.0 why did.1 did.2 did.3

  told : (r : Result ℕ Refusal) → SuspendApplied (FitsBoard old.size memory hart address) old.life suspension r new.life
      → MatchResult r (λ n. new.fault_state ≡ old.fault_state) (λ e. CausedRefusal old.fault_state e new.fault_state) → Answer r
  told (Ok n) did same = issued size w old new suspension on calm board (fits_here did.0) (Ok n) did.1 same
  told (Err e) did why = refused e did why

pub suspended : (size : Size) (w : Now) (old new : StoreView) (hart address opaque : ℕ) (memory : List ℕ) → IsOn size w old → old.life.doubt ≡ None → new.size ≡ old.size → (r : Result ℕ Refusal)
    → Suspended (FitsBoard old.size memory hart address) old.life (Suspend hart address opaque memory) r new.life
    → MatchResult r (λ n. new.fault_state ≡ old.fault_state) (λ e. CausedRefusal old.fault_state e new.fault_state)
    → (v : Now) × Commands size w (Suspend hart address opaque memory) (seen_of r) v × IsOn size v new
suspended size w old new hart address opaque memory on calm board r did why =
    told size w (record old { life = record old.life { found = new.life.found } }) new hart address opaque memory (reseen size w old new.life.found on did.reseen) calm board r did.told why
