-- A step that keeps the rule of a table found what its word held, and is the newest of all.
use Rattle.std.proofs.Common.{◌≡◌, ◌≢◌, ℕ, zero, suc, ◌<◌, if◌then◌else◌, ◌==◌, List, [], ◌∷◌, length, set, refl, sym, ap, ◌∙◌, subst, arith}
use Rattle.std.specs.Prelude.{slice_index}
use mathlib.Core.Logic.{dite}
use mathlib.Core.Option.{some, some-injective, some-ne-none}
use native.Mathlib.Decide.{ℕ_discrete}
use lib.ListN.{get_elem?}
use Rattle.atomic_table.{specs.Table.State, proofs.Lists.set_else}
use Rattle.tallies.{specs.Logs.{Log, Reading, actions_in, log_places, placed, earlier, IsAmong, IsTrueLog, word_after}, proofs.Rules.under}
use Rattle.tallies.specs.{Notes.{hart_notes, seat_notes, seats, noted}, Rules.{IsLogged, StepsAreTrue, EarlierStepsStand, ChangesAreNoted}}
use Rattle.tallies.{specs.declared.view.{HartNotes.HartNotes, SeatNotes.SeatNotes}, proofs.Logs.{Same, More, one_log, newest, true_of}}
use Rattle.tallies.proofs.{Places.{placed_in, one_found}, Noted.{spot, Holder, holder}}

-- an entry that was written is there
put_at : {A : Type 0} (l : List A) (i : ℕ) (a b : A) → get_elem? l i ≡ some a → get_elem? (set l i b) i ≡ some b
put_at [] i a b e = absurd (some-ne-none a (sym e))
put_at (x ∷ xs) zero a b e = refl
put_at (x ∷ xs) (suc i) a b e = put_at xs i a b e

module _ {S D : Type 0} (r : Reading D) (first : ℕ → ℕ) (harts words : ℕ) where
  held : (s : State (Unit {0}) (SeatNotes S D)) → IsLogged r first harts words s → (k : ℕ) → k < harts → (v : HartNotes S D) × Holder k s.views v
  held s kept k lt = let one = kept.seated.once k lt in holder k s.views (omega arith)

  module _ (s s' : State (Unit {0}) (SeatNotes S D)) (kept : IsLogged r first harts words s) (kept' : IsLogged r first harts words s') where
    -- a hart whose view is as it was has the same steps in both logs
    same : (k : ℕ) → k < harts → ((v : HartNotes S D) → Holder k s.views v → Holder k s'.views v) → Same k kept.log kept'.log
    same k lt still =
        let a = held s kept k lt in
        let b = still a.0 a.1 in
        let p = kept.entered a.1.id a.1.c a.1.i a.0 a.1.seat a.1.there in
        let q = kept'.entered b.id b.c b.i a.0 b.seat b.there in
        subst (λ (n : ℕ). Same n kept.log kept'.log) a.1.own (sym q.0 ∙ p.0, sym q.1 ∙ p.1)

    pub step_true : (id h place : ℕ) (c : SeatNotes S D) (st : S) (x : D)
        → get_elem? s.views id ≡ some c → 0 < seats h c → r.word_of h x < words
        → get_elem? s'.views id ≡ some (seat_notes (noted h st place x c.harts))
        → ((j : ℕ) → j ≢ id → get_elem? s'.views j ≡ get_elem? s.views j)
        → (r.found_by x (slice_index s.words (r.word_of h x)) ≡ slice_index s.words (r.word_of h x))
        × ((t : ℕ) → t < words
        → slice_index s'.words t
        ≡ (if r.word_of h x == t then r.left_by h x (slice_index s.words t) else slice_index s.words t))
        × (place ≡ length kept.log) × (kept'.log ≡ (h, x) ∷ kept.log)
    step_true id h place c st x at acts lt_word grown still =
        let l = kept.log in
        let m = kept'.log in
        let p = spot h c.harts acts in
        let lt : h < harts = under harts s.views kept.seated id c at h acts in
        let new = hart_notes h st (x ∷ p.v.actions) (place ∷ p.v.places) in
        let c' = seat_notes (noted h st place x c.harts) in
        let written : c'.harts ≡ set c.harts p.k new = p.then_noted st place x in
        let there : get_elem? c'.harts p.k ≡ some new = ap (λ (vs : List (HartNotes S D)). get_elem? vs p.k) written ∙ put_at c.harts p.k p.v new p.there in
        let mine = kept.entered id c p.k p.v at p.there in
        let now = kept'.entered id c' p.k new grown there in
        let own : (ds : List D) → ds ≡ actions_in p.v.hart l → ds ≡ actions_in h l = λ ds e. e ∙ ap (λ (n : ℕ). actions_in n l) p.own in
        let places : (ps : List ℕ) → ps ≡ log_places p.v.hart l → ps ≡ log_places h l = λ ps e. e ∙ ap (λ (n : ℕ). log_places n l) p.own in
        let more : More h place x l m = (sym now.0 ∙ ap (λ (ds : List D). x ∷ ds) (own p.v.actions mine.0), sym now.1 ∙ ap (λ (ps : List ℕ). place ∷ ps) (places p.v.places mine.1)) in
        let others : (k : ℕ) → k < harts → k ≢ h → Same k l m = λ k lt_k ne. same k lt_k (λ v a. dite (ℕ_discrete a.id id)
        (λ is.
        let it : a.c ≡ c = some-injective a.c c (sym a.seat ∙ (ap (get_elem? s.views) is ∙ at)) in
        let was : get_elem? c.harts a.i ≡ some v = subst (λ (u : SeatNotes S D). get_elem? u.harts a.i ≡ some v) it a.there in
        let far : a.i ≢ p.k = λ e. ne (sym a.own ∙ (ap (λ (w : HartNotes S D). w.hart) (some-injective v p.v (sym was ∙ (ap (get_elem? c.harts) e ∙ p.there))) ∙ p.own)) in
        record { id = id; c = c'; i = a.i; seat = grown; there = ap (λ (vs : List (HartNotes S D)). get_elem? vs a.i) written ∙ (set_else c.harts p.k a.i new far ∙ was); own = a.own })
        (λ far. record { id = a.id; c = a.c; i = a.i; seat = still a.id far ∙ a.seat; there = a.there; own = a.own })) in
        let new_log = newest harts h place x lt l m (true_of r first harts l kept.is_true) (true_of r first harts m kept'.is_true) (more, others) in
        let truth = subst (λ (n : Log D). IsTrueLog r first harts n) new_log.0 kept'.is_true in (
          subst (λ (w : ℕ). r.found_by x w ≡ w) (sym (kept.left (r.word_of h x) lt_word)) truth.1,
          (λ t lt_t. kept'.left t lt_t ∙ (ap (word_after r first t) new_log.0 ∙ ap (λ (w : ℕ). if r.word_of h x == t then r.left_by h x w else w) (sym (kept.left t lt_t)))),
          new_log.1,
          new_log.0,
        )

    pub change_noted : ((j : ℕ) → get_elem? s'.views j ≡ get_elem? s.views j) → (t : ℕ) → t < words → slice_index s'.words t ≡ slice_index s.words t
    change_noted alike t lt =
        let log = one_log harts kept.log kept'.log (true_of r first harts kept.log kept.is_true) (true_of r first harts kept'.log kept'.is_true)
        (λ k lt_k. same k lt_k (λ v a. record { id = a.id; c = a.c; i = a.i; seat = alike a.id ∙ a.seat; there = a.there; own = a.own })) in
        kept'.left t lt ∙ (ap (word_after r first t) log ∙ sym (kept.left t lt))

  -- ---- earlier steps
  among : (views : List (SeatNotes S D)) (k : ℕ) (v : HartNotes S D) → Holder k views v → IsAmong (λ (c : SeatNotes S D). c.harts) views v
  among views k v a = record { id = a.id; c = a.c; k = a.i; seat = a.seat; there = a.there }

  -- the steps of a hart are those of the log
  steps_of : (s : State (Unit {0}) (SeatNotes S D)) (kept : IsLogged r first harts words s) (k : ℕ) (v : HartNotes S D) → IsAmong (λ (c : SeatNotes S D). c.harts) s.views v → v.hart ≡ k → placed v.actions v.places ≡ placed_in k kept.log
  steps_of s kept k v a own =
      let e = kept.entered a.id a.c a.k v a.seat a.there in
      ap (λ (ds : List D). placed ds v.places) e.0 ∙ (ap (placed (actions_in v.hart kept.log)) e.1 ∙ ap (λ (n : ℕ). placed_in n kept.log) own)

  -- ---- of each rule that keeps a log
  module _ (Rule : State (Unit {0}) (SeatNotes S D) → Type 0) (steps : (s : State (Unit {0}) (SeatNotes S D)) → Rule s → IsLogged r first harts words s) where
    pub steps_true : StepsAreTrue r words Rule (λ s kept. (steps s kept).log)
    steps_true s s' kept kept' = step_true s s' (steps s kept) (steps s' kept')

    pub changes_noted : ChangesAreNoted r words Rule
    changes_noted s s' kept kept' = change_noted s s' (steps s kept) (steps s' kept')

    pub earlier_stand : EarlierStepsStand r words Rule
    earlier_stand s s' rule rule' p same_before v v' i j x y a a' own got got' word =
        let kept = steps s rule in
        let kept' = steps s' rule' in
        one_found r first harts kept.log kept'.log kept.is_true kept'.is_true p v.hart i j x y
        (λ k lt.
        let b = held s kept k lt in
        let b' = held s' kept' k lt in
        let m = among s.views k b.0 b.1 in
        let m' = among s'.views k b'.0 b'.1 in
        ap (earlier p) (sym (steps_of s' kept' k b'.0 m' b'.1.own)) ∙ (same_before b.0 b'.0 m m' (b'.1.own ∙ sym b.1.own) ∙ ap (earlier p) (steps_of s kept k b.0 m b.1.own)))
        (ap (λ (xs : List (ℕ × D)). get_elem? xs i) (sym (steps_of s kept v.hart v a refl)) ∙ got)
        (ap (λ (xs : List (ℕ × D)). get_elem? xs j) (sym (steps_of s' kept' v.hart v' a' own)) ∙ got')
        word
