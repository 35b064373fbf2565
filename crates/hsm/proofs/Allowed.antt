-- Each step of a seat keeps the rule.
use Rattle.std.proofs.Common.{List, ◌≡◌, ◌≢◌, ℕ, ◌+◌, ◌-◌, ◌*◌, ◌<◌, ◌≤◌, Bool, true, false, if◌then◌else◌, eqb, length, set, refl, sym, ap, ◌∙◌, subst, ⊎_elim, arith, eq-eqb, ne_eqb, get_or-set_same, get_or-set_other, ◌∷◌}
use Rattle.std.{specs.{Prelude.{slice_index, slice_set, bit_or, bit_and}, Int.bit_at}, proofs.lemmas.Nat.Bits.bit_at-lt}
use mathlib.Core.Logic.{dite}
use mathlib.Core.Option.{some, none}
use native.Mathlib.Decide.{ℕ_discrete}
use lib.ListN.{get_elem?}
use Rattle.atomic_table.specs.Table.{State, Act, step, keeps, stepped, carried_after, Valid, Allows}
use Rattle.hsm.specs.declared.view.{Stage.Stage, Action.{Action, TheVariants.{Claimed, Wrote, Armed, Looked, Read, Entered, Stopped}}}
use Rattle.hsm.specs.declared.view.Stage.TheVariants.{Out, Ready, Addressed, Loaded, Running, Claiming, Half, Stored, Suspended, Quiet}
use Rattle.hsm.{specs.Words.{HartSeatView, word_bits}, proofs.{Next.{place, kept_then, mine, under}, Whole.{tells, open_start}}}
use Rattle.hsm.specs.Rule.{IsSite, Grants, granted, claim_of, entry_of, is_pending, in_flight, Fits, Sound, HartInvariant, word_of, found_by, left_by, stands}
use Rattle.hsm.specs.Outcomes.{after_claim, after_look, Claims, PutsAddress, PutsOpaque, Arms, IsUpToDate, Looks, PollsOutside, ReadsAddress, ReadsOpaque, Enters, Stops}
use Rattle.hsm.proofs.Steps.{idle, claims, puts_address, puts_opaque, arms, enters, stops}
use Rattle.hsm.proofs.Words.{mask, same_after_load, arg_after, Any, But, leaves_bits, leaves_arguments, set_here, set_else, set_again, kept_bits, stop_claimed, stop_armed, stop_entered, stop_suspended, stop_else}
use Rattle.tallies.specs.Notes.{hart_notes, seat_notes, noted, SeatState, Notes}

granted_sites : (g : Grants) (t a o : ℕ) → IsSite a → ((k : ℕ) → IsSite (g.address k)) → (k : ℕ) → IsSite ((granted g t a o).address k)
granted_sites g t a o site all k = dite (ℕ_discrete k t)
    (λ is. subst (λ (b : Bool). IsSite (if b then a else g.address k)) (sym (eq-eqb k t is)) site)
    (λ ne. subst (λ (b : Bool). IsSite (if b then a else g.address k)) (sym (ne_eqb k t ne)) (all k))

zero_bit : (found i : ℕ) → bit_at found i ≢ 0 → bit_at found i ≡ 1
zero_bit found i ne = let l = bit_at-lt found i in omega arith

-- The seat may note this action of the hart, and the rule holds of what is then in the word i.
module _ (harts boot id : ℕ) (me : SeatState HartSeatView) (h : ℕ) where
  abbrev pub IsNoted : State (Unit {0}) HartSeatView → ℕ → ℕ → Stage → Action → Type 0
  IsNoted s i n st' x = (w : HartSeatView) × (a : Act (Unit {0})) × Valid s.homes me.1 a × HartInvariant harts boot (stepped s i n id me.1 w a) × Notes h st' x me (w, carried_after me.1 a)

  pub notes : (st st' : Stage) (x : Action) (i n : ℕ) (stood : stands h st me.0.harts) (s : State (Unit {0}) HartSeatView) (kept : HartInvariant harts boot s) → get_elem? s.views id ≡ some me.0
      → (g : Grants) → ((k : ℕ) → IsSite (g.address k)) → i < 1 + 2 * harts → word_of h x ≡ i → found_by x (slice_index s.words i) ≡ slice_index s.words i → left_by h x (slice_index s.words i) ≡ n
      → (let p = place (length kept.steps.log) h st me.0.harts stood in Sound harts (word_bits (slice_set s.words i n)) g (set s.views id (seat_notes (set me.0.harts p.k (hart_notes h st' (x ∷ p.actions) (p.q ∷ p.places))))))
      → IsNoted s i n st' x
  notes st st' x i n stood s kept at g sites lt word found left sound = (
    seat_notes (noted h st' (length kept.steps.log) x me.0.harts),
    keeps,
    tt,
    kept_then harts boot s kept id me.0.harts at h st st' (place (length kept.steps.log) h st me.0.harts stood) refl x i n me.1 g sites lt word found left sound,
    ((length kept.steps.log, refl), refl),
  )

module _ (harts boot slots id : ℕ) (me : SeatState HartSeatView) (h : ℕ) (small : harts ≤ 8) where
  pub claims_as : (t a o : ℕ) → t < harts → IsSite a → stands h Running me.0.harts → Allows (HartInvariant harts boot) slots id me 0 (λ n. bit_or n (mask t)) (Claims harts h t a o (step slots 0 (mask t) 0 none) me)
  claims_as t a o tl site stood s kept _ at _ =
      let ws = s.words in
      let found = slice_index ws 0 in
      let n = bit_or found (mask t) in
      let x = Claimed t a o found in
      let p = place (length kept.steps.log) h Running me.0.harts stood in
      let short : 0 < length ws = let e = kept.steps.wide in omega arith in
      let m' = word_bits (slice_set ws 0 n) in
      let r : IsNoted harts boot id me h s 0 n (after_claim t a o found) x =
      dite (ℕ_discrete (bit_at found t) 0)
      (λ clear.
      let st : after_claim t a o found ≡ Claiming t a o = rw clear refl in
      subst (λ (z : Stage). IsNoted harts boot id me h s 0 n z x) (sym st)
      (notes harts boot id me h Running (Claiming t a o) x 0 n stood s kept at (granted kept.grants t a o) (granted_sites kept.grants t a o site kept.sites) (omega arith) refl refl refl
      (claims harts (word_bits ws) kept.grants s.views kept.steps.seated kept.sound id me.0 at h m' p t a o found tl clear clear (set_here ws short t (omega arith))
      (leaves_bits harts ws n (But t) Any Any Any (But t) short small (λ i lt ne. set_else ws short t (omega arith) i ne) (λ k lt ne. ne) (λ k lt z e. omega arith) (λ k lt z e. omega arith) (λ k lt z e. omega arith)))))
      (λ taken.
      let st : after_claim t a o found ≡ Running = rw (ne_eqb (bit_at found t) 0 taken) refl in
      let was : bit_at found t ≡ 1 = zero_bit found t taken in
      let still = set_again ws short t (omega arith) was in
      subst (λ (z : Stage). IsNoted harts boot id me h s 0 n z x) (sym st)
      (notes harts boot id me h Running Running x 0 n stood s kept at kept.grants kept.sites (omega arith) refl refl refl
      (idle harts (word_bits ws) kept.grants s.views kept.steps.seated kept.sound id me.0 at h m' Running Running x p
      record {
        claimed = λ k lt. still k;
        armed = λ k lt. still (8 + k);
        entered = λ k lt. still (16 + k);
        suspended = λ k lt. still (24 + k);
        address = λ k lt. arg_after ws short n (1 + 2 * k) (omega arith);
        opaque = λ k lt. arg_after ws short n (2 + 2 * k) (omega arith);
      }
      (λ u. refl)
      (λ u b d. no_claim u b d was)
      (mine harts (word_bits ws) kept.grants s.views kept.steps.seated kept.sound id me.0 at h Running p)))) in
      (r.0, r.1, r.2, r.3, (r.4, tells harts boot s kept id me.0 at))
    where
      no_claim : (u b d : ℕ) → bit_at (slice_index s.words 0) t ≡ 1 → claim_of u b d (Claimed t a o (slice_index s.words 0)) ≡ 0
      no_claim u b d was = dite (ℕ_discrete t u)
          (λ is.
          let one : bit_at (slice_index s.words 0) u ≡ 1 = ap (bit_at (slice_index s.words 0)) (sym is) ∙ was in
          rw (eq-eqb t u is, one) (nil (eqb a b) (eqb o d)))
          (λ ne. rw (ne_eqb t u ne) refl)
        where
          nil : (p q : Bool) → ◌≡◌ {A = ℕ} (if p then (if q then 0 else 0) else 0) 0
          nil true true = refl
          nil true false = refl
          nil false q = refl

  -- a load that tells the hart something
  pub loads : (st st' : Stage) (x : Action) (i : ℕ) → i < 1 + 2 * harts → stands h st me.0.harts → ((t : ℕ) → in_flight t st' ≡ in_flight t st) → ((t a o : ℕ) → claim_of t a o x ≡ entry_of t a o x)
      → (s : State (Unit {0}) HartSeatView) → (kept : HartInvariant harts boot s) → get_elem? s.views id ≡ some me.0
      → word_of h x ≡ i → found_by x (slice_index s.words i) ≡ slice_index s.words i → left_by h x (slice_index s.words i) ≡ slice_index s.words i → Fits harts (word_bits s.words) kept.grants h st'
      → IsNoted harts boot id me h s i (slice_index s.words i) st' x
  loads st st' x i lt stood flies weighs s kept at word found left fit =
      notes harts boot id me h st st' x i (slice_index s.words i) stood s kept at kept.grants kept.sites lt word found left
      (idle harts (word_bits s.words) kept.grants s.views kept.steps.seated kept.sound id me.0 at h (word_bits (slice_set s.words i (slice_index s.words i))) st st' x (place (length kept.steps.log) h st me.0.harts stood)
      (same_after_load harts s.words i (let e = kept.steps.wide in omega arith)) flies weighs fit)

  fresh : (s : State (Unit {0}) HartSeatView) → HartInvariant harts boot s → get_elem? s.views id ≡ some me.0 → IsUpToDate (slice_index s.words 0) me.0.harts
  fresh s kept at = record {
    started = λ k stood. ⊎_elim
        (λ (r : stands k Running me.0.harts). runs k Running r (λ f. (f.0, f.1)))
        (λ (q : stands k Quiet me.0.harts). runs k Quiet q (λ f. (f.0, f.1)))
        stood;
    suspended = λ k stood.
        let f = fit k Suspended stood in
        let d = kept.sound.order k (un k Suspended stood) in
        (omega arith, f.0, f.1);
    outside = λ k stood. fit k Out stood;
  }
    where
      fit : (k : ℕ) (st : Stage) → stands k st me.0.harts → Fits harts (word_bits s.words) kept.grants k st
      fit k st stood = mine harts (word_bits s.words) kept.grants s.views kept.steps.seated kept.sound id me.0 at k st (place 0 k st me.0.harts stood)

      un : (k : ℕ) (st : Stage) → stands k st me.0.harts → k < harts
      un k st stood = under harts (word_bits s.words) kept.grants s.views kept.steps.seated kept.sound id me.0 at k st (place 0 k st me.0.harts stood)

      runs : (k : ℕ) (st : Stage) → stands k st me.0.harts
          → (Fits harts (word_bits s.words) kept.grants k st → (bit_at (slice_index s.words 0) (16 + k) ≡ 1) × (bit_at (slice_index s.words 0) (24 + k) ≡ 0))
          → (bit_at (slice_index s.words 0) k ≡ 1) × (bit_at (slice_index s.words 0) (16 + k) ≡ 1) × (bit_at (slice_index s.words 0) (24 + k) ≡ 0)
      runs k st stood says =
          let b = says (fit k st stood) in
          let d = kept.sound.order k (un k st stood) in
          (omega arith, b.0, b.1)

  pub looks_as : (st : Stage) → stands h st me.0.harts → Allows (HartInvariant harts boot) slots id me 0 (λ n. n) (Looks harts h st (step slots 0 0 0 none) me)
  looks_as st stood s kept _ at _ =
      let p = place (length kept.steps.log) h st me.0.harts stood in
      let r = loads st st (Looked (slice_index s.words 0)) 0 (omega arith) stood (λ t. refl) (λ t a o. refl) s kept at refl refl refl (mine harts (word_bits s.words) kept.grants s.views kept.steps.seated kept.sound id me.0 at h st p) in
      (r.0, r.1, r.2, r.3, (r.4, fresh s kept at, tells harts boot s kept id me.0 at))

  pub looks_out_as : stands h Out me.0.harts → Allows (HartInvariant harts boot) slots id me 0 (λ n. n) (PollsOutside harts h (step slots 0 0 0 none) me)
  looks_out_as stood s kept _ at _ =
      let found = slice_index s.words 0 in
      let f = mine harts (word_bits s.words) kept.grants s.views kept.steps.seated kept.sound id me.0 at h Out (place (length kept.steps.log) h Out me.0.harts stood) in
      let r = loads Out (after_look h found) (Looked found) 0 (omega arith) stood (λ t. flies t found) (λ t a o. refl) s kept at refl refl refl (fit s kept f) in
      (r.0, r.1, r.2, r.3, (r.4, tells harts boot s kept id me.0 at))
    where
      flies : (t found : ℕ) → in_flight t (after_look h found) ≡ 0
      flies t found = go (eqb (bit_at found (8 + h)) 1) (eqb (bit_at found (16 + h)) 0)
        where
          go : (p q : Bool) → in_flight t (if p then (if q then Ready else Out) else Out) ≡ 0
          go true true = refl
          go true false = refl
          go false q = refl

      fit : (s : State (Unit {0}) HartSeatView) (kept : HartInvariant harts boot s) → bit_at (slice_index s.words 0) (16 + h) ≡ 0 → Fits harts (word_bits s.words) kept.grants h (after_look h (slice_index s.words 0))
      fit s kept out =
          let found = slice_index s.words 0 in
          dite (ℕ_discrete (bit_at found (8 + h)) 1)
          (λ ready. let st : after_look h found ≡ Ready = rw (ready, out) refl in subst (λ (z : Stage). Fits harts (word_bits s.words) kept.grants h z) (sym st) (ready, out))
          (λ not_yet. let st : after_look h found ≡ Out = rw (ne_eqb (bit_at found (8 + h)) 1 not_yet) refl in subst (λ (z : Stage). Fits harts (word_bits s.words) kept.grants h z) (sym st) out)

  pub reads_address_as : stands h Ready me.0.harts → h < harts → Allows (HartInvariant harts boot) slots id me (1 + 2 * h) (λ n. n) (ReadsAddress h (step slots (1 + 2 * h) 0 0 none) me)
  reads_address_as stood hl s kept _ at _ =
      let found = slice_index s.words (1 + 2 * h) in
      let f = mine harts (word_bits s.words) kept.grants s.views kept.steps.seated kept.sound id me.0 at h Ready (place (length kept.steps.log) h Ready me.0.harts stood) in
      let r = loads Ready (Addressed found) (Read (1 + 2 * h) found) (1 + 2 * h) (omega arith) stood (λ t. refl) (λ t a o. refl) s kept at refl refl refl (f.0, f.1, refl) in
      (r.0, r.1, r.2, r.3, (r.4, subst IsSite (sym (kept.sound.armed h hl f.0 f.1).0) (kept.sites h)))

  pub reads_opaque_as : (a : ℕ) → stands h (Addressed a) me.0.harts → h < harts → Allows (HartInvariant harts boot) slots id me (2 + 2 * h) (λ n. n) (ReadsOpaque h a (step slots (2 + 2 * h) 0 0 none) me)
  reads_opaque_as a stood hl s kept _ at _ =
      let found = slice_index s.words (2 + 2 * h) in
      let f = mine harts (word_bits s.words) kept.grants s.views kept.steps.seated kept.sound id me.0 at h (Addressed a) (place (length kept.steps.log) h (Addressed a) me.0.harts stood) in
      loads (Addressed a) (Loaded a found) (Read (2 + 2 * h) found) (2 + 2 * h) (omega arith) stood (λ t. refl) (λ t a o. refl) s kept at refl refl refl (f.0, f.1, f.2, refl)

  -- an argument word
  pub puts_address_as : (t a o : ℕ) → t < harts → stands h (Claiming t a o) me.0.harts → Allows (HartInvariant harts boot) slots id me (1 + 2 * t) (λ _. a) (λ _. PutsAddress h t a o (step slots (1 + 2 * t) a 0 none) me a)
  puts_address_as t a o tl stood s kept _ at _ =
      let i = 1 + 2 * t in
      let wide = kept.steps.wide in
      notes harts boot id me h (Claiming t a o) (Half t a o) (Wrote i a) i a stood s kept at kept.grants kept.sites (omega arith) refl refl refl
      (puts_address harts (word_bits s.words) kept.grants s.views kept.steps.seated kept.sound id me.0 at h (word_bits (slice_set s.words i a)) t a o i (place (length kept.steps.log) h (Claiming t a o) me.0.harts stood)
      (get_or-set_same s.words i a 0 (omega arith)) (leaves_arguments harts s.words a t i (omega arith) (λ k ne e. ne (omega arith)) (λ k ne e. omega arith)))

  pub puts_opaque_as : (t a o : ℕ) → t < harts → stands h (Half t a o) me.0.harts → Allows (HartInvariant harts boot) slots id me (2 + 2 * t) (λ _. o) (λ _. PutsOpaque h t a o (step slots (2 + 2 * t) o 0 none) me o)
  puts_opaque_as t a o tl stood s kept _ at _ =
      let i = 2 + 2 * t in
      let wide = kept.steps.wide in
      notes harts boot id me h (Half t a o) (Stored t a o) (Wrote i o) i o stood s kept at kept.grants kept.sites (omega arith) refl refl refl
      (puts_opaque harts (word_bits s.words) kept.grants s.views kept.steps.seated kept.sound id me.0 at h (word_bits (slice_set s.words i o)) t a o i (place (length kept.steps.log) h (Half t a o) me.0.harts stood)
      (get_or-set_other s.words i (1 + 2 * t) o 0 (λ e. omega arith)) (get_or-set_same s.words i o 0 (omega arith)) (leaves_arguments harts s.words o t i (omega arith) (λ k ne e. omega arith) (λ k ne e. ne (omega arith))))

  pub arms_as : (t a o : ℕ) → t < harts → stands h (Stored t a o) me.0.harts → Allows (HartInvariant harts boot) slots id me 0 (λ n. bit_or n (mask (8 + t))) (Arms h t (step slots 0 (mask (8 + t)) 0 none) me)
  arms_as t a o tl stood s kept _ at _ =
      let n = bit_or (slice_index s.words 0) (mask (8 + t)) in
      let short : 0 < length s.words = let e = kept.steps.wide in omega arith in
      notes harts boot id me h (Stored t a o) Running (Armed t) 0 n stood s kept at kept.grants kept.sites (omega arith) refl refl refl
      (arms harts (word_bits s.words) kept.grants s.views kept.steps.seated kept.sound id me.0 at h (word_bits (slice_set s.words 0 n)) t a o (place (length kept.steps.log) h (Stored t a o) me.0.harts stood) (set_here s.words short (8 + t) (omega arith))
      (leaves_bits harts s.words n Any (But t) Any Any (But (8 + t)) short small (λ i lt ne. set_else s.words short (8 + t) (omega arith) i ne)
      (λ k lt z e. omega arith) (λ k lt ne e. ne (omega arith)) (λ k lt z e. omega arith) (λ k lt z e. omega arith)))

  pub enters_as : (a o : ℕ) (ps : List ℕ) → h < harts → stands h (Loaded a o) me.0.harts → Allows (HartInvariant harts boot) slots id me 0 (λ n. bit_or n (mask (16 + h))) (Enters harts h a o ps (step slots 0 (mask (16 + h)) 0 none) me)
  enters_as a o ps hl stood s kept _ at _ =
      let n = bit_or (slice_index s.words 0) (mask (16 + h)) in
      let short : 0 < length s.words = let e = kept.steps.wide in omega arith in
      let r = notes harts boot id me h (Loaded a o) Running (Entered h a o ps) 0 n stood s kept at kept.grants kept.sites (omega arith) refl refl refl
      (enters harts (word_bits s.words) kept.grants s.views kept.steps.seated kept.sound id me.0 at h (word_bits (slice_set s.words 0 n)) a o ps (place (length kept.steps.log) h (Loaded a o) me.0.harts stood) (set_here s.words short (16 + h) (omega arith))
      (leaves_bits harts s.words n Any Any (But h) Any (But (16 + h)) short small (λ i lt ne. set_else s.words short (16 + h) (omega arith) i ne)
      (λ k lt z e. omega arith) (λ k lt z e. omega arith) (λ k lt ne e. ne (omega arith)) (λ k lt z e. omega arith))) in
      (r.0, r.1, r.2, r.3, (r.4, open_start harts boot s kept id me.0 at h a o hl pends))
    where
      pends : is_pending (word_bits s.words) kept.grants h a o ≡ 1
      pends =
          let g = kept.grants in
          let f = mine harts (word_bits s.words) g s.views kept.steps.seated kept.sound id me.0 at h (Loaded a o) (place 0 h (Loaded a o) me.0.harts stood) in
          let gr = kept.sound.armed h hl f.0 f.1 in
          let ga : g.address h ≡ a = sym gr.0 ∙ f.2 in
          let go : g.opaque h ≡ o = sym gr.1 ∙ f.3 in
          let ord = kept.sound.order h hl in
          let one : (word_bits s.words).claimed h - (word_bits s.words).entered h ≡ 1 = (let e = f.0 in let d = f.1 in omega arith) in
          rw (ga, go) (rw (eq-eqb a a refl, eq-eqb o o refl) one)

  pub stops_as : h < harts → stands h Running me.0.harts → Allows (HartInvariant harts boot) slots id me 0 (λ n. bit_and n (kept_bits h)) (Stops h (step slots 0 (kept_bits h) 0 none) me)
  stops_as hl stood s kept _ at _ =
      let ws = s.words in
      let n = bit_and (slice_index ws 0) (kept_bits h) in
      let short : 0 < length ws = let e = kept.steps.wide in omega arith in
      let below : h < 8 = omega arith in
      notes harts boot id me h Running Out (Stopped (slice_index ws 0)) 0 n stood s kept at kept.grants kept.sites (omega arith) refl refl refl
      (stops harts (word_bits ws) kept.grants s.views kept.steps.seated kept.sound id me.0 at h (word_bits (slice_set ws 0 n)) (slice_index ws 0) (place (length kept.steps.log) h Running me.0.harts stood)
      (stop_claimed ws short h below, stop_armed ws short h below, stop_entered ws short h below, stop_suspended ws short h below)
      (leaves_bits harts ws n (But h) (But h) (But h) (But h) (λ i. (i ≢ h) × (i ≢ 8 + h) × (i ≢ 16 + h) × (i ≢ 24 + h)) short small (λ i lt ne. stop_else ws short h below i lt ne.0 ne.1 ne.2 ne.3)
      (λ k lt ne. (ne, (λ e. omega arith), (λ e. omega arith), (λ e. omega arith))) (λ k lt ne. ((λ e. omega arith), (λ e. ne (omega arith)), (λ e. omega arith), (λ e. omega arith)))
      (λ k lt ne. ((λ e. omega arith), (λ e. omega arith), (λ e. ne (omega arith)), (λ e. omega arith))) (λ k lt ne. ((λ e. omega arith), (λ e. omega arith), (λ e. omega arith), (λ e. ne (omega arith))))))
