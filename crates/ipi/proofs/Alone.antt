-- What the calls are with the one seat of all harts.
use Rattle.std.proofs.Common.{◌≡◌, ◌≢◌, ◌⊎◌, ◌↔◌, ℕ, ◌+◌, ◌-◌, ◌%◌, ◌^◌, ◌<◌, ◌≤◌, Bool, true, false, not, true≢false, IsTrue, if◌then◌else◌, ◌==◌, eqb, refl, sym, ap, ◌∙◌, subst, ⊎_elim, inl, inr, arith, eq-eqb, ne_eqb, ◌/◌, div-add-mod'}
use Rattle.std.{specs.Int.bit_at, proofs.{lemmas.Nat.Bits.{bit_at-lt, bit_at_cat_low, bit_at_above, same_from_bits}, Math.Nat.mod-lt}}
use Rattle.std.proofs.Math.Pow.{pow_pos, pow-lt}
use mathlib.Core.Logic.{dite}
use native.Mathlib.Decide.{ℕ_discrete, dec_le}
use Rattle.tallies.{specs.{Sums.total, Notes.{seat_notes, is_of, seats, noted}}, proofs.Noted.{numbered, seats_noted}}
use Rattle.ipi.{specs.declared.view.IpiAction.{IpiAction, TheVariants.{Raised, Took, Looked}}, proofs.Keeps.weigh_noted}
use Rattle.ipi.specs.Ledger.{raise_of, take_of, raised, taken, HasNoted, HasEveryHart, InRange, PendingSeatView}
use Rattle.ipi.specs.Pairs.{IsPending, SameHarts, Shows, with_pair, without_target}
use Rattle.board_model.specs.HartSets.{Has}

module _ (harts by : ℕ) (c : PendingSeatView) (whole : HasEveryHart harts c) (lt : by < harts) where
  sits : 0 < seats by c
  sits = let w = whole by lt in omega arith

  raised_then : (p : ℕ) (x : IpiAction) (s t : ℕ) → raised s t (seat_notes (noted by tt p x c.harts)) ≡ raised s t c + (if by == s then raise_of s t x else 0)
  raised_then p x s t = weigh_noted s (raise_of s t) by p x c.harts sits

  taken_then : (p : ℕ) (x : IpiAction) (s t : ℕ) → taken s t (seat_notes (noted by tt p x c.harts)) ≡ taken s t c + (if by == t then take_of s x else 0)
  taken_then p x s t = weigh_noted t (take_of s) by p x c.harts sits

nothing : (b : Bool) → ◌≡◌ {A = ℕ} (if b then 0 else 0) 0
nothing true = refl
nothing false = refl

-- ---- the harts of the seat stay
pub same_harts : (by : ℕ) (x : IpiAction) (c c' : PendingSeatView) → HasNoted by x c.harts c'.harts → SameHarts c c'
same_harts by x c c' is = record {
  harts = numbered by tt x c.harts c'.harts is;
  each = λ h. ap (total (is_of h)) is.1 ∙ seats_noted h by tt is.0 x c.harts;
}

whole_still : (harts : ℕ) (c c' : PendingSeatView) → SameHarts c c' → HasEveryHart harts c → HasEveryHart harts c'
whole_still harts c c' same whole h lt = same.each h ∙ whole h lt

-- ---- tests
-- the bit of a hart that a set lacks is 0
pub is_clear : (b : Bool) (bit : ℕ) → bit < 2 → (IsTrue b ↔ (bit ≡ 1)) → IsTrue (not b) ↔ (bit ≡ 0)
is_clear true bit small is = ((λ t. absurd (true≢false (sym t))), (λ z. let one = is.0 refl in absurd (omega arith)))
is_clear false bit small is = ((λ _. dite (ℕ_discrete bit 1) (λ one. absurd (true≢false (sym (is.1 one)))) (λ ne. omega arith)), (λ _. refl))

-- a set that is not empty has a hart
pub has_some : (b : Bool) (set : ℕ) → (IsTrue b ↔ ((h : ℕ) → Has h set → ⊥)) → (b ≡ false → (h : ℕ) × Has h set) → IsTrue (not b) ↔ ((h : ℕ) × Has h set)
has_some true set none some = ((λ t. absurd (true≢false (sym t))), (λ w. absurd (none.0 refl w.0 w.1)))
has_some false set none some = ((λ _. some refl), (λ _. refl))

-- a test that is not true
is_not : (b c : Bool) → (IsTrue b ↔ (IsTrue c → ⊥)) → b ≡ not c
is_not true true e = absurd (e.0 refl refl)
is_not true false e = refl
is_not false true e = refl
is_not false false e = e.1 (λ f. true≢false (sym f))

-- ---- raise
module _ (harts by target found : ℕ) (c c' : PendingSeatView) (whole : HasEveryHart harts c) (lt : by < harts) (is : HasNoted by (Raised target found) c.harts c'.harts) (tells : raised by target c ≡ taken by target c + bit_at found by) where
  newly : (bit_at found by ≡ 0) ↔ (IsPending c by target → ⊥)
  newly = let bit = bit_at-lt found by in (
    (λ z p. omega arith),
    (λ none. dite (ℕ_discrete (bit_at found by) 0) (λ z. z) (λ n. absurd (none (omega arith)))),
  )

  raised_pairs : (s t : ℕ) → IsPending c' s t ↔ (IsPending c s t ⊎ ((s ≡ by) × (t ≡ target)))
  raised_pairs s t = subst (λ (d : PendingSeatView). IsPending d s t ↔ (IsPending c s t ⊎ ((s ≡ by) × (t ≡ target)))) (sym (ap seat_notes is.1)) (pairs found tells s t)
    where
      other : (found s t : ℕ) → ((s ≡ by) × (t ≡ target) → ⊥) → (if by == s then raise_of s t (Raised target found) else 0) ≡ 0
      other found s t apart = dite (ℕ_discrete s by)
          (λ e. dite (ℕ_discrete t target)
          (λ f. absurd (apart (e, f)))
          (λ n. rw (ne_eqb target t (λ x. n (sym x))) (nothing (eqb by s))))
          (λ n. rw (ne_eqb by s (λ x. n (sym x))) refl)

      here : (found s t : ℕ) → s ≡ by → t ≡ target → (if by == s then raise_of s t (Raised target found) else 0) ≡ 1 - bit_at found s
      here found s t e f = rw (eq-eqb by s (sym e), eq-eqb target t (sym f)) refl

      pairs : (found : ℕ) → raised by target c ≡ taken by target c + bit_at found by → (s t : ℕ) → IsPending (seat_notes (noted by tt is.0 (Raised target found) c.harts)) s t ↔ (IsPending c s t ⊎ ((s ≡ by) × (t ≡ target)))
      pairs found tells s t =
          let up = raised_then harts by c whole lt is.0 (Raised target found) s t in
          let same = taken_then harts by c whole lt is.0 (Raised target found) s t in
          let z = nothing (eqb by t) in
          let bit = bit_at-lt found s in
          dite (ℕ_discrete s by)
          (λ e. dite (ℕ_discrete t target)
          (λ f.
          let h = here found s t e f in
          let eq : raised s t c ≡ taken s t c + bit_at found s = subst (λ (n : ℕ). raised n t c ≡ taken n t c + bit_at found n) (sym e) (subst (λ (n : ℕ). raised by n c ≡ taken by n c + bit_at found by) (sym f) tells) in
          ((λ p. inr (e, f)), (λ q. omega arith)))
          (λ n. let o = other found s t (λ x. n x.1) in ((λ p. inl (omega arith)), (λ q. ⊎_elim (λ (p : IsPending c s t). omega arith) (λ (x : (s ≡ by) × (t ≡ target)). absurd (n x.1)) q))))
          (λ n. let o = other found s t (λ x. n x.0) in ((λ p. inl (omega arith)), (λ q. ⊎_elim (λ (p : IsPending c s t). omega arith) (λ (x : (s ≡ by) × (t ≡ target)). absurd (n x.0)) q)))

  pub raise_alone : (b : Bool) → (IsTrue b ↔ (bit_at found by ≡ 0)) → (pairs : ℕ → ℕ → Bool) → Shows harts c pairs → (b ≡ not (pairs by target)) × Shows harts c' (with_pair by target pairs)
  raise_alone b answers pairs shown = (
    is_not b (pairs by target)
        ((λ t p. newly.0 (answers.0 t) ((shown.1 by target).0 p)), (λ none. answers.1 (newly.1 (λ p. none ((shown.1 by target).1 p))))),
    (whole_still harts c c' (same_harts by (Raised target found) c c' is) whole, pair),
  )
    where
      pair : (s t : ℕ) → IsTrue (with_pair by target pairs s t) ↔ IsPending c' s t
      pair s t =
          let r = raised_pairs s t in
          let old = shown.1 s t in
          dite (ℕ_discrete s by)
          (λ e. dite (ℕ_discrete t target)
          (λ f. let it : with_pair by target pairs s t ≡ true = rw (eq-eqb s by e, eq-eqb t target f) refl in ((λ _. r.1 (inr (e, f))), (λ _. it)))
          (λ n.
          let it : with_pair by target pairs s t ≡ pairs s t = rw (eq-eqb s by e, ne_eqb t target n) refl in
          ((λ p. r.1 (inl (old.0 (sym it ∙ p)))), (λ q. it ∙ old.1 (⊎_elim (λ (p : IsPending c s t). p) (λ (x : (s ≡ by) × (t ≡ target)). absurd (n x.1)) (r.0 q))))))
          (λ n.
          let it : with_pair by target pairs s t ≡ pairs s t = rw (ne_eqb s by n) refl in
          ((λ p. r.1 (inl (old.0 (sym it ∙ p)))), (λ q. it ∙ old.1 (⊎_elim (λ (p : IsPending c s t). p) (λ (x : (s ≡ by) × (t ≡ target)). absurd (n x.0)) (r.0 q)))))

-- ---- take
module _ (harts by found : ℕ) (c c' : PendingSeatView) (whole : HasEveryHart harts c) (lt : by < harts) (is : HasNoted by (Took found) c.harts c'.harts) (tells : (sender : ℕ) → raised sender by c ≡ taken sender by c + bit_at found sender) where
  found_pairs : (s : ℕ) → Has s found ↔ IsPending c s by
  found_pairs s = let e = tells s in let bit = bit_at-lt found s in ((λ one. omega arith), (λ p. omega arith))

  taken_pairs : (s t : ℕ) → IsPending c' s t ↔ (IsPending c s t × (t ≢ by))
  taken_pairs s t = subst (λ (d : PendingSeatView). IsPending d s t ↔ (IsPending c s t × (t ≢ by))) (sym (ap seat_notes is.1)) (pairs s (tells s) t)
    where
      pairs : (s : ℕ) → raised s by c ≡ taken s by c + bit_at found s → (t : ℕ) → IsPending (seat_notes (noted by tt is.0 (Took found) c.harts)) s t ↔ (IsPending c s t × (t ≢ by))
      pairs s tells t =
          let same = raised_then harts by c whole lt is.0 (Took found) s t in
          let up = taken_then harts by c whole lt is.0 (Took found) s t in
          let z = nothing (eqb by s) in
          dite (ℕ_discrete t by)
          (λ e.
          let h : (if by == t then bit_at found s else 0) ≡ bit_at found s = rw (eq-eqb by t (sym e)) refl in
          let eq : raised s t c ≡ taken s t c + bit_at found s = subst (λ (n : ℕ). raised s n c ≡ taken s n c + bit_at found s) (sym e) tells in
          ((λ p. absurd (omega arith)), (λ q. absurd (q.1 e))))
          (λ n.
          let h : (if by == t then bit_at found s else 0) ≡ 0 = rw (ne_eqb by t (λ x. n (sym x))) refl in
          ((λ p. ((let w = p in omega arith), n)), (λ q. let w = q.0 in omega arith)))

  pub take_alone : (pairs : ℕ → ℕ → Bool) → Shows harts c pairs → ((s : ℕ) → Has s found ↔ IsTrue (pairs s by)) × Shows harts c' (without_target by pairs)
  take_alone pairs shown = (
    (λ s. ((λ one. (shown.1 s by).1 ((found_pairs s).0 one)), (λ p. (found_pairs s).1 ((shown.1 s by).0 p)))),
    (whole_still harts c c' (same_harts by (Took found) c c' is) whole, pair),
  )
    where
      pair : (s t : ℕ) → IsTrue (without_target by pairs s t) ↔ IsPending c' s t
      pair s t =
          let r = taken_pairs s t in
          let old = shown.1 s t in
          dite (ℕ_discrete t by)
          (λ e. let it : without_target by pairs s t ≡ false = rw (eq-eqb t by e) refl in ((λ p. absurd (true≢false (sym p ∙ it))), (λ q. absurd ((r.0 q).1 e))))
          (λ n. let it : without_target by pairs s t ≡ pairs s t = rw (ne_eqb t by n) refl in ((λ p. r.1 (old.0 (sym it ∙ p), n)), (λ q. it ∙ old.1 (r.0 q).0)))

-- ---- pending
module _ (harts by found : ℕ) (c c' : PendingSeatView) (whole : HasEveryHart harts c) (lt : by < harts) (is : HasNoted by (Looked found) c.harts c'.harts) (tells : (sender : ℕ) → raised sender by c ≡ taken sender by c + bit_at found sender) where
  looked_pairs : (s t : ℕ) → IsPending c' s t ↔ IsPending c s t
  looked_pairs s t = subst (λ (d : PendingSeatView). IsPending d s t ↔ IsPending c s t) (sym (ap seat_notes is.1))
      (let p = raised_then harts by c whole lt is.0 (Looked found) s t in
      let q = taken_then harts by c whole lt is.0 (Looked found) s t in
      let y = nothing (eqb by s) in
      let z = nothing (eqb by t) in
      ((λ x. let w = x in omega arith), (λ x. let w = x in omega arith)))

  pub look_alone : (b : Bool) → (IsTrue b ↔ ((s : ℕ) × (bit_at found s ≡ 1))) → (pairs : ℕ → ℕ → Bool) → Shows harts c pairs
      → (IsTrue b ↔ ((s : ℕ) × IsTrue (pairs s by))) × Shows harts c' pairs
  look_alone b answers pairs shown = (
    (
      (λ t. let w = answers.0 t in (w.0, (shown.1 w.0 by).1 (here w.0 w.1))),
      (λ w. answers.1 (w.0, back w.0 w.1)),
    ),
    (
      whole_still harts c c' (same_harts by (Looked found) c c' is) whole,
      (λ s t. let r = looked_pairs s t in let old = shown.1 s t in ((λ p. r.1 (old.0 p)), (λ q. old.1 (r.0 q)))),
    ),
  )
    where
      here : (s : ℕ) → bit_at found s ≡ 1 → IsPending c s by
      here s one = let e = tells s in omega arith

      back : (s : ℕ) → IsTrue (pairs s by) → bit_at found s ≡ 1
      back s p = let q = (shown.1 s by).0 p in let e = tells s in let bit = bit_at-lt found s in omega arith

-- ---- the range of a word
pub few_senders : (harts found : ℕ) → harts ≤ 8 → InRange harts found → found < 256
few_senders harts found few range =
    let m = found % 2 ^ harts in
    let low = mod-lt found (pow_pos harts) in
    let e : found ≡ m = same_from_bits found m (λ i. elim (dec_le harts i) [
      | yes above ↦ range i above ∙ sym (bit_at_above m harts i low above)
      | no n ↦ ap (λ (x : ℕ). bit_at x i) (sym (div-add-mod' found (2 ^ harts))) ∙ bit_at_cat_low (found / 2 ^ harts) harts m i (omega arith)
    ]) in
    let top : 2 ^ harts ≤ 2 ^ 8 = dite (ℕ_discrete harts 8) (λ e. let p = ap (λ (n : ℕ). 2 ^ n) e in omega arith) (λ n. let p : 2 ^ harts < 2 ^ 8 = (let q : harts < 8 = omega arith in pow-lt {i = harts} {j = 8} q) in omega arith) in
    omega arith
