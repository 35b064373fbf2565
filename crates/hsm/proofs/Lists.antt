-- Where the harts of a parted seat stand.
use Rattle.std.proofs.Common.{List, None, Option, Some, [], ap, arith, inl, inr, refl, slice_get, subst, suc, sym, zero, ℕ, ⊎_elim, ◌++◌, ◌+◌, ◌∙◌, ◌∷◌, ◌≡◌, ◌≢◌}
use Rattle.atomic_table.specs.declared.shared.Seat.{Seat}
use Rattle.tallies.{specs.{Seats.{numbers_from, views_at}, Notes.numbers}, proofs.Seatings.{head_or, tail_of, some_or}}
use Rattle.hsm.specs.{Rule.stands, declared.view.Stage.Stage, Words.{HartView, HartSeatView}}
use Rattle.hsm.specs.Seating.{StandAsIn, StandTogether, AreInOrder, harts_in, harts_by_seat, all_harts, one_by_one}

stands_from : (ss : List (Option (Seat (Unit {0}) HartSeatView))) (vs : List HartView) (first n : ℕ) → harts_by_seat ss ≡ one_by_one vs → numbers vs ≡ numbers_from first n
    → (i : ℕ) (s : Seat (Unit {0}) HartSeatView) → slice_get ss i ≡ Some (Some s) → (st : Stage) → stands (first + i) st vs → stands (first + i) st (harts_in s)
stands_from [] vs first n same own i s at st stood = absurd (cc)
stands_from (x ∷ ss) [] first n same own i s at st stood = absurd stood
stands_from (x ∷ ss) (v ∷ vs) first zero same own i s at st stood = absurd (cc)
stands_from (x ∷ ss) (v ∷ vs) first (suc n) same own zero s at st stood =
    let here : views_at harts_in x ≡ v ∷ [] = ap (head_or (views_at harts_in x)) same in
    let is : x ≡ Some s = ap (some_or x) at in
    let mine : harts_in s ≡ v ∷ [] = ap (views_at harts_in) (sym is) ∙ here in
    let e : v.hart ≡ first = ap (head_or first) own in
    subst (λ (l : List HartView). stands (first + 0) st l) (sym mine) (⊎_elim
    (λ (hit : (v.hart ≡ first + 0) × (v.stage ≡ st)). inl hit)
    (λ (miss : (v.hart ≢ first + 0) × stands (first + 0) st vs). absurd (miss.0 (omega arith)))
    stood)
stands_from (x ∷ ss) (v ∷ vs) first (suc n) same own (suc i) s at st stood =
    let e : v.hart ≡ first = ap (head_or first) own in
    let k : suc first + i ≡ first + suc i = omega arith in
    subst (λ (j : ℕ). stands j st (harts_in s)) k
    (stands_from ss vs (suc first) n (ap tail_of same) (ap tail_of own) i s at st
    (subst (λ (j : ℕ). stands j st vs) (sym k) (⊎_elim
    (λ (hit : (v.hart ≡ first + suc i) × (v.stage ≡ st)). let h = hit.0 in absurd (omega arith))
    (λ (miss : (v.hart ≢ first + suc i) × stands (first + suc i) st vs). miss.1)
    stood)))

-- each hart of a list of single harts stands where it stood
pub in_order_stands : (ss : List (Option (Seat (Unit {0}) HartSeatView))) (vs : List HartView) (n : ℕ) → harts_by_seat ss ≡ one_by_one vs → numbers vs ≡ numbers_from 0 n → StandAsIn vs ss
in_order_stands ss vs n same own = λ i s st at stood.
    let k : 0 + i ≡ i = omega arith in
    subst (λ (j : ℕ). stands j st (harts_in s)) k (stands_from ss vs 0 n same own i s at st (subst (λ (j : ℕ). stands j st vs) (sym k) stood))

-- ---- seats that are joined
front : (vs ws : List HartView) (n : ℕ) (st : Stage) → stands n st vs → stands n st (vs ++ ws)
front [] ws n st s = absurd s
front (v ∷ vs) ws n st s =
    ⊎_elim
    (λ (hit : (v.hart ≡ n) × (v.stage ≡ st)). inl hit)
    (λ (miss : (v.hart ≢ n) × stands n st vs). inr (miss.0, front vs ws n st miss.1))
    s

behind : (vs ws : List HartView) (n k : ℕ) (st : Stage) → numbers vs ≡ n ∷ [] → k ≢ n → stands k st ws → stands k st (vs ++ ws)
behind [] ws n k st own ne s = absurd (cc)
behind (v ∷ []) ws n k st own ne s = inr ((λ e. ne (sym e ∙ ap (head_or n) own)), s)
behind (v ∷ w ∷ vs) ws n k st own ne s = absurd (cc)

together_from : (ss : List (Option (Seat (Unit {0}) HartSeatView))) (first : ℕ) → ((i : ℕ) (s : Seat (Unit {0}) HartSeatView) → slice_get ss i ≡ Some (Some s) → numbers (harts_in s) ≡ (first + i) ∷ [])
    → (i : ℕ) (s : Seat (Unit {0}) HartSeatView) (st : Stage) → slice_get ss i ≡ Some (Some s) → stands (first + i) st (harts_in s) → stands (first + i) st (all_harts ss)
together_from [] first order i s st at stood = absurd (cc)
together_from (None ∷ ss) first order zero s st at stood = absurd (cc)
together_from (None ∷ ss) first order (suc i) s st at stood =
    let e : suc first + i ≡ first + suc i = omega arith in
    subst (λ (n : ℕ). stands n st (all_harts ss)) e
    (together_from ss (suc first) (λ j u got. order (suc j) u got ∙ ap (λ (k : ℕ). k ∷ []) (let f : first + suc j ≡ suc first + j = omega arith in f)) i s st at (subst (λ (n : ℕ). stands n st (harts_in s)) (sym e) stood))
together_from (Some x ∷ ss) first order zero s st at stood =
    let is : Some x ≡ Some s = ap (some_or (Some x)) at in
    front (harts_in x) (all_harts ss) (first + 0) st (subst (λ (vs : List HartView). stands (first + 0) st vs) (sym (ap (views_at harts_in) is)) stood)
together_from (Some x ∷ ss) first order (suc i) s st at stood =
    let own : numbers (harts_in x) ≡ first ∷ [] = order 0 x refl ∙ ap (λ (k : ℕ). k ∷ []) (let f : first + 0 ≡ first = omega arith in f) in
    let e : suc first + i ≡ first + suc i = omega arith in
    behind (harts_in x) (all_harts ss) first (first + suc i) st own (λ z. omega arith) (subst (λ (n : ℕ). stands n st (all_harts ss)) e
    (together_from ss (suc first) (λ j u got. order (suc j) u got ∙ ap (λ (k : ℕ). k ∷ []) (let f : first + suc j ≡ suc first + j = omega arith in f)) i s st at (subst (λ (n : ℕ). stands n st (harts_in s)) (sym e) stood)))

pub stand_together : (ss : List (Option (Seat (Unit {0}) HartSeatView))) → AreInOrder ss → StandTogether ss (all_harts ss)
stand_together ss order = λ i s st at stood.
    let k : 0 + i ≡ i = omega arith in
    subst (λ (n : ℕ). stands n st (all_harts ss)) k
    (together_from ss 0 (λ j u got. order j u got ∙ ap (λ (m : ℕ). m ∷ []) (let f : j ≡ 0 + j = omega arith in f)) i s st at (subst (λ (n : ℕ). stands n st (harts_in s)) (sym k) stood))
