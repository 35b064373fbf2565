use Rattle.std.proofs.Common.{◌==◌, if◌then◌else◌, sym, ap, ◌∙◌, subst, ◌≡◌, ℕ, ◌+◌, ◌*◌, ◌<◌, List, [], ◌∷◌, arith, take, zero, suc, refl, replicate, length-take}
use Rattle.std.specs.Prelude.{slice_index}
use Rattle.tallies.{specs.{Seats.numbers_from, Notes.{numbers, SeatState}}, proofs.Noted.opens_numbered}
use Rattle.hsm.specs.{declared.view.Stage.TheVariants.{Out, Running}, Words.{HartView, HartSeatView}, Rule.stands, States.Shows}
use Rattle.hsm.specs.{declared.{view.Action.Action, table.Setup.Setup}, Outcomes.{opening_stage, opening_states, opening_view}}
use Rattle.hsm.proofs.Parting.{opens, opening_word, opens_standing, opens_shown}
use Rattle.hsm.proofs.table.HartTable.new.Goals as goal

first_kept : (n x : ℕ) (xs : List ℕ) → 0 < n → slice_index (take n (x ∷ xs)) 0 ≡ x
first_kept zero x xs pos = absurd (omega arith)
first_kept (suc n) x xs pos = refl

zero_at : (n m i : ℕ) → slice_index (take n (replicate m 0)) i ≡ 0
zero_at zero m i = refl
zero_at (suc n) zero i = refl
zero_at (suc n) (suc m) zero = refl
zero_at (suc n) (suc m) (suc i) = zero_at n m i

rest_zero : (n x i : ℕ) → 0 < i → slice_index (take n (x ∷ replicate 16 0)) i ≡ 0
rest_zero zero x i pos = refl
rest_zero (suc n) x zero pos = absurd (omega arith)
rest_zero (suc n) x (suc i) pos = zero_at n 16 i

pub of_words-requires : goal.of_words-requires
of_words-requires c =
    let few = c.harts.ensures.range.1 in
    let size = c.harts.ensures.value in
    let zeros : List ℕ = 0 ∷ 0 ∷ 0 ∷ 0 ∷ 0 ∷ 0 ∷ 0 ∷ 0 ∷ 0 ∷ 0 ∷ 0 ∷ 0 ∷ 0 ∷ 0 ∷ 0 ∷ 0 ∷ [] in
    rw c.number-hart.ensures.value
    (opens c.harts.result c.args.started (take (1 + 2 * c.harts.result) (opening_word c.args.started ∷ zeros)) (let lt = c.requires in omega arith) few
    (simp length-take (omega arith))
    (first_kept (1 + 2 * c.harts.result) (opening_word c.args.started) zeros (omega arith))
    (λ i pos lt. rest_zero (1 + 2 * c.harts.result) (opening_word c.args.started) i pos))

pub returns-clause-stands : goal.returns-clause-stands
returns-clause-stands c = λ h lt.
    let size = c.harts.ensures.value in
    let harts = ap (λ (m : SeatState HartSeatView). m.0.harts) c.in_ok-table.ensures.4 in
    subst (λ (vs : List HartView). stands h (if h == c.args.started then Running else Out) vs) (sym harts) (opens_standing c.harts.result c.args.started h (rw size lt))

pub returns-clause-all : goal.returns-clause-all
returns-clause-all c =
    let size = c.harts.ensures.value in
    ap (λ (m : SeatState HartSeatView). numbers m.0.harts) c.in_ok-table.ensures.4 ∙ (opens_numbered Action (opening_stage c.args.started) c.harts.result ∙ ap (λ (n : ℕ). numbers_from 0 n) (sym (ap (λ (s : Setup). s.harts) c.in_ok-table.ensures.5)))

pub returns-clause-shows : goal.returns-clause-shows
returns-clause-shows c =
    let size = c.harts.ensures.value in
    let crew = ap (λ (m : SeatState HartSeatView). m.0) c.in_ok-table.ensures.4 in
    subst (λ (d : HartSeatView). Shows c.args.shape.harts d (opening_states c.args.started)) (sym crew) (subst (λ (n : ℕ). Shows n (opening_view c.harts.result c.args.started) (opening_states c.args.started)) size (opens_shown c.harts.result c.args.started))
