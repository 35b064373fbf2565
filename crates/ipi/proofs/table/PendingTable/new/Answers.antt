use Rattle.std.proofs.Common.{◌≡◌, ℕ, [], ◌∷◌, arith, take, zero, suc, refl, replicate, length-take, false, sym, ap, ◌∙◌, subst}
use Rattle.std.specs.Prelude.{slice_index}
use Rattle.tallies.{specs.{Seats.numbers_from, Notes.{SeatState, seats, numbers}}, proofs.Noted.{opens_numbered, opens_seated}}
use Rattle.ipi.specs.{Ledger.{opening_pending_view, PendingSeatView}, Pairs.Shows, declared.view.IpiAction.IpiAction}
use Rattle.ipi.proofs.Parting.{opens, opens_shown}
use Rattle.ipi.proofs.table.PendingTable.new.Goals as goal

zeros : (n m i : ℕ) → slice_index (take n (replicate m 0)) i ≡ 0
zeros zero m i = refl
zeros (suc n) zero i = refl
zeros (suc n) (suc m) zero = refl
zeros (suc n) (suc m) (suc i) = zeros n m i

pub of_words-requires : goal.of_words-requires
of_words-requires c =
    let h = c.harts-harts.ensures.range.1 in
    opens c.harts-harts.result (take c.harts-harts.result (0 ∷ 0 ∷ 0 ∷ 0 ∷ 0 ∷ 0 ∷ 0 ∷ 0 ∷ [])) (simp length-take (omega arith)) (λ i lt. zeros c.harts-harts.result 8 i)

pub returns-clause-all : goal.returns-clause-all
returns-clause-all c =
    ap (λ (m : SeatState PendingSeatView). numbers m.0.harts) c.in_ok-table.ensures.4 ∙ (opens_numbered IpiAction (λ _. tt) c.harts-harts.result ∙ ap (λ (n : ℕ). numbers_from 0 n) (sym c.in_ok-table.ensures.5))

pub returns-clause-sits : goal.returns-clause-sits
returns-clause-sits c = λ h lt.
    let size = c.harts-harts.ensures.value in
    ap (λ (m : SeatState PendingSeatView). seats h m.0) c.in_ok-table.ensures.4 ∙ opens_seated IpiAction (λ _. tt) c.harts-harts.result h (rw size lt)

pub returns-clause-shows : goal.returns-clause-shows
returns-clause-shows c =
    let size = c.harts-harts.ensures.value in
    let crew = ap (λ (m : SeatState PendingSeatView). m.0) c.in_ok-table.ensures.4 in
    subst (λ (d : PendingSeatView). Shows c.args.shape.harts d (λ _ _. false)) (sym crew) (subst (λ (n : ℕ). Shows n (opening_pending_view c.harts-harts.result) (λ _ _. false)) size (opens_shown c.harts-harts.result))
