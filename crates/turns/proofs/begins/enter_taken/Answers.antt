use Rattle.std.{proofs.Common.{◌≡◌, ℕ, List, Option, refl, sym, ap, ◌∙◌, subst}, specs.Prelude.{slice_set, MatchOption}}
use Rattle.hsm.specs.{States.{HartState, started, begin}, Seating.harts_in, Calls.{EntersAs, FindsNone}, Views.{listed, AreStates}}
use Rattle.sbi_calls.specs.{declared.tables.Seats.Seats, Both.{harts_of_both, harts_known}}
use Rattle.turns.specs.declared.readies.Ready.TheVariants as readies
use Rattle.turns.{specs.Turns.{begun_by, IsOutside}, proofs.Begun.{none_is, some_is}}
use Rattle.turns.proofs.begins.enter_taken.Goals as goal

pub returns-in-None-clause-alone : goal.returns-in-None-clause-alone
returns-in-None-clause-alone g c = λ t are out.
    let a = c.try_enter_beside-harts.ensures.alone (listed t.states) are.0.1 in
    absurd (subst IsOutside (none_is (listed t.states c.args.by) out (sym c.in-None.is ∙ a.0)) out)

pub returns-in-Some-clause-alone : goal.returns-in-Some-clause-alone
returns-in-Some-clause-alone g c = λ t are out.
    let n = harts_of_both c.args.tables.now in
    let s : Seats = record { harts = c.try_enter_beside-harts.result.0; pending = c.args.seats.pending } in
    let p = c.in-Some.start in
    let a = c.try_enter_beside-harts.ensures.alone (listed t.states) are.0.1 in
    let e = some_is p (listed t.states c.args.by) (sym c.in-Some.is ∙ a.0) in
    let are_begun = c.seat_determines_states.ensures.changed n c.args.by begin _ t.states are.0.0 c.requires.1.0 a.1 in
    let runs : AreStates n (harts_known s) (slice_set t.states c.args.by started) = subst (λ (l : List HartState). AreStates n (harts_known s) l) (ap (λ (y : HartState). slice_set t.states c.args.by (begin y)) e) are_begun in
    (subst (λ (y : HartState). readies.Enters p.0 p.1 ≡ (begun_by c.args.by t y).ready) (sym e) refl, (runs, are.1))

pub returns-in-None-clause-own : goal.returns-in-None-clause-own
returns-in-None-clause-own g c =
    let P : Option (ℕ × ℕ) → Type 0 = λ e. MatchOption e (FindsNone c.args.by (harts_in c.args.seats.harts) (harts_in c.try_enter_beside-harts.result.0)) (λ x. EntersAs c.args.by (harts_in c.args.seats.harts) x.0 x.1 g.beside (harts_in c.try_enter_beside-harts.result.0)) in
    (subst P c.in-None.is c.try_enter_beside-harts.ensures.steps, refl)

pub returns-in-Some-clause-own : goal.returns-in-Some-clause-own
returns-in-Some-clause-own g c =
    let Enters : List ℕ → Type 0 = λ ps. EntersAs c.args.by (harts_in c.args.seats.harts) c.in-Some.start.0 c.in-Some.start.1 ps (harts_in c.try_enter_beside-harts.result.0) in
    let P : Option (ℕ × ℕ) → Type 0 = λ e. MatchOption e (FindsNone c.args.by (harts_in c.args.seats.harts) (harts_in c.try_enter_beside-harts.result.0)) (λ x. EntersAs c.args.by (harts_in c.args.seats.harts) x.0 x.1 g.beside (harts_in c.try_enter_beside-harts.result.0)) in
    (subst Enters c.requires.1.1.1 (subst P c.in-Some.is c.try_enter_beside-harts.ensures.steps), refl)

pub try_enter_beside-harts-requires : goal.try_enter_beside-harts-requires
try_enter_beside-harts-requires g c = (c.requires.0.0, (c.requires.1.1.0.0, c.requires.1.0))
