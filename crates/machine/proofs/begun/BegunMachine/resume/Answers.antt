use Rattle.std.{proofs.{Common.{rules, ◌≡◌, ◌<◌, ℕ, sym, ap, ◌∙◌, subst}, lemmas.Result.err_from_is_err_and}, specs.Prelude.length}
use Rattle.board_model.specs.Shapes.{Size}
use Rattle.hart.specs.State.{ArchState}
use Rattle.store.specs.Views.{size_of_store}
use Rattle.machine.{specs.Machine.Machine, proofs.Refused.{nothing_made, handed_on, was_so}}
use Rattle.machine.proofs.begun.BegunMachine.resume.Goals as goal

pub index_mut-requires : goal.index_mut-requires
index_mut-requires g c =
    let items = c.self.inside.parts.harts.items in
    let w = c.in_ok-hart.ensures.woken in
    let r = c.requires.resting w.0 w.1 in
    let place : c.index-place.result ≡ w.0.hart = c.index-place.ensures.value ∙ (c.id.ensures ∙ ap (λ (x : ArchState). x.id) w.3) in
    let sized = ap (λ (m : Machine). m.size) (c.self.view_is ∙ r.0) in
    let long : length items ≡ (size_of_store c.args.store.now).harts = c.self.invariant.0.long ∙ ap (λ (z : Size). z.harts) sized in
    let lt : c.index-place.result < length items = subst (λ (k : ℕ). k < length items) (sym place) (subst (λ (n : ℕ). w.0.hart < n) (sym long) r.1) in
    search rules

pub invariant_of-self : goal.invariant_of-self
invariant_of-self g c = c.self.invariant

pub returns-in_err-hart-clause-woken : goal.returns-in_err-hart-clause-woken
returns-in_err-hart-clause-woken g c = let p = err_from_is_err_and c.from_residual.result c.from_residual.ensures.1 in nothing_made _ _ _ p.1

pub returns-in_err-hart-clause-consumed : goal.returns-in_err-hart-clause-consumed
returns-in_err-hart-clause-consumed g c = let p = err_from_is_err_and c.from_residual.result c.from_residual.ensures.1 in nothing_made _ _ _ p.1

pub returns-in_err-hart-clause-calls : goal.returns-in_err-hart-clause-calls
returns-in_err-hart-clause-calls g c = let p = err_from_is_err_and c.from_residual.result c.from_residual.ensures.1 in nothing_made _ _ _ p.1

pub returns-in_err-hart-clause-stays : goal.returns-in_err-hart-clause-stays
returns-in_err-hart-clause-stays g c = c.in_err-hart.ensures.stays

pub returns-in_err-hart-clause-stops : goal.returns-in_err-hart-clause-stops
returns-in_err-hart-clause-stops g c = let p = err_from_is_err_and c.from_residual.result c.from_residual.ensures.1 in handed_on _ _ _ _ p.1 p.2 c.in_err-hart.ensures.stops

pub returns-in_err-hart-clause-life : goal.returns-in_err-hart-clause-life
returns-in_err-hart-clause-life g c = λ e. let p = err_from_is_err_and c.from_residual.result c.from_residual.ensures.1 in c.in_err-hart.ensures.life (was_so _ _ _ _ p.1 p.2 e)

pub returns-clause-refused : goal.returns-clause-refused
returns-clause-refused g c = tt

pub returns-clause-untouched : goal.returns-clause-untouched
returns-clause-untouched g c = tt

pub returns-clause-stops : goal.returns-clause-stops
returns-clause-stops g c = tt

pub returns-clause-stays : goal.returns-clause-stays
returns-clause-stays g c = c.in_ok-hart.ensures.stays

pub returns-clause-calls : goal.returns-clause-calls
returns-clause-calls g c = c.in_ok-hart.ensures.calls

pub returns-clause-consumed : goal.returns-clause-consumed
returns-clause-consumed g c = c.in_ok-hart.ensures.consumed
