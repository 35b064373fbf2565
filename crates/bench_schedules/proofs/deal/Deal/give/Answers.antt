use Rattle.std.proofs.{Common.{◌≡◌, ◌-◌, ◌≤◌, ℕ, slice_set, slice_index_or, refl, subst, arith}, lemmas.Result.IfOk-from_err}
use Rattle.bench_schedules.{specs.declared.deal.Deal.Deal, proofs.Deals.gives}
use Rattle.bench_schedules.proofs.deal.Deal.give.Goals as goal

pub returns-clause-goes_on : goal.returns-clause-goes_on
returns-clause-goes_on c =
    let old : Deal = c.args.self.now in
    let now = c.min-now.result in
    let new : Deal = record {
      left = slice_set old.left c.index-place.result (slice_index_or old.left c.index-place.result 0 - now);
      lines = c.add_turns.new.made;
    } in
    let P : ℕ → Type 0 = λ by. new.left ≡ slice_set old.left by (slice_index_or old.left by 0 - now) in
    let Q : ℕ → Type 0 = λ by. now ≤ slice_index_or old.left by 0 in
    let few : now ≤ slice_index_or old.left c.index-place.result 0 = omega arith in
    gives old new c.args.hart now (omega arith) (subst Q c.index-place.ensures.value few) (subst P c.index-place.ensures.value refl)
    c.in_ok-add_turns.ensures.named c.in_ok-add_turns.ensures.turns

pub returns-in_err-add_turns-clause-goes_on : goal.returns-in_err-add_turns-clause-goes_on
returns-in_err-add_turns-clause-goes_on c = IfOk-from_err c.from_residual.result _ c.from_residual.ensures.0

pub returns-in_err-add_turns-clause-given : goal.returns-in_err-add_turns-clause-given
returns-in_err-add_turns-clause-given c = IfOk-from_err c.from_residual.result _ c.from_residual.ensures.0

pub returns-in_err-add_turns-clause-others : goal.returns-in_err-add_turns-clause-others
returns-in_err-add_turns-clause-others c = IfOk-from_err c.from_residual.result _ c.from_residual.ensures.0

pub returns-in_err-add_turns-clause-most : goal.returns-in_err-add_turns-clause-most
returns-in_err-add_turns-clause-most c = IfOk-from_err c.from_residual.result _ c.from_residual.ensures.0
