use Rattle.std.proofs.{Common.{◌∙◌, ◌+◌, [], refl, sym, subst, arith}, lemmas.{List.{get_or-set_other, length-set}, Result.IfOk-from_err}}
use Rattle.crew.{specs.Handed.MayBeMade, proofs.HandedOn.handed_more}
use Rattle.crew.proofs.windows.hand_on.Goals as goal

pub loop-i-init : goal.loop-i-init
loop-i-init g c = record {
  as_many = refl;
  made = λ k d lo hi. c.requires.made k d hi;
  handed = record { rows = []; many = refl; each = tt; taken = refl };
}

pub loop-i-preserved : goal.loop-i-preserved
loop-i-preserved g c =
    let i = c.loop-i.invariant in
    let is = g.T.Task.is_row c.args.task.now in record {
      as_many = length-set c.loop-i.slots c.loop-i.i _ ∙ i.as_many;
      made = λ k d lo hi.
          (subst (λ (slot : _). MayBeMade is (c.args.first + k) slot) (sym (get_or-set_other c.loop-i.slots c.loop-i.i k _ d (λ e. omega (arith, e, lo)))) (i.made k d (omega (arith, lo)) hi));
      handed = handed_more is g.S.Sink.takes c.args.first c.loop-i.i _ _ _ c.in_ok-row.row i.handed c.in_ok-row.ensures.row c.in_ok-take.ensures.took;
    }

pub returns-in_err-row : goal.returns-in_err-row
returns-in_err-row g c = record { handed = (IfOk-from_err c.from_residual.result _ c.from_residual.ensures.0) }

pub returns-in_err-take : goal.returns-in_err-take
returns-in_err-take g c = record { handed = (IfOk-from_err c.from_residual-in_err-take.result _ c.from_residual-in_err-take.ensures.0) }
