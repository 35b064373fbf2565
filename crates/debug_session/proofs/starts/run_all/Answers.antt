use Rattle.std.{proofs.Common.{List, [], ◌∷◌, ◌++◌, sym, ap, ◌∙◌, append_assoc}, specs.Vec.Iter.into_iter_items}
use Rattle.std.proofs.lemmas.Result.{IfOk-from_err}
use Rattle.script_lang.specs.declared.line.Line.{Line}
use Rattle.debug_session.proofs.RowPlaces.{noted_more}
use Rattle.debug_session.proofs.starts.run_all.Goals as goal

pub loop-line-preserved : goal.loop-line-preserved
loop-line-preserved g c =
    let did = c.in_ok-line.ensures in
    let was = c.loop-line.invariant in
    record {
      at = did.at;
      noted = noted_more c.loop-line.yielded c.in-Some.line c.in_ok-line.field-0 [] c.loop-line.timeline.history c.line.new.self.history was.noted did.ran.noted;
      begins = did.begins ∙ was.begins;
      rest = append_assoc c.loop-line.yielded (c.in-Some.line ∷ []) (into_iter_items c.next.new.self) ∙ ap (λ (xs : List Line). c.loop-line.yielded ++ xs) (sym c.in-Some.ensures.steps.0) ∙ was.rest;
    }

pub line-requires-clause-at : goal.line-requires-clause-at
line-requires-clause-at g c κs within = c.loop-line.invariant.at

pub returns-clause-at : goal.returns-clause-at
returns-clause-at g c = c.loop-line.invariant.at

pub returns-clause-begins : goal.returns-clause-begins
returns-clause-begins g c = c.loop-line.invariant.begins

pub returns-in_err-line-clause-at : goal.returns-in_err-line-clause-at
returns-in_err-line-clause-at g c = IfOk-from_err c.from_residual.result _ c.from_residual.ensures.0

pub returns-in_err-line-clause-noted : goal.returns-in_err-line-clause-noted
returns-in_err-line-clause-noted g c = IfOk-from_err c.from_residual.result _ c.from_residual.ensures.0

pub returns-in_err-line-clause-begins : goal.returns-in_err-line-clause-begins
returns-in_err-line-clause-begins g c = IfOk-from_err c.from_residual.result _ c.from_residual.ensures.0
