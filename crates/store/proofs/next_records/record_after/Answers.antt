use Rattle.std.proofs.{Common.{◌∙◌, [], sym}, lemmas.Result.{err_from_is_err_and, IfOk-from_err}}
use Rattle.board_model.specs.{Shapes.board_size, Views.change_of}
use Rattle.store.{specs.Standing.state_of, proofs.{Following.{durable_same, follows}, Refusing.others}}
use Rattle.store.proofs.next_records.record_after.Goals as goal

pub returns-in_err-durable-clause-refused : goal.returns-in_err-durable-clause-refused
returns-in_err-durable-clause-refused c =
    let p = err_from_is_err_and c.from_residual.result c.from_residual.ensures.1 in
    rw (p.1, p.2) (λ size content. (c.in_err-durable.ensures (state_of size c.args.old.now content) (durable_same size c.args.old.now content ∙ sym c.durable.ensures)).refused)

pub returns-in_err-durable-clause-others : goal.returns-in_err-durable-clause-others
returns-in_err-durable-clause-others c =
    let p = err_from_is_err_and c.from_residual.result c.from_residual.ensures.1 in
    let s = state_of (board_size 0 0 0) c.args.old.now [] in
    rw (p.1, p.2) (others s (change_of c.args.command) _ (c.in_err-durable.ensures s (durable_same (board_size 0 0 0) c.args.old.now [] ∙ sym c.durable.ensures)).refused)

pub returns-clause-ok : goal.returns-clause-ok
returns-clause-ok c size content =
    let s = state_of size c.args.old.now content in
    let goes = (c.in_ok-durable.ensures s (durable_same size c.args.old.now content ∙ sym c.durable.ensures)).goes in
    (goes.0, rw c.next_record.ensures (follows size c.args.old.now content c.args.command c.in_ok-durable.durable goes.0 goes.1))

pub returns-in_err-durable-clause-ok : goal.returns-in_err-durable-clause-ok
returns-in_err-durable-clause-ok c = IfOk-from_err c.from_residual.result _ c.from_residual.ensures.0
