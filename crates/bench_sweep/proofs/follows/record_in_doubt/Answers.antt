use Rattle.std.proofs.Common.{ℕ, List, Some, OnOk, ◌∙◌, subst}
use Rattle.board_model.specs.Views.{change_in}
use Rattle.bench_sweep.proofs.Followed.{IssuedKept, calm_hart, doubted_kept}
use Rattle.bench_sweep.proofs.follows.record_in_doubt.Goals as goal

pub returns-in-None-clause-kept : goal.returns-in-None-clause-kept
returns-in-None-clause-kept c = λ size b new did was moved. calm_hart size b new c.args.board.now c.args.ledger.now was did moved c.in-None.ensures

pub returns-in-Some-clause-kept : goal.returns-in-Some-clause-kept
returns-in-Some-clause-kept c =
    let l = c.args.ledger.now in
    let m = c.record_command.new.ledger in
    let P : List ℕ → Type 0 = λ bytes. OnOk c.record_command.result (IssuedKept l m (Some 6) (change_in c.in-Some.entry bytes)) in
    doubted_kept c.record_command.result l m c.args.board.now c.in-Some.entry c.in-Some.ensures.0 c.in-Some.ensures.1 c.record_command.ensures.already
    (subst P (c.bytes-memory.ensures.value ∙ c.ram.ensures) c.record_command.ensures.kept)
