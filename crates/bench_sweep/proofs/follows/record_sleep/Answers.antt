use Rattle.std.proofs.Common.{ℕ, List, None, OnOk, sym, ◌∙◌, ap, subst}
use Rattle.board_model.specs.{Durable.{Change, Suspend}, declared.durable.Durable.Durable}
use Rattle.bench_sweep.proofs.Followed.{IssuedKept, asleep_has, asleep_kept}
use Rattle.bench_sweep.proofs.follows.record_sleep.Goals as goal

pub returns-in-None-clause-kept : goal.returns-in-None-clause-kept
returns-in-None-clause-kept c = λ size b new was moved. asleep_has size b new c.args.board.now c.args.ledger.now was moved (ap (λ (d : Durable). d.image) (sym c.now.ensures) ∙ c.in-None.ensures)

pub returns-in-Some-clause-kept : goal.returns-in-Some-clause-kept
returns-in-Some-clause-kept c =
    let l = c.args.ledger.now in
    let m = c.record_command.new.ledger in
    let head = c.in-Some.ensures.0 in
    let P : Change → Type 0 = λ x. OnOk c.record_command.result (IssuedKept l m None x) in
    let memory = c.bytes-memory.ensures.value ∙ c.ram.ensures in
    let command = c.in-Some.ensures.2 c.bytes-memory.result.now ∙ ap (λ (bytes : List ℕ). Suspend head.hart head.address head.opaque bytes) memory in
    asleep_kept c.record_command.result l m c.args.board.now head (ap (λ (d : Durable). d.image) (sym c.now.ensures) ∙ c.in-Some.ensures.1) (subst P command c.record_command.ensures.kept)
