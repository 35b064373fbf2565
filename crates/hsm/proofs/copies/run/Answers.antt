use Rattle.std.proofs.Common.{refl, ◌∙◌}
use Rattle.hsm.{specs.{States.{started, start_pending}, Views.state_in}, proofs.Copying.{here, both}}
use Rattle.hsm.proofs.copies.run.Goals as goal

pub begin-requires-clause-pends : goal.begin-requires-clause-pends
begin-requires-clause-pends c =
    let a = c.unwrap-address.result in
    (a, 0, c.pend-seat.ensures.becomes.states c.args.hart c.requires.hart.0 ∙ here c.args.hart (λ _. start_pending a 0) (state_in c.args.seat.me.0) c.args.hart refl)

pub returns-clause-becomes : goal.returns-clause-becomes
returns-clause-becomes c =
    both c.args.table.now.table.shared.key.harts c.args.hart (start_pending c.unwrap-address.result 0) started c.args.seat.me.0 c.pend-seat.result.me.0 c.begin.result.me.0 c.pend-seat.ensures.becomes c.begin.ensures.becomes
