use Rattle.bench_sweep.proofs.Turned.{turn_goes}
use Rattle.bench_sweep.proofs.harts.turn_once.Goals as goal

pub returns-clause-goes : goal.returns-clause-goes
returns-clause-goes g c = λ size b was told.
    turn_goes size b c.args.board.now c.turn-word.new.self c.args.hart c.turn-word.result c.args.ledger.now c.record_hart.new.ledger was told c.in_ok-suspended_well.ensures.enough c.turn-word.ensures.turns
    (λ n follows moved. c.in_ok-record_hart.ensures.kept size b n follows moved)
