use Rattle.bench_sweep.proofs.Turned.{call_unmade, call_made}
use Rattle.std.proofs.{Common.refl, lemmas.Result.IfOk-from_err}
use Rattle.bench_sweep.proofs.harts.call_once.Goals as goal

pub returns-in-None-clause-goes : goal.returns-in-None-clause-goes
returns-in-None-clause-goes g c = λ size b was told.
    call_unmade size b c.args.board.now c.call.new.self c.args.hart c.args.words c.args.ledger.now c.requires.hart was told c.in-None.ensures.calls

pub returns-in_ok-record_hart-in-Some-clause-goes : goal.returns-in_ok-record_hart-in-Some-clause-goes
returns-in_ok-record_hart-in-Some-clause-goes g c = λ size b was told.
    call_made size b c.args.board.now c.call.new.self c.args.hart c.args.words c.args.ledger.now c.requires.hart was told c.in-Some.word c.record_hart.new.ledger c.in_ok-suspended_well-in-Some.ensures.enough c.in-Some.ensures.calls
    (λ n follows moved. c.in_ok-record_hart-in-Some.ensures.kept size b n follows moved)

pub returns-in-None-clause-resumed : goal.returns-in-None-clause-resumed
returns-in-None-clause-resumed g c = refl

pub returns-in_err-record_hart-in-Some-clause-goes : goal.returns-in_err-record_hart-in-Some-clause-goes
returns-in_err-record_hart-in-Some-clause-goes g c = IfOk-from_err c.from_residual-in_err-record_hart-in-Some.result _ c.from_residual-in_err-record_hart-in-Some.ensures.0

pub returns-in_err-record_hart-in-Some-clause-resumed : goal.returns-in_err-record_hart-in-Some-clause-resumed
returns-in_err-record_hart-in-Some-clause-resumed g c = c.record_hart.ensures.resumed

pub returns-in_err-suspended_well-in-Some-clause-goes : goal.returns-in_err-suspended_well-in-Some-clause-goes
returns-in_err-suspended_well-in-Some-clause-goes g c = IfOk-from_err c.from_residual.result _ c.from_residual.ensures.0

pub returns-in_err-suspended_well-in-Some-clause-resumed : goal.returns-in_err-suspended_well-in-Some-clause-resumed
returns-in_err-suspended_well-in-Some-clause-resumed g c = refl

pub returns-in_ok-record_hart-in-Some-clause-resumed : goal.returns-in_ok-record_hart-in-Some-clause-resumed
returns-in_ok-record_hart-in-Some-clause-resumed g c = c.record_hart.ensures.resumed
