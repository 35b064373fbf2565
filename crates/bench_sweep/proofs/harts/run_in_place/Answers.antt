use Rattle.bench_sweep.proofs.harts.run_in_place.Goals as goal

pub returns-in-Turn-clause-goes : goal.returns-in-Turn-clause-goes
returns-in-Turn-clause-goes g c = rw c.in-Turn.is c.turn_in_place.ensures.goes

pub returns-in-Call-clause-goes : goal.returns-in-Call-clause-goes
returns-in-Call-clause-goes g c = rw c.in-Call.is c.call_in_place.ensures.goes

pub returns-in-Call-clause-resumed : goal.returns-in-Call-clause-resumed
returns-in-Call-clause-resumed g c = c.call_in_place.ensures.resumed

pub returns-in-Turn-clause-resumed : goal.returns-in-Turn-clause-resumed
returns-in-Turn-clause-resumed g c = c.turn_in_place.ensures.resumed
