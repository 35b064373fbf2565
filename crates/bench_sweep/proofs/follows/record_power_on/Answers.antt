use Rattle.bench_sweep.proofs.{Boots.{found_none, found_some}, Serials.{resumes_none, resumes_found}}
use Rattle.bench_sweep.proofs.follows.record_power_on.Goals as goal

pub returns-in-None-clause-kept : goal.returns-in-None-clause-kept
returns-in-None-clause-kept c = found_none c.args.ledger.now c.args.mode c.args.answer.now.found c.args.answer.now.line c.args.now c.in-None.is

pub returns-in-Some-clause-kept : goal.returns-in-Some-clause-kept
returns-in-Some-clause-kept c =
    found_some c.record_answer.result c.args.ledger.now c.settles.new.self c.record_answer.new.ledger c.args.mode c.args.answer.now.found c.args.answer.now.line c.args.now c.in-Some.found c.in-Some.is c.settles.ensures.kept c.record_answer.ensures.kept

pub returns-in-None-clause-serial : goal.returns-in-None-clause-serial
returns-in-None-clause-serial c = resumes_none c.args.ledger.now c.args.mode c.args.answer.now.found c.args.answer.now.line c.args.now c.in-None.is

pub returns-in-Some-clause-serial : goal.returns-in-Some-clause-serial
returns-in-Some-clause-serial c =
    resumes_found c.record_answer.result c.args.ledger.now c.settles.new.self c.record_answer.new.ledger c.args.mode c.args.answer.now.found c.args.answer.now.line c.args.now c.in-Some.found c.in-Some.is c.settles.ensures.kept c.settles.ensures.resumed c.record_answer.ensures.serial
