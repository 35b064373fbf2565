use Rattle.std.proofs.{Common.{ap, refl}, lemmas.Result.on_ok_weaker}
use Rattle.script_lang.specs.declared.line.Line.{Line}
use Rattle.bench_sweep.{specs.Told.powers_on, proofs.Left.{no_serials, not_boot}}
use Rattle.bench_sweep.proofs.follows.record_line.Goals as goal

pub returns-in-On-clause-kept : goal.returns-in-On-clause-kept
returns-in-On-clause-kept c = rw c.in-On.is c.record_power_on.ensures.kept

pub returns-in-On-clause-serial : goal.returns-in-On-clause-serial
returns-in-On-clause-serial c = rw c.in-On.is c.record_power_on.ensures.serial

pub returns-in-Command-clause-kept : goal.returns-in-Command-clause-kept
returns-in-Command-clause-kept c = rw c.in-Command.is c.record_console.ensures.kept

pub returns-in-Command-clause-serial : goal.returns-in-Command-clause-serial
returns-in-Command-clause-serial c = on_ok_weaker c.record_console.result
    (λ kept size old new tells told. no_serials c.args.line.now c.args.answer.now c.args.ledger.now c.record_console.new.ledger (ap (λ (l : Line). powers_on l) c.in-Command.is) c.record_console.ensures.resumed) c.record_console.ensures.kept

pub returns-in_default-clause-serial : goal.returns-in_default-clause-serial
returns-in_default-clause-serial c = λ size old new tells told. no_serials c.args.line.now c.args.answer.now c.args.ledger.now c.args.ledger.now (not_boot c.args.line.now c.in_default.not-On) refl
