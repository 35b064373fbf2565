use Rattle.std.proofs.{Common.{◌≡◌, ◌∙◌, true, false, refl, sym, subst}, lemmas.Result.IfOk-from_err}
use Rattle.script_lang.specs.declared.line.Line.TheVariants as lines
use Rattle.machine.specs.{Machine.Machine, Shows.HasHart}
use Rattle.bench_report.specs.Views.{machine_in}
use Rattle.bench_sweep.{specs.Lines.TurnsMany, proofs.Turned.{hart_line, turn_line, turn_lacks}}
use Rattle.bench_sweep.proofs.harts.turn_in_place.Goals as goal

pub returns-then-not-has-clause-goes : goal.returns-then-not-has-clause-goes
returns-then-not-has-clause-goes g c = λ size b was told.
    let h = c.args.hart in
    let H : Machine → Type 0 = λ m. HasHart m h in
    turn_lacks size b (lines.Turn h c.args.count) c.args.board.now h c.args.count c.args.ledger.now refl (λ has. (let e : false ≡ true = sym c.if-not-has.true ∙ c.has.ensures.1 (subst H (sym c.machine.ensures) has) in let no : ⊥ = cc in no)) was told

pub returns-clause-goes : goal.returns-clause-goes
returns-clause-goes g c = λ size b was told.
    let h = c.args.hart in
    let count = c.args.count in
    let word = c.in_ok-word.word in
    let H : Machine → Type 0 = λ m. HasHart m h in
    let has : HasHart (machine_in c.args.board.now) h = subst H c.machine.ensures (c.has.ensures.0 c.if-not-has.false) in
    hart_line size b (lines.Turn h count) (lines.Turn h count) refl (TurnsMany h count b word) word c.turn_many.new.board c.turn_many.new.ledger
    (λ n turns. turn_line size b c.args.board.now h count word n has was turns) (c.in_ok-word.ensures.goes size b was told)

pub returns-in_err-word-clause-goes : goal.returns-in_err-word-clause-goes
returns-in_err-word-clause-goes g c = IfOk-from_err c.from_residual.result _ c.from_residual.ensures.0

pub returns-in_err-word-clause-resumed : goal.returns-in_err-word-clause-resumed
returns-in_err-word-clause-resumed g c = c.turn_many.ensures.resumed

pub returns-then-not-has-clause-resumed : goal.returns-then-not-has-clause-resumed
returns-then-not-has-clause-resumed g c = refl

pub turn_many-requires-clause-some : goal.turn_many-requires-clause-some
turn_many-requires-clause-some g c κs within = c.requires.some
