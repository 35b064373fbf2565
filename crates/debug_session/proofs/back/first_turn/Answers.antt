use Rattle.std.proofs.{Common.{List, All, sym, ◌∙◌, subst, arith}, lemmas.List.take_all}
use Rattle.script_lang.specs.declared.line.Line.{Line}
use Rattle.debug_session.{proofs.{Histories.{place_at, row_some}, RowPlaces.{makes_none, more_none}}, specs.Steps.MakesNone}
use Rattle.debug_session.proofs.back.first_turn.Goals as goal

pub returns-in-Turn-clause-some : goal.returns-in-Turn-clause-some
returns-in-Turn-clause-some g c =
    let d = c.index-lines-i.result in
    let there = sym c.index-lines-i.is ∙ c.in-Turn.is in
    let row = row_some c.args.setting.now.shape.now c.in-Turn.by c.loop-i.i c.in-Turn.field-1 c.args.lines.now d c.loop-i-test.true c.requires there in
    place_at c.in-Turn.by c.loop-i.i 0 c.in-Turn.field-1 c.args.lines.now d c.loop-i-test.true there (omega (arith, row.1))

pub loop-i-preserved : goal.loop-i-preserved
loop-i-preserved g c = more_none c.args.lines.now c.loop-i.i c.index-lines-i.result c.loop-i-test.true c.loop-i.invariant (subst MakesNone c.index-lines-i.is (makes_none c.index-lines-i.result c.in_default.not-Turn))

pub returns-clause-none : goal.returns-clause-none
returns-clause-none g c =
    let P : List Line → Type 0 = λ xs. All MakesNone xs in
    subst P (take_all c.loop-i.i c.args.lines.now c.loop-i-test.false) c.loop-i.invariant
