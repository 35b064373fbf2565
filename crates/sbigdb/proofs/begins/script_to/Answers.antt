use Rattle.std.{proofs.Common.{List, subst, sym}, specs.Prelude.All}
use Rattle.board_model.specs.Shapes.{Size}
use Rattle.script_lang.specs.{Lines.IsLineInRange, declared.line.Line.Line}
use Rattle.bench_schedules.specs.Orders.{AreOrderOf}
use Rattle.sbigdb.specs.Begins.{PartsAt}
use Rattle.sbigdb.proofs.begins.script_to.Goals as goal

pub lines_to-requires : goal.lines_to-requires
lines_to-requires c = record { order = subst (λ (xs : List Line). AreOrderOf xs c.args.found.lines.items) (sym c.deref.ensures.value) c.requires.order.lines }

pub returns-clause-parts : goal.returns-clause-parts
returns-clause-parts c =
    subst (λ (xs : List Line). PartsAt xs c.args.found.lines.items c.in_ok-lines.lines.items) c.deref.ensures.value c.in_ok-lines.ensures.parts

pub returns-clause-ranges : goal.returns-clause-ranges
returns-clause-ranges c =
    let shape : Size = c.args.own.now.shape in
    let mine = subst (All (IsLineInRange shape)) (sym c.deref.ensures.value) c.requires.own_ranges in
    let theirs = subst (λ (s : Size). All (IsLineInRange s) c.args.found.lines.items) c.requires.order.board c.requires.ranges in
    c.in_ok-lines.ensures.ranges shape mine theirs
