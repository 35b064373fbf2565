use Rattle.std.proofs.Common.{List, subst}
use Rattle.script_lang.specs.declared.line.Line.{Line}
use Rattle.bench_schedules.specs.Schedules.{RanLike}
use Rattle.bench_schedules.proofs.shrinks.shortened.Goals as goal

pub shortened_from-requires-clause-ran : goal.shortened_from-requires-clause-ran
shortened_from-requires-clause-ran g c κs within =
    let R : List Line → Type 0 = λ ls. RanLike c.args.setting.shape.now c.args.payloads.now ls c.args.own.now c.in_ok-differs.differs in
    subst R c.deref.ensures.value c.in_ok-differs.ensures.ran
