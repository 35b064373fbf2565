use Rattle.std.proofs.Common.{◌∙◌, ◌++◌, ap, sym}
use Rattle.debug_session.{specs.Sessions.bench_of, proofs.Counted.counted_more}
use Rattle.sbigdb.specs.Texts.{hart_line}
use Rattle.sbigdb.proofs.texts.harts_text.Goals as goal

pub loop-number-preserved : goal.loop-number-preserved
loop-number-preserved g c =
    let line = hart_line (bench_of c.args.session.now) in
    let n = c.loop-number.number in
    c.in_ok-add_hart.ensures ∙ ap (λ x. x ++ line n) c.loop-number.invariant ∙ sym (counted_more line n)
