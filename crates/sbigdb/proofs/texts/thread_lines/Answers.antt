use Rattle.std.proofs.Common.{◌∙◌, ◌++◌, ap, string_bytes, sym}
use Rattle.debug_session.{specs.Sessions.bench_of, proofs.Counted.counted_more}
use Rattle.sbigdb.specs.Texts.{thread_line}
use Rattle.sbigdb.proofs.texts.thread_lines.Goals as goal

pub loop-number-preserved : goal.loop-number-preserved
loop-number-preserved g c =
    let line = thread_line (bench_of c.args.session.now) in
    let n = c.loop-number.number in
    let before = c.loop-number.invariant.same in
    record {
      same = c.in_ok-add_thread.ensures.same ∙ before;
      text =
          c.in_ok-add_thread.ensures.text
          ∙ ap (λ s. string_bytes c.loop-number.text ++ thread_line (bench_of s) n) before
          ∙ ap (λ x. x ++ line n) c.loop-number.invariant.text
          ∙ sym (counted_more line n);
    }
