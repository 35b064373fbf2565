use Rattle.std.proofs.lemmas.Result.{IfOk-weaker}
use Rattle.theorem.proofs.Scripted.{as_written}
use Rattle.theorem.proofs.scripts.a_script.Goals as goal

pub returns : goal.returns
returns g c = λ said writable written.
    IfOk-weaker c.run_left_with.result _ _
    (λ left is. (is.1, is.5.text, as_written c.args.script.now said is.0 is.1 _ (c.scripts_read_as_written.ensures said writable) written is.3 is.7))
    c.run_left_with.ensures.report
