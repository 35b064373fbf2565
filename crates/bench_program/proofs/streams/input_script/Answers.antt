use Rattle.std.proofs.{Common.{◌≡◌}, lemmas.Result.IfOk-weaker}
use Rattle.script_lang.specs.Scripts.{script_of}
use Rattle.bench_program.{specs.Written.IsReadOf, proofs.Ends.of_what_is_behind}
use Rattle.bench_program.proofs.streams.input_script.Goals as goal

pub returns-in-Ok-clause-said : goal.returns-in-Ok-clause-said
returns-in-Ok-clause-said g c =
    let r = c.in-Ok.ensures in
    IfOk-weaker c.read_script.result _ _
    (λ script said. of_what_is_behind (λ bytes. script_of script.items ≡ script_of bytes) g.I.Read.remaining c.args.input c.in-Ok.input r.inner r.empty r.capacity said)
    c.read_script.ensures.said

pub returns-in-Ok-clause-bytes : goal.returns-in-Ok-clause-bytes
returns-in-Ok-clause-bytes g c =
    let r = c.in-Ok.ensures in
    IfOk-weaker c.read_script.result _ _
    (λ script is. of_what_is_behind (IsReadOf script.items) g.I.Read.remaining c.args.input c.in-Ok.input r.inner r.empty r.capacity is) c.read_script.ensures.bytes
