use Rattle.std.proofs.{Common.{◌≡◌, ◌⊎◌, ℕ, [], inr}, lemmas.Result.IfErr-weaker}
use Rattle.std.specs.Io.Buffered.{writer_buffer, writer_contents, writer_inner}
use Rattle.command_line.specs.Pipes.{is_closed_pipe, pipe_contents}
use Rattle.bench_program.specs.{Written.{AreDone, IsFaultIn, IsFaultOf, IsUnread, IsWritten}, declared.fault.BenchFault.BenchFault}
use Rattle.bench_program.{specs.declared.fault.BenchFault.TheVariants.Refused, proofs.Done.{done_of, wrong_of, over, fault_over}}
use Rattle.board_model.specs.declared.refusal.Refusal.TheVariants.{Memory}
use Rattle.bench_program.proofs.streams.run_options.Goals as goal

pub returns-clause-done : goal.returns-clause-done
returns-clause-done g c =
    let options = c.args.options.now in
    let payloads = c.in_ok-payloads.payloads in
    let old = writer_contents (pipe_contents g.O.Write.contents) c.args.out.now in
    let now = writer_contents (pipe_contents g.O.Write.contents) c.run_work-done.new.out in
    let D : Type 0 = IsWritten options payloads c.deref-2.result.now 0 old now in
    let E : Type 0 = AreDone options (g.P.PayloadFiles.bytes_at c.args.files.now) (g.I.Read.remaining c.args.input) 0 old now in
    let F : Type 0 = writer_buffer c.run_work-done.new.out ≡ [] in
    done_of c.run_work-done.result D E F
    (λ is. over options (g.P.PayloadFiles.bytes_at c.args.files.now) (g.I.Read.remaining c.args.input) payloads c.in_ok-script.script.items _
    c.deref-2.ensures.value c.in_ok-payloads.ensures.read c.in_ok-script.ensures.bytes 0 old now is) c.run_work-done.ensures.worked

pub returns-clause-wrong : goal.returns-clause-wrong
returns-clause-wrong g c = λ is.
    let options = c.args.options.now in
    let payloads = c.in_ok-payloads.payloads in
    let old = writer_contents (pipe_contents g.O.Write.contents) c.args.out.now in
    let now = writer_contents (pipe_contents g.O.Write.contents) c.run_work-done.new.out in
    let D : ℕ → Type 0 = λ n. IsWritten options payloads c.deref-2.result.now n old now in
    let E : ℕ → Type 0 = λ n. AreDone options (g.P.PayloadFiles.bytes_at c.args.files.now) (g.I.Read.remaining c.args.input) n old now in
    let F : Type 0 = writer_buffer c.run_work-done.new.out ≡ [] in
    wrong_of D E F
    (λ n d. over options (g.P.PayloadFiles.bytes_at c.args.files.now) (g.I.Read.remaining c.args.input) payloads c.in_ok-script.script.items _
    c.deref-2.ensures.value c.in_ok-payloads.ensures.read c.in_ok-script.ensures.bytes n old now d) (c.run_work-done.ensures.wrong is)

pub returns-clause-faults : goal.returns-clause-faults
returns-clause-faults g c =
    let options = c.args.options.now in
    let payloads = c.in_ok-payloads.payloads in
    let gone = is_closed_pipe (writer_inner c.run_work-done.new.out) in
    let P : BenchFault → Type 0 = λ fault. IsFaultIn options.work payloads c.deref-2.result.now gone fault in
    let Q : BenchFault → Type 0 = λ fault. IsUnread options fault ⊎ (fault ≡ Refused Memory)
    ⊎ IsFaultOf options (g.P.PayloadFiles.bytes_at c.args.files.now) (g.I.Read.remaining c.args.input) gone fault in
    IfErr-weaker c.run_work-done.result P Q
    (λ fault is. inr (inr (fault_over options (g.P.PayloadFiles.bytes_at c.args.files.now) (g.I.Read.remaining c.args.input) payloads c.in_ok-script.script.items _
    c.deref-2.ensures.value c.in_ok-payloads.ensures.read c.in_ok-script.ensures.bytes gone fault is))) c.run_work-done.ensures.faults
