use Rattle.std.proofs.{Common.{◌≡◌, ◌∙◌, ◌⊎◌, ◌<◌, ℕ, Bool, List, [], Option, Err, ap, map}, lemmas.Result.IfErr-weaker}
use Rattle.std.specs.Io.Buffered.{writer_buffer, writer_contents, writer_inner}
use Rattle.clap.specs.Words.{kind_of}
use Rattle.command_line.specs.{Kinds.no_work, Pipes.{is_closed_pipe, pipe_contents}}
use Rattle.board_model.specs.declared.refusal.Refusal.TheVariants.{Memory}
use Rattle.bench_program.specs.{Faults.without_work, Usage.{IsNamedBy, NamesConflict, NamesNoWork}, declared.fault.BenchFault.BenchFault}
use Rattle.bench_program.specs.{Written.{AreDone, IsDone, IsFault, IsFaultOf, IsUnread}, declared.usage.BenchOptions.BenchOptions}
use Rattle.bench_program.{specs.declared.fault.BenchFault.TheVariants.{Refused, Wrong}, proofs.{Done.{done_or, wrong_of}, Told.of_options}}
use Rattle.bench_program.proofs.Ends.{nothing_more, line_fault, never_wrong}
use Rattle.command_line.specs.declared.NoWork.TheVariants as whys
use Rattle.bench_program.proofs.streams.run_on.Goals as goal

pub returns-in-Ok : goal.returns-in-Ok
returns-in-Ok g c =
    let words : List (List ℕ) = map g.S.AsStr.text c.args.words.now in
    let input : Option (List ℕ) = g.I.Read.remaining c.args.input in
    let options : BenchOptions = c.in-Ok.options in
    let bytes_at : List ℕ → Option (List ℕ) = g.P.PayloadFiles.bytes_at c.args.files.now in
    let old : Option (List ℕ) = writer_contents (pipe_contents g.O.Write.contents) c.args.out.now in
    let now : Option (List ℕ) = writer_contents (pipe_contents g.O.Write.contents) c.run_options-done.new.out in
    let gone : Bool = is_closed_pipe (writer_inner c.run_options-done.new.out) in
    let D : ℕ → Type 0 = λ n. AreDone options bytes_at input n old now in
    let E : ℕ → Type 0 = λ n. IsDone words bytes_at input n old now in
    let F : Type 0 = writer_buffer c.run_options-done.new.out ≡ [] in
    let N : Type 0 = NamesNoWork words whys.Shown in
    let Of : BenchFault → Type 0 = λ fault. IsUnread options fault ⊎ (fault ≡ Refused Memory) ⊎ IsFaultOf options bytes_at input gone fault in
    let Any : BenchFault → Type 0 = λ fault. IsFault words bytes_at input gone fault in
    record {
      status = (
        c.run_options-done.result,
        c.end_told.ensures,
        done_or c.run_options-done.result (D 0) (E 0) F N (λ d. (options, c.in-Ok.ensures.named, d)) c.run_options-done.ensures.done,
        IfErr-weaker c.run_options-done.result Of Any (λ fault is. of_options words bytes_at input gone fault options c.in-Ok.ensures.named is) c.run_options-done.ensures.faults,
        λ is. wrong_of D E F (λ n d. (options, c.in-Ok.ensures.named, d)) (c.run_options-done.ensures.wrong is),
      );
    }

pub returns-in-Err : goal.returns-in-Err
returns-in-Err g c =
    let words : List (List ℕ) = map g.S.AsStr.text c.args.words.now in
    let input : Option (List ℕ) = g.I.Read.remaining c.args.input in
    let bytes_at : List ℕ → Option (List ℕ) = g.P.PayloadFiles.bytes_at c.args.files.now in
    let gone : Bool = is_closed_pipe (writer_inner c.show_on.new.out) in
    let Of : BenchFault → Type 0 = λ fault. (options : BenchOptions) × IsNamedBy words options × (IsUnread options fault ⊎ IsFaultOf options bytes_at input gone fault) in
    let done = c.without_work-done.result in
    let old : Option (List ℕ) = writer_contents (pipe_contents g.O.Write.contents) c.args.out.now in
    let now : Option (List ℕ) = writer_contents (pipe_contents g.O.Write.contents) c.show_on.new.out in
    let F : Type 0 = writer_buffer c.show_on.new.out ≡ [] in
    let A : Type 0 = IsDone words bytes_at input 0 old now × F in
    let W : Type 0 = (differ : ℕ) × (0 < differ) × (IsDone words bytes_at input differ old now × F) in
    let is = c.without_work-done.ensures ∙ ap without_work c.show_on.ensures.why in
    record {
      status = (
        c.without_work-done.result,
        c.end.ensures,
        nothing_more (kind_of c.in-Err.text) c.without_work-done.result A (NamesConflict words) (NamesNoWork words) is c.in-Err.ensures.refused,
        line_fault (kind_of c.in-Err.text) c.without_work-done.result Of (NamesConflict words) (NamesNoWork words) is c.in-Err.ensures.refused,
        λ (wrong : done ≡ Err Wrong). never_wrong (no_work (kind_of c.in-Err.text)) done W is wrong,
      );
    }
