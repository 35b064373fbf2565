use Rattle.std.{proofs.Common.{◌≡◌, ◌∙◌, Bool, [], IfOk, subst, sym}, specs.Io.Buffered.{writer_buffer, writer_contents, writer_inner}}
use Rattle.command_line.specs.Pipes.{is_closed_pipe, pipe_contents}
use Rattle.bench_program.{specs.Written.{IsMade, IsPut, is_kept, put_text}, proofs.Judged.{did, faults, told_wrong}}
use Rattle.bench_program.proofs.streams.run_work.Goals as goal

pub returns-then-is_kept-clause-wrong : goal.returns-then-is_kept-clause-wrong
returns-then-is_kept-clause-wrong g c = λ is.
    let options = c.args.options.now in
    let script = c.args.script.now in
    let old = writer_contents (pipe_contents g.O.Write.contents) c.args.out.now in
    let now = writer_contents (pipe_contents g.O.Write.contents) c.make_kept-made.new.out in
    let after = writer_contents (pipe_contents g.O.Write.contents) c.ended.new.out in
    let F : Type 0 = writer_buffer c.ended.new.out ≡ [] in
    let P : Bool → Type 0 = λ kept. IfOk c.make_kept-made.result (λ n. IsPut kept (put_text options.tap options.work c.args.payloads script) (IsMade options.work c.args.payloads script) n old now) in
    told_wrong (is_kept options) (put_text options.tap options.work c.args.payloads script) options.work c.args.payloads script old now after c.make_kept-made.result c.ended.result
    (subst P (sym c.if-is_kept.true ∙ c.is_kept.ensures) c.make_kept-made.ensures.made) F (c.ended.ensures.wrong is)

pub returns-clause-worked : goal.returns-clause-worked
returns-clause-worked g c =
    let options = c.args.options.now in
    let script = c.args.script.now in
    let old = writer_contents (pipe_contents g.O.Write.contents) c.args.out.now in
    let now = writer_contents (pipe_contents g.O.Write.contents) c.make-made.new.out in
    let after = writer_contents (pipe_contents g.O.Write.contents) c.ended-2.new.out in
    let F : Type 0 = writer_buffer c.ended-2.new.out ≡ [] in
    let P : Bool → Type 0 = λ kept. IfOk c.make-made.result (λ n. IsPut kept (put_text options.tap options.work c.args.payloads script) (IsMade options.work c.args.payloads script) n old now) in
    did (is_kept options) (put_text options.tap options.work c.args.payloads script) options.work c.args.payloads script old now after c.make-made.result c.ended-2.result
    (subst P (sym c.if-is_kept.false ∙ c.is_kept.ensures) c.make-made.ensures.made) F c.ended-2.ensures.well

pub returns-clause-wrong : goal.returns-clause-wrong
returns-clause-wrong g c = λ is.
    let options = c.args.options.now in
    let script = c.args.script.now in
    let old = writer_contents (pipe_contents g.O.Write.contents) c.args.out.now in
    let now = writer_contents (pipe_contents g.O.Write.contents) c.make-made.new.out in
    let after = writer_contents (pipe_contents g.O.Write.contents) c.ended-2.new.out in
    let F : Type 0 = writer_buffer c.ended-2.new.out ≡ [] in
    let P : Bool → Type 0 = λ kept. IfOk c.make-made.result (λ n. IsPut kept (put_text options.tap options.work c.args.payloads script) (IsMade options.work c.args.payloads script) n old now) in
    told_wrong (is_kept options) (put_text options.tap options.work c.args.payloads script) options.work c.args.payloads script old now after c.make-made.result c.ended-2.result
    (subst P (sym c.if-is_kept.false ∙ c.is_kept.ensures) c.make-made.ensures.made) F (c.ended-2.ensures.wrong is)

pub returns-then-is_kept-clause-faults : goal.returns-then-is_kept-clause-faults
returns-then-is_kept-clause-faults g c =
    let options = c.args.options.now in
    let script = c.args.script.now in
    let old = writer_contents (pipe_contents g.O.Write.contents) c.args.out.now in
    let now = writer_contents (pipe_contents g.O.Write.contents) c.make_kept-made.new.out in
    let P : Bool → Type 0 = λ kept. IfOk c.make_kept-made.result (λ n. IsPut kept (put_text options.tap options.work c.args.payloads script) (IsMade options.work c.args.payloads script) n old now) in
    faults (is_kept options) (put_text options.tap options.work c.args.payloads script) options.work c.args.payloads script old now old c.make_kept-made.result c.ended.result
    (subst P (sym c.if-is_kept.true ∙ c.is_kept.ensures) c.make_kept-made.ensures.made) (is_closed_pipe (writer_inner c.ended.new.out)) c.make_kept-made.ensures.refused c.ended.ensures.faults

pub returns-clause-faults : goal.returns-clause-faults
returns-clause-faults g c =
    let options = c.args.options.now in
    let script = c.args.script.now in
    let old = writer_contents (pipe_contents g.O.Write.contents) c.args.out.now in
    let now = writer_contents (pipe_contents g.O.Write.contents) c.make-made.new.out in
    let P : Bool → Type 0 = λ kept. IfOk c.make-made.result (λ n. IsPut kept (put_text options.tap options.work c.args.payloads script) (IsMade options.work c.args.payloads script) n old now) in
    faults (is_kept options) (put_text options.tap options.work c.args.payloads script) options.work c.args.payloads script old now old c.make-made.result c.ended-2.result
    (subst P (sym c.if-is_kept.false ∙ c.is_kept.ensures) c.make-made.ensures.made) (is_closed_pipe (writer_inner c.ended-2.new.out)) c.make-made.ensures.refused c.ended-2.ensures.faults
