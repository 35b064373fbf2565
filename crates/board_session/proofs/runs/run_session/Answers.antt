use Rattle.std.proofs.Common.{ap}
use Rattle.board_session.{proofs.FilesLeft.has_run, specs.Dialogues.output_of}
use Rattle.board_session.proofs.runs.run_session.Goals as goal

pub returns : goal.returns
returns g c =
    let facts = g.D.Disk.facts in
    let output = output_of g.O.Write.contents in
    let setup = c.args.setup.now in
    let end = c.session-end.result in
    has_run setup.options.now setup.payloads.now (facts c.args.disk) (facts end.disk) end.moments.at (g.I.Read.remaining c.args.streams.input) (output c.args.streams.out)
    (output c.begin.new.out) _ (output end.streams.out) end.console_left _ _ end.ran c.session-end.ensures.ended
    (λ none. ap (λ s. output s.out) (c.session-end.ensures.unheard none).0) c.begin.ensures
