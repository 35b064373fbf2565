use Rattle.board_session.proofs.runs.run_in_file.Goals as goal

pub returns : goal.returns
returns g c = λ bytes.
    let end = c.run_session-disk.result in
    (end.disk, end.ran, c.run_session-disk.ensures, c.into_file.ensures.now, c.into_file.ensures.ever, c.into_file.ensures.since, c.as_file_fault.ensures)
