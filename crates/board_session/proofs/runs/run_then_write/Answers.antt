use Rattle.board_session.proofs.runs.run_then_write.Goals as goal

pub returns : goal.returns
returns g c = (c.run_session-end.result.ran, c.run_session-end.result.moments.at, c.run_session-end.ensures, c.write_at_the_end-ended.ensures)
