use Rattle.std.{proofs.Common.{◌∙◌, sym}, specs.Io.Buffered.writer_contents}
use Rattle.command_line.specs.Pipes.{pipe_contents}
use Rattle.board_session.proofs.FileSeen.{ends_closed, ends_open}
use Rattle.board_session.proofs.examines.examine_by.Goals as goal

pub returns-then-is_closed-clause-worked : goal.returns-then-is_closed-clause-worked
returns-then-is_closed-clause-worked g c =
    let contents = writer_contents (pipe_contents g.W.Write.contents) in
    ends_closed (g.D.DiskFiles.disk_at c.args.files.now) c.args.work (contents c.args.out.now) (contents c.do_work-done.new.out) _ _ c.do_work-done.result (sym (rw c.get_ref.ensures at c.is_closed.ensures) ∙ c.if-is_closed.true) c.do_work-done.ensures.done c.do_work-done.ensures.flushed c.do_work-done.ensures.failed c.do_work-done.ensures.untouched

pub returns-clause-worked : goal.returns-clause-worked
returns-clause-worked g c =
    let contents = writer_contents (pipe_contents g.W.Write.contents) in
    ends_open (g.D.DiskFiles.disk_at c.args.files.now) c.args.work (contents c.args.out.now) (contents c.do_work-done.new.out) _ _ c.end_work.result c.do_work-done.result (sym (rw c.get_ref.ensures at c.is_closed.ensures) ∙ c.if-is_closed.false) c.end_work.ensures.status c.do_work-done.ensures.done c.do_work-done.ensures.flushed c.do_work-done.ensures.failed c.do_work-done.ensures.untouched
