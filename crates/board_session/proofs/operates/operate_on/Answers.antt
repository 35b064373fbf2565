use Rattle.std.proofs.Common.{inl, inr, map, refl, string_bytes}
use Rattle.clap.specs.Words.{kind_of}
use Rattle.command_line.specs.Told.{fault_of}
use Rattle.board_files.specs.contracts.file_disk.FileDiskDisk.TheImpl as file_disk
use Rattle.simdisk.specs.contracts.device.SimDiskDisk.TheImpl as sim_disk
use Rattle.board_session.{specs.Dialogues.output_of, proofs.{FilesLeft.asks_for_none, Statuses.{gives_none, no_usage}}}
use Rattle.board_session.specs.Operated.{GiveNoOptions, known}
use Rattle.board_session.proofs.operates.operate_on.Goals as goal

pub returns-in-Ok-clause-status : goal.returns-in-Ok-clause-status
returns-in-Ok-clause-status g c =
    (fault_of c.run_from_files-done.result.ended, c.end_with.ensures.status, inl (c.in-Ok.options, c.in-Ok.ensures.reads, c.run_from_files-done.ensures))

pub returns-in-Err-clause-status : goal.returns-in-Err-clause-status
returns-in-Err-clause-status g c =
    (fault_of c.no_work-done.result, c.end_with-in-Err.ensures.status, inr (c.show_on-why.result, asks_for_none (map g.S.AsStr.text c.args.words.now) (kind_of c.in-Err.text) c.show_on-why.result c.show_on-why.ensures.why c.in-Err.ensures.refused, c.no_work-done.ensures, refl))

pub returns-in-Ok-clause-usage : goal.returns-in-Ok-clause-usage
returns-in-Ok-clause-usage g c = λ two.
    let kept = file_disk.facts-value g.row.B-Kept g.B.Kept.SectorFile g.B.Kept.SectorFile-dict g.B.Kept.Destruct-dict in
    let options = c.in-Ok.options in
    let done = c.run_from_files-done.result in
    let s = known (g.B.BoardFiles.disk_at c.args.files.now (string_bytes options.disk)) (g.I.Read.remaining c.args.streams.input)
    (output_of g.O.Write.contents c.args.streams.out) (output_of g.O.Write.contents done.out) in
    no_usage g.B.Held.DiskFile.bytes g.B.Held.HeldFile.left sim_disk.facts-value.it kept.it g.B.Kept.SectorFile.file_facts options
    (g.B.BoardFiles.left_at c.args.files.now (string_bytes options.disk)) s (GiveNoOptions (map g.S.AsStr.text c.args.words.now))
    (g.B.PayloadFiles.bytes_at c.args.files.now) done.file_left (fault_of done.ended) c.end_with.result c.run_from_files-done.ensures c.end_with.ensures.status two

pub returns-in-Err-clause-usage : goal.returns-in-Err-clause-usage
returns-in-Err-clause-usage g c = λ two.
    let words = map g.S.AsStr.text c.args.words.now in
    let why = c.show_on-why.result in
    gives_none words why (fault_of c.no_work-done.result) c.end_with-in-Err.result
    (asks_for_none words (kind_of c.in-Err.text) why c.show_on-why.ensures.why c.in-Err.ensures.refused) c.no_work-done.ensures c.end_with-in-Err.ensures.status two
