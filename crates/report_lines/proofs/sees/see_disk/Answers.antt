use Rattle.std.proofs.Common.{rules}
use Rattle.report_lines.{specs.Sights.SeeRefused, proofs.Seeing.refused_later}
use Rattle.store.proofs.Renewing.{read_settled, settled_after}
use Rattle.report_lines.proofs.sees.see_disk.Goals as goal

pub returns-in-Ok-found-clause-settles : goal.returns-in-Ok-found-clause-settles
returns-in-Ok-found-clause-settles g c =
    settled_after (g.D.Disk.facts c.args.disk) (g.D.Disk.facts c.inspect.new.disk) c.in-Ok.ensures.reads_alone (g.D.Disk.facts c.find-disk.result.0) c.find-disk.ensures.settles

pub returns-in-Err-found-clause-refused : goal.returns-in-Err-found-clause-refused
returns-in-Err-found-clause-refused g c =
    let mid = g.D.Disk.facts c.inspect.new.disk in
    let new = g.D.Disk.facts c.find-disk.result.0 in
    let why : SeeRefused mid c.in-Err-found.refusal new = search rules in
    refused_later (g.D.Disk.facts c.args.disk) mid new c.in-Err-found.refusal c.in-Ok.ensures.reads_alone why

pub returns-in-Err-found-clause-settles : goal.returns-in-Err-found-clause-settles
returns-in-Err-found-clause-settles g c =
    settled_after (g.D.Disk.facts c.args.disk) (g.D.Disk.facts c.inspect.new.disk) c.in-Ok.ensures.reads_alone (g.D.Disk.facts c.find-disk.result.0) c.find-disk.ensures.settles

pub returns-in-Err-clause-settles : goal.returns-in-Err-clause-settles
returns-in-Err-clause-settles g c = read_settled (g.D.Disk.facts c.args.disk) (g.D.Disk.facts c.inspect.new.disk) c.in-Err.ensures.reads_alone

pub returns-in-Ok-found-clause-seen : goal.returns-in-Ok-found-clause-seen
returns-in-Ok-found-clause-seen g c = search rules

-- the other way round: what the inspection was refused
pub returns-in-Err-clause-unformatted : goal.returns-in-Err-clause-unformatted
returns-in-Err-clause-unformatted g c reads = c.in-Err.ensures.unformatted reads

pub returns-in-Err-clause-bad_shape : goal.returns-in-Err-clause-bad_shape
returns-in-Err-clause-bad_shape g c reads = c.in-Err.ensures.bad_shape reads

pub returns-in-Err-clause-board : goal.returns-in-Err-clause-board
returns-in-Err-clause-board g c size is = c.in-Err.ensures.board size is

-- a disk that was inspected reads as neither
pub returns-in-Ok-found-clause-unformatted : goal.returns-in-Ok-found-clause-unformatted
returns-in-Ok-found-clause-unformatted g c reads = c.in-Ok.ensures.unformatted reads

pub returns-in-Ok-found-clause-bad_shape : goal.returns-in-Ok-found-clause-bad_shape
returns-in-Ok-found-clause-bad_shape g c reads = c.in-Ok.ensures.bad_shape reads

pub returns-in-Ok-found-clause-board : goal.returns-in-Ok-found-clause-board
returns-in-Ok-found-clause-board g c size is = tt

pub returns-in-Err-found-clause-unformatted : goal.returns-in-Err-found-clause-unformatted
returns-in-Err-found-clause-unformatted g c reads = absurd (c.in-Ok.ensures.unformatted reads)

pub returns-in-Err-found-clause-bad_shape : goal.returns-in-Err-found-clause-bad_shape
returns-in-Err-found-clause-bad_shape g c reads = absurd (c.in-Ok.ensures.bad_shape reads)
