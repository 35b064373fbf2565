use Rattle.std.proofs.Common.{◌≡◌, rules, sym, subst}
use Rattle.board_model.specs.declared.refusal.Refusal.TheVariants.{Memory}
use Rattle.store.specs.{Leaves.IsSettled, Views.{disk_of, view_of}}
use Rattle.report_lines.proofs.Recalling.{not_opened, no_room, read_later}
use Rattle.report_lines.proofs.memory.image_memory.Goals as goal

pub returns-in-Err-clause-refused : goal.returns-in-Err-clause-refused
returns-in-Err-clause-refused g c =
    not_opened (g.D.Disk.facts c.args.disk) (g.D.Disk.facts c.in-Err.disk) c.in-Err.refusal c.in-Err.ensures.refused

pub returns-in-Err-new-clause-refused : goal.returns-in-Err-new-clause-refused
returns-in-Err-new-clause-refused g c =
    let is : c.in-Err-new.refusal ≡ Memory = search rules in
    no_room (g.D.Disk.facts c.args.disk) (view_of c.in-Ok.store) (g.D.Disk.facts c.into_disk.result) c.in-Err-new.refusal c.in-Ok.ensures.opened is

pub returns-in-Ok-load_image-clause-memory : goal.returns-in-Ok-load_image-clause-memory
returns-in-Ok-load_image-clause-memory g c = search rules

pub returns-in-Ok-load_image-clause-settles : goal.returns-in-Ok-load_image-clause-settles
returns-in-Ok-load_image-clause-settles g c =
    let old = g.D.Disk.facts c.args.disk in
    let settled = read_later old (disk_of c.in-Ok.store) (disk_of c.load_image.new.self) c.in-Ok.ensures.settles c.load_image.ensures.reads_alone in
    subst (λ d. IsSettled old (g.D.Disk.facts d)) (sym c.into_disk-in-Ok-load_image.ensures.disk) settled

pub returns-in-Err-load_image-clause-settles : goal.returns-in-Err-load_image-clause-settles
returns-in-Err-load_image-clause-settles g c =
    let old = g.D.Disk.facts c.args.disk in
    let settled = read_later old (disk_of c.in-Ok.store) (disk_of c.load_image.new.self) c.in-Ok.ensures.settles c.load_image.ensures.reads_alone in
    subst (λ d. IsSettled old (g.D.Disk.facts d)) (sym c.into_disk-in-Err-load_image.ensures.disk) settled

pub returns-in-Err-clause-settles : goal.returns-in-Err-clause-settles
returns-in-Err-clause-settles g c = c.in-Err.ensures.settles

pub returns-in-Err-new-clause-settles : goal.returns-in-Err-new-clause-settles
returns-in-Err-new-clause-settles g c =
    subst (λ d. IsSettled (g.D.Disk.facts c.args.disk) (g.D.Disk.facts d)) (sym c.into_disk.ensures.disk) c.in-Ok.ensures.settles
