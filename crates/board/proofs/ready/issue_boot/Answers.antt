use Rattle.std.proofs.lemmas.Result.{err_from_is_err_and}
use Rattle.store.specs.Views.{view_of}
use Rattle.board.proofs.{Issued.{boot_acknowledged, boot_refused, boot_unissued, drop_stopped, is_unissued, issues}, CallsMade.boot_made}
use Rattle.board.proofs.ready.issue_boot.Goals as goal

-- the image was not dropped
pub returns-in_err-drop_image-clause-refused : goal.returns-in_err-drop_image-clause-refused
returns-in_err-drop_image-clause-refused g c =
    let p = err_from_is_err_and c.from_residual.result c.from_residual.ensures.1 in
    let old = view_of c.args.store.now in
    let new = view_of c.drop_image.new.store in
    let is = drop_stopped c.args.mode old new _ c.requires.opened c.requires.boots c.in_err-drop_image.ensures.stopped in
    rw (p.1, p.2) (is.by_disk, issues c.args.mode old new c.requires.opened _ is)

pub returns-in_err-drop_image-clause-unissued : goal.returns-in_err-drop_image-clause-unissued
returns-in_err-drop_image-clause-unissued g c =
    let p = err_from_is_err_and c.from_residual.result c.from_residual.ensures.1 in
    let old = view_of c.args.store.now in
    let new = view_of c.drop_image.new.store in
    rw (p.1, p.2) (is_unissued c.args.mode old new c.requires.opened _ (drop_stopped c.args.mode old new _ c.requires.opened c.requires.boots c.in_err-drop_image.ensures.stopped))

-- it was dropped, where the mode asks for that, and then a boot was counted
pub returns-clause-issued : goal.returns-clause-issued
returns-clause-issued g c =
    boot_acknowledged c.args.mode (view_of c.args.store.now) (view_of c.drop_image.new.store) (view_of c.count_boot.new.store) c.requires.opened c.in_ok-drop_image.ensures.issued c.requires.boots c.count_boot.result c.count_boot.ensures.issued

pub returns-clause-refused : goal.returns-clause-refused
returns-clause-refused g c =
    boot_refused c.args.mode (view_of c.args.store.now) (view_of c.drop_image.new.store) (view_of c.count_boot.new.store) c.requires.opened c.in_ok-drop_image.ensures.issued c.requires.boots c.count_boot.result c.count_boot.ensures.stopped

pub returns-clause-unissued : goal.returns-clause-unissued
returns-clause-unissued g c =
    boot_unissued c.args.mode (view_of c.args.store.now) (view_of c.drop_image.new.store) (view_of c.count_boot.new.store) c.requires.opened c.in_ok-drop_image.ensures.issued c.requires.boots c.count_boot.result c.count_boot.ensures.stopped

pub returns-clause-calls : goal.returns-clause-calls
returns-clause-calls g c =
    boot_made c.args.mode (view_of c.args.store.now) (view_of c.drop_image.new.store) (view_of c.count_boot.new.store) c.requires.opened c.in_ok-drop_image.ensures.issued c.requires.boots c.count_boot.result _ _ _ c.in_ok-drop_image.ensures.calls c.count_boot.ensures.calls
