use Rattle.std.proofs.{Common.{◌≡◌, ◌*◌, length, None, refl, sym, subst}, lemmas.Result.err_from_is_err_and}
use Rattle.board_model.specs.{Durable.Discard, declared.boot_mode.BootMode.BootMode}
use Rattle.disk.specs.Facts.{counted}
use Rattle.store.specs.Views.{view_of, found_state}
use Rattle.board.{specs.{Boots.boot_refusal, Issues.{AreIssued, AreStopped, drops_by}}, proofs.CallsMade.none_dropped_calls}
use Rattle.board.proofs.Issued.{takes_commands, one_issued, one_stopped, free_now, none_dropped}
use Rattle.board.proofs.ready.drop_image.Goals as goal

-- the image was dropped
pub returns-in_ok-apply-in-Discard-clause-issued : goal.returns-in_ok-apply-in-Discard-clause-issued
returns-in_ok-apply-in-Discard-clause-issued g c =
    let old = view_of c.args.store.now in
    let new = view_of c.apply.new.self in
    let asked = c.in_ok-apply-in-Discard.ensures.asked in
    let takes = takes_commands c.args.mode old new c.requires.opened in
    subst (λ (m : BootMode). AreIssued (drops_by m) old new) (sym c.in-Discard.is) (one_issued Discard old new takes asked.stays _ (g.met.D.Disk.may_keep _) refl (asked.answered takes.sure))

-- the disk refused that
pub returns-in_err-apply-in-Discard-clause-stopped : goal.returns-in_err-apply-in-Discard-clause-stopped
returns-in_err-apply-in-Discard-clause-stopped g c =
    let p = err_from_is_err_and c.from_residual.result c.from_residual.ensures.1 in
    let old = view_of c.args.store.now in
    let new = view_of c.apply.new.self in
    let asked = c.in_err-apply-in-Discard.ensures.asked in
    let takes = takes_commands c.args.mode old new c.requires.opened in
    let free = subst (λ (m : BootMode). boot_refusal (found_state c.args.store.now) m ≡ None) c.in-Discard.is c.requires.allowed in
    let e = c.in_err-apply-in-Discard.field-0.0 in
    rw (p.1, p.2) (subst (λ (m : BootMode). AreStopped (drops_by m) old e new) (sym c.in-Discard.is) (one_stopped Discard old new takes asked.stays e (free_now old c.requires.opened Discard free) (asked.answered takes.sure)))

pub returns-in_ok-apply-in-Discard-clause-calls : goal.returns-in_ok-apply-in-Discard-clause-calls
returns-in_ok-apply-in-Discard-clause-calls g c =
    let a = (view_of c.args.store.now).disk.calls in
    let b = (view_of c.apply.new.self).disk.calls in
    subst (λ (m : BootMode). b ≡ counted a (4 * length (drops_by m))) (sym c.in-Discard.is) c.in_ok-apply-in-Discard.ensures.calls

pub returns-in-Fresh : goal.returns-in-Fresh
returns-in-Fresh g c = record {
  issued = none_dropped c.args.mode (view_of c.args.store.now) (g.met.D.Disk.only_now _) c.requires.opened c.in-Fresh.is;
  stopped = tt;
  calls = none_dropped_calls c.args.mode _ (g.met.D.Disk.bounded_calls _) c.in-Fresh.is;
}
