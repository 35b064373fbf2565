use Rattle.std.proofs.{Common.{◌≡◌, None, inl, inr, refl, sym, subst}, lemmas.Result.err_from_is_err_and}
use Rattle.board_model.specs.{Durable.Consume, declared.boot_mode.BootMode.BootMode}
use Rattle.store.specs.Views.{size_of_store, view_of, found_state, now_state}
use Rattle.board.specs.{Boots.boot_refusal, Issues.{AreIssued, AreStopped}, Moments.commands_by}
use Rattle.board.proofs.Issued.{takes_commands, free_now, one_issued, one_stopped, is_issued, is_unissued, not_loaded}
use Rattle.board.proofs.CallsMade.{resumed_calls, by_load, by_disk}
use Rattle.board.proofs.ready.begin.Goals as goal

-- the image was consumed
pub returns-in_ok-resume-in-Resume-clause-issued : goal.returns-in_ok-resume-in-Resume-clause-issued
returns-in_ok-resume-in-Resume-clause-issued g c =
    let did = c.in_ok-resume-in-Resume.ensures in
    let old = view_of c.args.store.now in
    let new = view_of c.resume.new.store in
    let opened = c.requires.opened in
    let takes = takes_commands c.args.mode old new opened in
    is_issued c.args.mode old new opened (subst (λ (m : BootMode). AreIssued (commands_by m (found_state c.args.store.now)) old new) (sym c.in-Resume.is)
    (one_issued Consume old new takes did.stays did.consumed.0 (g.met.D.Disk.may_keep _) refl (did.consumed.1.answered takes.sure)))

-- the image was not loaded, or its consumption was refused
pub returns-in_err-resume-in-Resume-clause-unissued : goal.returns-in_err-resume-in-Resume-clause-unissued
returns-in_err-resume-in-Resume-clause-unissued g c =
    let p = err_from_is_err_and c.from_residual-in_err-resume-in-Resume.result c.from_residual-in_err-resume-in-Resume.ensures.1 in
    let why = c.in_err-resume-in-Resume.ensures in
    let old = view_of c.args.store.now in
    let new = view_of c.resume.new.store in
    let opened = c.requires.opened in
    let takes = takes_commands c.args.mode old new opened in
    let free = subst (λ (m : BootMode). boot_refusal (found_state c.args.store.now) m ≡ None) c.in-Resume.is c.requires.allowed in
    let e = c.in_err-resume-in-Resume.field-0.0 in
    rw (p.1, p.2) (elim (why.refused) [
      | inl u ↦ not_loaded c.args.mode old new (now_state c.args.store.now) _ e (g.met.D.Disk.only_now _) opened why.stays u.why u.left.life u.left.crash
      | inr k ↦ is_unissued c.args.mode old new opened e (subst (λ (m : BootMode). AreStopped (commands_by m (found_state c.args.store.now)) old e new) (sym c.in-Resume.is)
          (one_stopped Consume old new takes why.stays e (free_now old opened Consume free) (k.1.answered takes.sure)))
    ])

-- ---- how many calls of the disk were made
pub returns-in_ok-resume-in-Resume-clause-calls : goal.returns-in_ok-resume-in-Resume-clause-calls
returns-in_ok-resume-in-Resume-clause-calls g c = resumed_calls c.args.mode (size_of_store c.args.store.now) (found_state c.args.store.now) _ _ c.in-Resume.is c.in_ok-resume-in-Resume.ensures.calls

pub returns-in_err-issue_boot-in-Fresh-clause-calls : goal.returns-in_err-issue_boot-in-Fresh-clause-calls
returns-in_err-issue_boot-in-Fresh-clause-calls g c =
    let p = err_from_is_err_and c.from_residual.result c.from_residual.ensures.1 in
    rw (p.1, p.2) (by_disk (size_of_store c.args.store.now) _ _ _ c.in_err-issue_boot-in-Fresh.ensures.refused.0)

pub returns-in_err-resume-in-Resume-clause-calls : goal.returns-in_err-resume-in-Resume-clause-calls
returns-in_err-resume-in-Resume-clause-calls g c =
    let p = err_from_is_err_and c.from_residual-in_err-resume-in-Resume.result c.from_residual-in_err-resume-in-Resume.ensures.1 in
    let why = c.in_err-resume-in-Resume.ensures in
    let old = view_of c.args.store.now in
    let new = view_of c.resume.new.store in
    let opened = c.requires.opened in
    let takes = takes_commands c.args.mode old new opened in
    let free = subst (λ (m : BootMode). boot_refusal (found_state c.args.store.now) m ≡ None) c.in-Resume.is c.requires.allowed in
    let e = c.in_err-resume-in-Resume.field-0.0 in
    rw (p.1, p.2) (elim (why.refused) [
      | inl u ↦ by_load old.size (now_state c.args.store.now) _ old.disk old.fault_state e new.disk new.fault_state old.disk.calls new.disk.calls u.why why.stops
      | inr k ↦ by_disk old.size e old.disk.calls new.disk.calls (one_stopped Consume old new takes why.stays e (free_now old opened Consume free) (k.1.answered takes.sure)).by_disk
    ])
