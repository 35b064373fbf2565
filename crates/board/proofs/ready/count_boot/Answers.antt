use Rattle.std.proofs.{Common.{rules, ◌≡◌, ◌*◌, true, false, is_some, List, length, refl, sym, subst}, lemmas.Result.err_from_is_err_and}
use Rattle.board_model.specs.Durable.{Change, Attempt}
use Rattle.disk.specs.Facts.{counted}
use Rattle.store.specs.Views.{view_of, now_state}
use Rattle.board.{specs.Issues.{AreIssued, AreStopped}, proofs.CallsMade.no_call}
use Rattle.board.proofs.Issued.{none_to_issue, one_issued, one_stopped, counts_boot, counts_none, attempt_taken}
use Rattle.board.proofs.ready.count_boot.Goals as goal

-- the boot was counted
pub returns-in_ok-apply-clause-issued : goal.returns-in_ok-apply-clause-issued
returns-in_ok-apply-clause-issued g c =
    let old = view_of c.args.store.now in
    let new = view_of c.apply.new.self in
    let takes = c.requires in
    let asked = c.in_ok-apply.ensures.asked in
    let tried : is_some (now_state c.args.store.now).trial ≡ true = search rules in
    subst (λ (cs : List Change). AreIssued cs old new) (sym (counts_boot (now_state c.args.store.now).trial tried)) (one_issued Attempt old new takes asked.stays _ (g.met.D.Disk.may_keep _) refl (asked.answered takes.sure))

-- the disk refused that
pub returns-in_err-apply-clause-stopped : goal.returns-in_err-apply-clause-stopped
returns-in_err-apply-clause-stopped g c =
    let p = err_from_is_err_and c.from_residual.result c.from_residual.ensures.1 in
    let old = view_of c.args.store.now in
    let new = view_of c.apply.new.self in
    let takes = c.requires in
    let asked = c.in_err-apply.ensures.asked in
    let tried : is_some (now_state c.args.store.now).trial ≡ true = search rules in
    let e = c.in_err-apply.field-0.0 in
    rw (p.1, p.2) (subst (λ (cs : List Change). AreStopped cs old e new) (sym (counts_boot (now_state c.args.store.now).trial tried)) (one_stopped Attempt old new takes asked.stays e (attempt_taken (now_state c.args.store.now) tried) (asked.answered takes.sure)))

-- no trial stands
pub returns-else-is_some-clause-issued : goal.returns-else-is_some-clause-issued
returns-else-is_some-clause-issued g c =
    let old = view_of c.args.store.now in
    let tried : is_some (now_state c.args.store.now).trial ≡ false = search rules in
    subst (λ (cs : List Change). AreIssued cs old old) (sym (counts_none (now_state c.args.store.now).trial tried)) (none_to_issue old (g.met.D.Disk.only_now _) c.requires)

pub returns-in_ok-apply-clause-calls : goal.returns-in_ok-apply-clause-calls
returns-in_ok-apply-clause-calls g c =
    let a = (view_of c.args.store.now).disk.calls in
    let b = (view_of c.apply.new.self).disk.calls in
    let tried : is_some (now_state c.args.store.now).trial ≡ true = search rules in
    subst (λ (cs : List Change). b ≡ counted a (4 * length cs)) (sym (counts_boot (now_state c.args.store.now).trial tried)) c.in_ok-apply.ensures.calls

pub returns-else-is_some-clause-calls : goal.returns-else-is_some-clause-calls
returns-else-is_some-clause-calls g c =
    let a = (view_of c.args.store.now).disk.calls in
    let tried : is_some (now_state c.args.store.now).trial ≡ false = search rules in
    subst (λ (cs : List Change). a ≡ counted a (4 * length cs)) (sym (counts_none (now_state c.args.store.now).trial tried)) (no_call a (g.met.D.Disk.bounded_calls _))
