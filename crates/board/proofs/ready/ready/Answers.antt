use Rattle.std.proofs.{Common.{Option, Some, subst}, lemmas.Result.err_from_is_err_and}
use Rattle.board_model.specs.declared.refusal.Refusal.{Refusal}
use Rattle.store.specs.Views.{size_of_store, found_state, view_of}
use Rattle.board.{specs.{Boots.boot_refusal, Unbooted.RefusesMode}, proofs.{Unmoved.unmoved, CallsMade.{by_mode, by_start}}}
use Rattle.board.proofs.Refused.{comes_first, comes_late, refusal_is_quiet, none_refuses, start_is_quiet, start_is_late}
use Rattle.board.proofs.ready.ready.Goals as goal

pub returns-in-Some-clause-unissued : goal.returns-in-Some-clause-unissued
returns-in-Some-clause-unissued g c =
    let refuses = subst (λ (r : Option Refusal). RefusesMode (boot_refusal (found_state c.args.store.now) c.args.mode) r) c.in-Some.is (c.mode_refusal.ensures (found_state c.args.store.now) c.found.ensures) in
    unmoved _ _ (view_of c.args.store.now) (g.met.D.Disk.only_now _) c.requires (refusal_is_quiet _ _ refuses)

pub returns-in-Some-clause-refused : goal.returns-in-Some-clause-refused
returns-in-Some-clause-refused g c =
    let refuses = subst (λ (r : Option Refusal). RefusesMode (boot_refusal (found_state c.args.store.now) c.args.mode) r) c.in-Some.is (c.mode_refusal.ensures (found_state c.args.store.now) c.found.ensures) in
    comes_first (boot_refusal (found_state c.args.store.now) c.args.mode) c.args.mode _ _ (found_state c.args.store.now) c.in-Some.refusal refuses

pub returns-in-Some-clause-calls : goal.returns-in-Some-clause-calls
returns-in-Some-clause-calls g c =
    let refuses = subst (λ (r : Option Refusal). RefusesMode (boot_refusal (found_state c.args.store.now) c.args.mode) r) c.in-Some.is (c.mode_refusal.ensures (found_state c.args.store.now) c.found.ensures) in
    by_mode (boot_refusal (found_state c.args.store.now) c.args.mode) (size_of_store c.args.store.now) c.in-Some.refusal _ refuses

pub returns-in_err-machine-clause-unissued : goal.returns-in_err-machine-clause-unissued
returns-in_err-machine-clause-unissued g c =
    let p = err_from_is_err_and c.from_residual.result c.from_residual.ensures.1 in
    rw (p.1, p.2) (unmoved c.args.mode _ (view_of c.args.store.now) (g.met.D.Disk.only_now _) c.requires (start_is_quiet (size_of_store c.args.store.now) c.args.payloads.now _ c.in_err-machine.ensures.refused))

pub returns-in_err-machine-clause-refused : goal.returns-in_err-machine-clause-refused
returns-in_err-machine-clause-refused g c =
    let p = err_from_is_err_and c.from_residual.result c.from_residual.ensures.1 in
    let s = found_state c.args.store.now in
    let boots = none_refuses (boot_refusal s c.args.mode)
    (subst (λ (r : Option Refusal). RefusesMode (boot_refusal s c.args.mode) r) c.in_default.is (c.mode_refusal.ensures s c.found.ensures)) in
    rw (p.1, p.2) (comes_late (boot_refusal s c.args.mode) c.args.mode (size_of_store c.args.store.now) c.args.payloads.now s _ boots (start_is_late c.args.mode (size_of_store c.args.store.now) c.args.payloads.now s _ c.in_err-machine.ensures.refused))

pub returns-in_err-machine-clause-calls : goal.returns-in_err-machine-clause-calls
returns-in_err-machine-clause-calls g c =
    let p = err_from_is_err_and c.from_residual.result c.from_residual.ensures.1 in
    rw (p.1, p.2) (by_start (size_of_store c.args.store.now) c.args.payloads.now _ _ c.in_err-machine.ensures.refused)

pub returns-in_err-begin-clause-refused : goal.returns-in_err-begin-clause-refused
returns-in_err-begin-clause-refused g c =
    let p = err_from_is_err_and c.from_residual-in_err-begin.result c.from_residual-in_err-begin.ensures.1 in
    let s = found_state c.args.store.now in
    let boots = none_refuses (boot_refusal s c.args.mode)
    (subst (λ (r : Option Refusal). RefusesMode (boot_refusal s c.args.mode) r) c.in_default.is (c.mode_refusal.ensures s c.found.ensures)) in
    rw (p.1, p.2) (comes_late (boot_refusal s c.args.mode) c.args.mode (size_of_store c.args.store.now) c.args.payloads.now s _ boots c.in_err-begin.ensures.refused)

pub returns-in_err-begin-clause-calls : goal.returns-in_err-begin-clause-calls
returns-in_err-begin-clause-calls g c =
    let p = err_from_is_err_and c.from_residual-in_err-begin.result c.from_residual-in_err-begin.ensures.1 in
    rw (p.1, p.2) c.in_err-begin.ensures.calls

pub returns-clause-allowed : goal.returns-clause-allowed
returns-clause-allowed g c =
    let s = found_state c.args.store.now in
    none_refuses _ (subst (λ (r : Option Refusal). RefusesMode (boot_refusal s c.args.mode) r) c.in_default.is (c.mode_refusal.ensures s c.found.ensures))

pub returns-clause-fits : goal.returns-clause-fits
returns-clause-fits g c = c.in_ok-machine.ensures.fits

pub returns-clause-calls : goal.returns-clause-calls
returns-clause-calls g c = c.in_ok-begin.ensures.calls

pub begin-requires-clause-allowed : goal.begin-requires-clause-allowed
begin-requires-clause-allowed g c κs within =
    none_refuses _ (subst (λ (r : Option Refusal). RefusesMode (boot_refusal (found_state c.args.store.now) c.args.mode) r) c.in_default.is (c.mode_refusal.ensures (found_state c.args.store.now) c.found.ensures))

pub returns-in_err-begin-clause-unissued : goal.returns-in_err-begin-clause-unissued
returns-in_err-begin-clause-unissued g c =
    let p = err_from_is_err_and c.from_residual-in_err-begin.result c.from_residual-in_err-begin.ensures.1 in
    rw (p.1, p.2) c.in_err-begin.ensures.unissued

pub returns-clause-issued : goal.returns-clause-issued
returns-clause-issued g c = c.in_ok-begin.ensures.issued

pub returns-clause-begun : goal.returns-clause-begun
returns-clause-begun g c = c.in_ok-begin.ensures.begun
