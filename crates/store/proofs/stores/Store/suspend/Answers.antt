use Rattle.std.proofs.Common.{◌≡◌, ◌∙◌, ◌≤◌, ℕ, option_map, Result, Ok, Err, OnOk, refl, sym, ap, subst, ⊎_elim, rules, arith}
use Rattle.std.proofs.lemmas.Result.{err_from_is_err_and, IfOk-from_err}
use Rattle.board_model.specs.{Durable.Suspend, declared.{durable.Durable.Durable, refusal.Refusal.Refusal}, Shapes.Size}
use Rattle.board_model.specs.declared.refusal.Refusal.TheVariants.{Device, Down, Memory}
use Rattle.disk.specs.{Facts.{Facts, counted, most}, FaultState.FaultState}
use Rattle.image.specs.Refusals.{WriteRefused}
use Rattle.store.{specs.{Leaves.LeavesOnly, Lives.Suspended, Follows.FitsBoard, Standing.state_of}, proofs.Suspending.now_still}
use Rattle.store.{specs.Views.{life_of, found_state, now_state, view_of}, proofs.{Found.{none_in_doubt, doubt_or_none}, States.up_leaves}}
use Rattle.store.proofs.Answering.{refused_up, then_issued, unwritten, the_error, not_of_memory, by_disk, none_doubted}
use Rattle.store.proofs.stores.Store.suspend.Goals as goal

-- what a refusal to write the area is, and is not
not_written : (a b : Facts) (m n : FaultState) (e : Refusal) → WriteRefused a m e b n → (e ≡ Device → ⊥) → (e ≡ Memory → ⊥) → ⊥
not_written a b m n Device why device memory = device refl
not_written a b m n Memory why device memory = memory refl
not_written a b m n e why device memory = why

more_failed : (a b : Facts) (m n : FaultState) (e : Refusal) → a.failures ≤ most → WriteRefused a m e b n → a.failures ≤ b.failures
more_failed a b m n Device few why = omega (arith, few, why.0)
more_failed a b m n Memory few why = omega (arith, why.0)
more_failed a b m n e few why = absurd why

called_none : (a b : Facts) (m n : FaultState) (e : Refusal) → e ≡ Memory → WriteRefused a m e b n → b.calls ≡ a.calls
called_none a b m n e is why = let early = subst (λ (f : Refusal). WriteRefused a m f b n) is why in early.2

not_down : (a b : Facts) (m n : FaultState) (e : Refusal) → e ≡ Down → WriteRefused a m e b n → ⊥
not_down a b m n e is why = subst (λ (f : Refusal). WriteRefused a m f b n) is why

same_error : (r : Result Durable Refusal) (e f : Refusal) → r ≡ Err e → r ≡ Err f → ◌≡◌ {A = Result ℕ Refusal} (Err e) (Err f)
same_error r e f is also = let same : e ≡ f = cc in ap Err same

five_calls : (r : Result ℕ Refusal) (a b c : ℕ) → b ≡ counted a 1 → OnOk r (c ≡ counted b 4) → OnOk r (c ≡ counted a 5)
five_calls (Ok n) a b c one four = omega (arith, one, four)
five_calls (Err e) a b c one four = tt

pub returns-in_err-durable-clause-asked : goal.returns-in_err-durable-clause-asked
returns-in_err-durable-clause-asked g c =
    let p = err_from_is_err_and c.from_residual.result c.from_residual.ensures.1 in
    let s = c.args.self.now in
    let e = c.in_err-durable.ensures in
    rw (p.1, p.2) (record {
      answered = λ none.
          refused_up (Suspended (FitsBoard s.shape c.args.ram.now c.args.at.hart c.args.at.address)) (view_of s) s.side s.current _ _ (g.met.D.Disk.only_now _) (s.kept.up (none_in_doubt _ s.doubt none)) s.folded
          (record { reseen = record { heads = refl; now = refl }; told = e.refused none })
          (λ is. c.may_suspend.ensures.not_device (c.in_err-durable.was ∙ ap Err is)) (e.up none);
      down = λ d is. (same_error c.may_suspend.result _ _ c.in_err-durable.was (c.may_suspend.ensures.down d is), refl);
      untouched = λ device down memory. refl;
      life = λ is. ⊎_elim (λ none. absurd (e.up (ap (option_map _) none) (the_error _ _ is))) (λ some. s.failed some.0 some.1) (doubt_or_none s.doubt);
      stays = record { board = refl; length = refl; none_out = s.kept.none_out; no_fewer = omega arith; opened = refl };
      remembered = λ is. absurd (c.may_suspend.ensures.not_memory (c.in_err-durable.was ∙ ap Err (the_error _ _ is)));
      as_before = λ not. refl;
    })

pub returns-in-Err-clause-asked : goal.returns-in-Err-clause-asked
returns-in-Err-clause-asked g c =
    let s = c.args.self.now in
    let m = c.write_free.new.self in
    let b = g.D.Disk.facts m.disk in
    let did = c.write_free.ensures in
    let same = did.same in
    let ok = c.in_ok-durable.ensures.ok in
    let a = g.D.Disk.facts s.disk in
    let x = g.D.Disk.fault_state s.disk in
    let y = g.D.Disk.fault_state m.disk in
    let e = c.in-Err.refusal in
    let refused = c.in-Err.ensures.writes.refused in
    let now : now_state s ≡ state_of m.shape m.current b.content = sym (now_still (life_of s) (life_of m) (found_state m) did.writes.life did.writes.reseen) ∙ m.folded in
    let only : LeavesOnly b s.shape (now_state s) = subst (λ (z : Size). LeavesOnly b z (now_state s)) same.3 (subst (LeavesOnly b m.shape) (sym now) (up_leaves b m.shape m.side m.current (m.kept.up (same.0 ∙ ok.0)))) in
    record {
      answered = λ none.
          (unwritten (FitsBoard s.shape c.args.ram.now c.args.at.hart c.args.at.address) (view_of s) (view_of m) (Suspend c.args.at.hart c.args.at.address c.args.at.opaque c.args.ram.now) _ ok.3 did.writes.life did.writes.reseen
          ok.1 ok.2 (search rules) only did.writes.any_moment refused);
      down = λ d is. absurd (none_doubted _ s.doubt d ok.0 is);
      untouched = λ device down memory. absurd (not_written a b x y e refused device memory);
      life = λ is. absurd (not_down a b x y e (the_error _ _ is) refused);
      stays = record { board = same.3; length = did.writes.as_long; none_out = did.writes.none_out; no_fewer = more_failed a b x y e (g.met.D.Disk.bounded _) refused; opened = same.5 };
      remembered = λ is. c.remembers-self.ensures.memory (the_error _ _ is);
      as_before = λ not. c.remembers-self.ensures.other (λ f. not (ap Err f)) ∙ same.6;
    }

pub returns-clause-asked : goal.returns-clause-asked
returns-clause-asked g c =
    let s = c.args.self.now in
    let m = c.write_free.new.self in
    let did = c.write_free.ensures in
    let wrote = c.in-Ok.ensures.writes in
    let ok = c.in_ok-durable.ensures.ok in
    let last = c.issue.ensures.stays in
    record {
      answered = λ none.
          then_issued (FitsBoard s.shape c.args.ram.now c.args.at.hart c.args.at.address) (view_of s) (view_of m) (view_of c.issue.new.self) (Suspend c.args.at.hart c.args.at.address c.args.at.opaque c.args.ram.now) _ ok.3 did.writes.life did.writes.reseen
          did.same.3 wrote.unmoved wrote.no_failure did.writes.selected_still did.writes.live_still did.writes.any_moment (search rules);
      down = λ d is. absurd (none_doubted _ s.doubt d ok.0 is);
      untouched = by_disk c.issue.result _ c.issue.ensures.few;
      life = c.issue.ensures.life;
      stays = record {
        board = last.board ∙ did.same.3;
        length = last.length ∙ did.writes.as_long;
        none_out = last.none_out;
        no_fewer = subst (λ (k : ℕ). k ≤ (g.D.Disk.facts c.issue.new.self.disk).failures) wrote.no_failure last.no_fewer;
        opened = last.opened ∙ did.same.5;
      };
      remembered = λ is. absurd (not_of_memory c.issue.result c.issue.ensures.few is);
      as_before = λ not. c.issue.ensures.memory ∙ did.same.6;
    }

pub returns-clause-calls : goal.returns-clause-calls
returns-clause-calls g c = five_calls c.issue.result _ _ _ c.in-Ok.ensures.writes.calls c.issue.ensures.calls

pub returns-clause-early : goal.returns-clause-early
returns-clause-early g c = λ is. absurd (not_of_memory c.issue.result c.issue.ensures.few is)

pub returns-in-Err-clause-early : goal.returns-in-Err-clause-early
returns-in-Err-clause-early g c = λ is.
    called_none (g.D.Disk.facts c.args.self.now.disk) (g.D.Disk.facts c.write_free.new.self.disk) (g.D.Disk.fault_state c.args.self.now.disk) (g.D.Disk.fault_state c.write_free.new.self.disk) c.in-Err.refusal (the_error _ _ is) c.in-Err.ensures.writes.refused

pub returns-in_err-durable-clause-calls : goal.returns-in_err-durable-clause-calls
returns-in_err-durable-clause-calls g c = IfOk-from_err c.from_residual.result _ c.from_residual.ensures.0
