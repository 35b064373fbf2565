use Rattle.std.proofs.Common.{◌≡◌, Bool, Option, Some, false, true, refl, sym, ◌∙◌, ap, subst}
use Rattle.board_model.specs.{Shapes.Size, Views.number_of_refusal}
use Rattle.machine.specs.Machine.{Machine}
use Rattle.susp.specs.Dozes.{can_wake, after_wake}
use Rattle.report_lines.specs.declared.printed.Answer.{Answer}
use Rattle.report_lines.specs.declared.printed.Printed.TheVariants as printed
use Rattle.bench_report.specs.{Agree.{BoardIs, DeviceIs, OnIs, StoreIs}, Asides.{AsideStep, affected, wakes}, Bench.{Bench, BenchLife}}
use Rattle.bench_report.{specs.{Deeds.CallWake, Happens.{says, has_machine, on_with}}, proofs.{Came.has_other, Lines.as_it_was}}
use Rattle.bench_report.specs.Views.{SimBoard, SimStore, machine_in, store_in, store_facts, store_fault_state}
use Rattle.bench_report.proofs.on_lines.wake.Goals as goal

module _ (size : Size) (b : Bench) (life : BenchLife) (old new : SimBoard) (on : b.power ≡ Some life) (was : OnIs size b old) (still : store_in new ≡ store_in old) where
  -- it answers so, and the board is on
  abbrev Woke : Answer → Type 0
  Woke answer = (x : Bench) × AsideStep CallWake (Some life) b answer x × OnIs size x new × (x.payloads ≡ b.payloads)

  here : BoardIs size b.disk_state b.kept (Some life) old
  here = let P : Option BenchLife → Type 0 = λ p. BoardIs size b.disk_state b.kept p old in subst P on was.0

  can : can_wake (machine_in old).doze ≡ can_wake life.machine.doze
  can = ap (λ (m : Machine). can_wake m.doze) here.1

  on_wakes : can_wake (machine_in old).doze ≡ true → machine_in new ≡ record (machine_in old) { doze = after_wake (machine_in old).doze } → Woke (says printed.Woken)
  on_wakes dozes made =
      let next : BenchLife = has_machine (record life.machine { doze = after_wake life.machine.doze }) life in
      let F : Machine → Machine = λ m. record m { doze = after_wake m.doze } in
      let W : Bool → Type 0 = λ k. (says printed.Woken ≡ says (wakes k life).0) × (on_with next b ≡ affected (wakes k life).1 b) in
      let Q : SimStore → Type 0 = λ store. StoreIs size b.disk_state b.kept life store in
      let S : SimStore → Type 0 = λ store. DeviceIs size b (store_fault_state store) (store_facts store) in
      (on_with next b, subst W (sym dozes ∙ can) (refl, refl), ((has_other size b life next.machine (store_in new) refl (subst Q (sym still) here.0), made ∙ ap F here.1), subst S (sym still) was.1), refl)

  on_sleeps_on : (can_wake (machine_in old).doze ≡ true → ⊥) → machine_in new ≡ machine_in old → Woke (says (printed.WakeRefused 18))
  on_sleeps_on not same =
      let W : Bool → Type 0 = λ k. (says (printed.WakeRefused 18) ≡ says (wakes k life).0) × (b ≡ affected (wakes k life).1 b) in
      (b, subst W (sym (not_true (can_wake (machine_in old).doze) not) ∙ can) (refl, refl), as_it_was size b old new was same still, refl)
    where
      not_true : (k : Bool) → (k ≡ true → ⊥) → k ≡ false
      not_true true never = absurd (never refl)
      not_true false never = refl

pub returns-in-Ok : goal.returns-in-Ok
returns-in-Ok c = λ size b life on h.
    let did = c.in-Ok.ensures in
    let old = c.args.board.now in
    let new = c.wake.new.self in
    let P : Answer → Type 0 = λ a. Woke size b life old new on h did.store a in
    subst P (sym c.says.ensures) (on_wakes size b life old new on h did.store (did.ok.0 refl) did.woken)

pub returns-in-Err : goal.returns-in-Err
returns-in-Err c = λ size b life on h.
    let did = c.in-Err.ensures in
    let old = c.args.board.now in
    let new = c.wake.new.self in
    let P : Answer → Type 0 = λ a. Woke size b life old new on h did.store a in
    let number = c.code.ensures ∙ ap number_of_refusal did.refused.0 in
    subst P (sym (c.says-in-Err.ensures ∙ ap (λ n. says (printed.WakeRefused n)) number)) (on_sleeps_on size b life old new on h did.store (λ can. (let e : false ≡ true = did.ok.1 can in let no : ⊥ = cc in no)) did.refused.1)
