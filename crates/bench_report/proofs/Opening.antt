-- What an open answers, and the boot after it.
use Rattle.std.proofs.Common.{◌≡◌, ◌≢◌, ◌≤◌, arith, inl, inr, None, refl, sym, ◌∙◌, ap, subst}
use Rattle.board_model.specs.{Durable.DurableState, Kept.{Kept, MayFind}, Shapes.Size, Views.number_of_refusal}
use Rattle.board_model.specs.declared.{refusal.Refusal.{Refusal, TheVariants.{NotFormatted, Device, Memory}}, boot_mode.BootMode.BootMode}
use Rattle.disk.specs.Facts.{Facts}
use Rattle.simdisk.specs.declared.SimDisk.{SimDisk}
use Rattle.store.specs.{Leaves.{Leaves, IsBlank, IsKept, SameLength}, Opens.{CausedRefusal, OpenRefused}}
use Rattle.report_lines.specs.declared.printed.Answer.{Answer}
use Rattle.report_lines.specs.declared.printed.Printed.TheVariants as printed
use Rattle.bench_report.specs.{Views.{facts, fault_state}, Bench.{DiskState, Blank, Unknown, Formatted, Bench}, Sides.SidesAre}
use Rattle.bench_report.specs.{Happens.{says, out_of_memory, failed}, PowerOns.{life_begun, MayStand, Opens, PowersOn}}
use Rattle.bench_report.{specs.Agree.{DiskIs, DeviceIs, LifeIs, OffIs}, proofs.{Sides.{starved_sides, sides_before}, Ended.left_on}}
use Rattle.bench_report.proofs.Devices.{is_device, is_memory, five, eleven, fails_by_fault, stays_as}
use Rattle.bench_report.proofs.{Adapted.{struck, calm, failed_open, never_down}, KeptDisks.{KeptLaw, BlankLaw, LeavesLess}}

-- what an open finds is one of the states that the commands kept let it find; it keeps the command in doubt
-- or drops it
pub opens : (size : Size) (m : DiskState) (b : Bench) (disk : Facts) (z : Size) (s : DurableState) → DiskIs size m b.kept disk → Leaves disk z s → (IsBlank disk → ⊥) → ((y : Size) → IsKept disk y → y ≡ z)
    → (k : Kept) × Opens size m b s z (record b { kept = k }) × LifeIs size m k (life_begun s z) z
opens size Blank b disk z s was leaves formatted one = absurd (formatted was)
opens size Unknown b disk z s was leaves formatted one = (b.kept, refl, refl)
opens size Formatted b disk z s was leaves formatted one =
    let P : Size → Type 0 = λ y. Leaves disk y s in
    let found : MayFind b.kept s = was.1 s (subst P (sym (one size was.0)) leaves) in
    (record { changes = found.0; doubt = None }, (found.0, found.1, found.2, sym (one size was.0), refl), (refl, found.2, sym (one size was.0), refl))

-- an open that was refused, of a board that is off
module _ (kept : KeptLaw) (blank : BlankLaw) (size : Size) (mode : BootMode) (b : Bench) (old new : SimDisk) (a : Answer) (e : Refusal) (off : b.power ≡ None) (device : DeviceIs size b (fault_state old) (facts old))
    (refusal : OpenRefused (facts old) e (facts new)) (cause : CausedRefusal (fault_state old) e (fault_state new)) (no_fewer : (facts old).failures ≤ (facts new).failures)
    (fits : SameLength (facts old) (facts new)) (left : LeavesLess old new) (h : a ≡ says (printed.OnRefused (number_of_refusal e))) where
  abbrev Stays : Type 0
  Stays = (x : Bench) × PowersOn size mode b a x × OffIs size x new × (x.payloads ≡ b.payloads)

  refused : (f : Refusal) → e ≡ f → a ≡ says (printed.OnRefused (number_of_refusal f))
  refused f g = h ∙ ap (λ x. says (printed.OnRefused (number_of_refusal x))) g

  hinders : DiskIs size b.disk_state b.kept (facts new) → e ≡ Device → Stays
  hinders disk is =
      let x = fails_by_fault size b (fault_state old) (fault_state new) (facts old) (facts new) device (struck e (fault_state old) (fault_state new) cause is) (failed_open (facts old) e (facts new) refusal is) fits in
      (failed (fault_state new) b, inr (inr (inr (refused Device is, x.0))), (off, disk, x.1), refl)

  same_cause : e ≢ Device → fault_state new ≡ fault_state old
  same_cause is = calm e (fault_state old) (fault_state new) cause (never_down (facts old) e (facts new) refusal) is

  -- no record of a blank disk is renewed, since it stands for no state
  sides_now : DiskIs size b.disk_state b.kept (facts old) → SidesAre size b (facts new)
  unfolding Leaves
  sides_now was clean c may =
      let P : DiskState → Type 0 = λ m. DiskIs size m b.kept (facts old) in
      sides_before size b.disk_state b.kept (facts old) (λ at x y l renewed. blank.stands old renewed.1 renewed.2 (subst P at was) (x, l, renewed.3)) (device.3 clean) c (left c may)

  keeps : SidesAre size b (facts new) → e ≢ Device → DeviceIs size b (fault_state new) (facts new)
  keeps sides is = stays_as size b b (fault_state old) (fault_state new) (facts old) (facts new) device refl refl (same_cause is) no_fewer fits sides

  starves : MayStand b.disk_state → DiskIs size b.disk_state b.kept (facts new) → e ≡ Memory → Stays
  starves stands disk is =
      let x : Bench = out_of_memory b in
      let same = same_cause (λ d. (let no : ⊥ = cc in no)) in
      let device_now = stays_as size b x (fault_state old) (fault_state new) (facts old) (facts new) device refl refl same no_fewer fits (starved_sides size x b.growths (facts new) refl) in
      (x, inr (inr (inl (stands, refused Memory is, refl))), (off, disk, device_now), refl)

  by_disk_state : (m : DiskState) → b.disk_state ≡ m → SidesAre size b (facts new) → DiskIs size m b.kept (facts old) → DiskIs size b.disk_state b.kept (facts new) → Stays
  by_disk_state Blank at sides was disk =
      elim (blank.opens old new e was (omega (arith, device.2)) refusal) [
        | inl f ↦ (b, inr (inl (1, rw at refl, refused NotFormatted f, refl)), (off, disk, keeps sides (λ d. (let no : ⊥ = cc in no))), refl)
        | inr f ↦ hinders disk f
      ]
  by_disk_state Unknown at sides was disk =
      elim (is_device e) [
        | inl f ↦ hinders disk f
        | inr f ↦ elim (is_memory e) [
          | inl g ↦ starves (rw at tt) disk g
          | inr g ↦ (b, inr (inl (number_of_refusal e, rw at (λ n. f (five e n), λ n. g (eleven e n)), h, refl)), (off, disk, keeps sides f), refl)
        ]
      ]
  by_disk_state Formatted at sides was disk =
      elim (kept.opens old new size e was.0 refusal) [ inl f ↦ hinders disk f | inr f ↦ starves (rw at tt) disk f ]

  pub open_err : DiskIs size b.disk_state b.kept (facts old) → Stays
  open_err was = by_disk_state b.disk_state refl (sides_now was) was (left_on kept.goes_on size b.disk_state b.kept old new was left)
