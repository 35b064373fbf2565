-- What a format answers, by what the disk was.
use Rattle.std.proofs.Common.{◌≡◌, ◌≢◌, ◌≤◌, inl, inr, [], None, Result, Err, refl, sym, ◌∙◌, ap, subst, length, arith}
use Rattle.board_model.specs.{Durable.formatted, Kept.nothing_kept, Shapes.{Size, sectors_of}, Views.number_of_refusal}
use Rattle.board_model.specs.declared.refusal.Refusal.{Refusal, TheVariants.{AlreadyFormatted, Device}}
use Rattle.disk.specs.{Facts.{Content, Facts, Passes, Stays}, FaultState.{FaultState, Cause}}
use Rattle.simdisk.specs.{declared.SimDisk.SimDisk, contracts.device.SimDiskDisk.TheImpl.Laws.may_keep-law}
use Rattle.store.specs.{Leaves.{IsBlank, IsKept, IsMarked, LeavesOnly, SameLength}, Formats.WritesHead}
use Rattle.store.specs.Opens.{CausedRefusal, FormatRefused}
use Rattle.report_lines.specs.declared.printed.Answer.{Answer}
use Rattle.report_lines.specs.declared.printed.Printed.TheVariants as printed
use Rattle.bench_report.specs.{Views.{facts, fault_state}, Bench.{DiskState, Blank, Unknown, Formatted, Bench}, PowerOns.FormatsOn}
use Rattle.bench_report.specs.{Happens.{says, failed, formatted_anew, unknown}, Sides.{SidesOf, SidesAre}, Agree.{DiskIs, DeviceIs, OffIs}}
use Rattle.bench_report.proofs.{Devices.{is_device, five, fails_as, stays_as}, Sides.{sides_stay, recorded, formatted_sides}, Ended.left_on}
use Rattle.bench_report.proofs.{Adapted.{struck, calm, failed_format, no_down}, KeptDisks.{KeptLaw, BlankLaw, MarkLaw, less, passed}}

-- what a format leaves of a disk that begins with the mark
abbrev pub MarkedClause : SimDisk → SimDisk → Type 0
MarkedClause old new = IsMarked (facts old).content → Passes (facts old) (facts new) Stays

pub same_error : {T : Type 0} {e f : Refusal} → ◌≡◌ {A = Result T Refusal} (Err e) (Err f) → e ≡ f
same_error h = cc

fresh : (size : Size) (new : Facts) → LeavesOnly new size formatted → DiskIs size Formatted nothing_kept new
fresh size new h = (h.kept, λ s l. ([], inl refl, (h.only size s l).1))

-- a bench after a format, which keeps the payloads
abbrev Formats : Size → DiskState → Bench → Answer → SimDisk → Type 0
Formats size m b a new = (x : Bench) × FormatsOn m b a x × OffIs size x new × (x.payloads ≡ b.payloads)

module _ (marks : MarkLaw) (size : Size) (b : Bench) (old new : SimDisk) (left : LeavesOnly (facts new) size formatted) (order : WritesHead (facts old) (facts new)) where
  -- gate and records after a format: those of a blank disk alone are known
  anew_of : (m : DiskState) → DiskIs size m b.kept (facts old) → (IsMarked (facts old).content → ⊥) → ((c : Content) → (facts old).may_leave c → SidesOf m b.kept size c) → (c : Content) → (facts new).may_leave c → SidesOf Formatted nothing_kept size c
  unfolding IsBlank IsKept
  anew_of Blank was unmarked sides c may =
      let before = order.crash.now c may in
      let stands = left.kept c may in
      formatted_sides size before.0 c (was before.0 before.1) (marks c size stands.0 stands.1) before.2 (recorded size c stands.0 stands.1) (sides before.0 before.1)
  anew_of Unknown was unmarked sides c may = absurd (sides (facts old).content (may_keep-law old))
  anew_of Formatted was unmarked sides c may = absurd (unmarked (let stands = was.0 (facts old).content (may_keep-law old) in marks (facts old).content size stands.0 stands.1))

  pub anew : DiskIs size b.disk_state b.kept (facts old) → (IsMarked (facts old).content → ⊥) → SidesAre size b (facts old) → SidesAre size (formatted_anew b) (facts new)
  anew was unmarked sides clean c may = anew_of b.disk_state was unmarked (sides clean) c may

pub formats_ok : KeptLaw → (size : Size) (m : DiskState) (b : Bench) (old new : SimDisk) (a : Answer) → b.power ≡ None → DiskIs size m b.kept (facts old) → DeviceIs size (formatted_anew b) (fault_state new) (facts new) → a ≡ says printed.Formatted
    → LeavesOnly (facts new) size formatted → (IsMarked (facts old).content → ⊥) → Formats size m b a new
formats_ok law size Blank b old new a off was device e ok unmarked = (formatted_anew b, inl (e, refl), (off, fresh size (facts new) ok, device), refl)
formats_ok law size Unknown b old new a off was device e ok unmarked = (formatted_anew b, inl (e, refl), (off, fresh size (facts new) ok, device), refl)
formats_ok law size Formatted b old new a off was device e ok unmarked = absurd (unmarked (law.marked old size was.0))

refused : (a : Answer) (e f : Refusal) → a ≡ says (printed.FormatRefused (number_of_refusal e)) → e ≡ f → a ≡ says (printed.FormatRefused (number_of_refusal f))
refused a e f h g = h ∙ ap (λ x. says (printed.FormatRefused (number_of_refusal x))) g

-- a refused format of a board that is off
module _ (kept : KeptLaw) (blank : BlankLaw) (size : Size) (b : Bench) (old new : SimDisk) (a : Answer) (e : Refusal) (off : b.power ≡ None) (device : DeviceIs size b (fault_state old) (facts old))
    (refusal : FormatRefused (facts old) size e (facts new)) (marked : MarkedClause old new) (cause : CausedRefusal (fault_state old) e (fault_state new)) (no_fewer : (facts old).failures ≤ (facts new).failures)
    (fits : SameLength (facts old) (facts new)) (h : a ≡ says (printed.FormatRefused (number_of_refusal e))) where
  hinders : (c : Bench) → c.fault_state ≡ b.fault_state → c.failures ≡ b.failures → c.power ≡ None → DiskIs size c.disk_state c.kept (facts new) → e ≡ Device
      → (x : Bench) × ((a ≡ says (printed.FormatRefused 5)) × ((n : FaultState) × Cause c.fault_state n × (x ≡ failed n c))) × OffIs size x new
  hinders c same count off disk is =
      let x = fails_as size b c (fault_state old) (fault_state new) (facts old) (facts new) device same count (struck e (fault_state old) (fault_state new) cause is) (failed_format (facts old) size e (facts new) refusal is) fits in
      (failed (fault_state new) c, (refused a e Device h is, x.0), (off, disk, x.1))

  keeps : e ≢ Device → SidesAre size b (facts new) → DeviceIs size b (fault_state new) (facts new)
  keeps is sides = stays_as size b b (fault_state old) (fault_state new) (facts old) (facts new) device refl refl (calm e (fault_state old) (fault_state new) cause (no_down (facts old) size e (facts new) refusal) is) no_fewer fits sides

  -- a disk of which nothing is known is no clean bench's
  never_clean : b.disk_state ≡ Unknown → SidesAre size b (facts new)
  never_clean at clean c left =
      let P : DiskState → Type 0 = λ m. SidesOf m b.kept size (facts old).content in
      absurd (subst P at (device.3 clean (facts old).content (may_keep-law old)))

  large : sectors_of size ≤ length (facts old).content
  large = omega (arith, device.2)

  pub formats_err : (m : DiskState) → b.disk_state ≡ m → DiskIs size m b.kept (facts old) → Formats size m b a new
  formats_err Blank at was =
      let x = hinders (unknown b) refl refl off tt (blank.formats old new size e was large refusal) in (x.0, inr x.1, x.2, ap (λ (y : Bench). y.payloads) x.1.1.2)
  formats_err Unknown at was =
      let P : DiskState → Type 0 = λ m. DiskIs size m b.kept (facts new) in
      elim (is_device e) [
        | inl is ↦ (let x = hinders b refl refl off (subst P (sym at) tt) is in (x.0, inr (inl x.1), x.2, ap (λ (y : Bench). y.payloads) x.1.1.2))
        | inr is ↦ (b, inr (inr (number_of_refusal e, (λ n. is (five e n)), h, refl)), (off, subst P (sym at) tt, keeps is (never_clean at)), refl)
      ]
  formats_err Formatted at was =
      let P : DiskState → Type 0 = λ m. DiskIs size m b.kept (facts new) in
      let passes : Passes (facts old) (facts new) Stays = marked (kept.marked old size was.0) in
      let sides : SidesAre size b (facts new) = sides_stay size b (facts old) (facts new) (passed old new passes) device.3 in
      let now : DiskIs size Formatted b.kept (facts new) = left_on kept.goes_on size Formatted b.kept old new was (less old new (passed old new passes)) in
      elim (kept.formats old new size e large refusal) [
        | inl f ↦ (b, inl (refused a e AlreadyFormatted h f, refl), (off, subst P (sym at) now, keeps (λ d. (let no : ⊥ = cc in no)) sides), refl)
        | inr f ↦ (let x = hinders b refl refl off (subst P (sym at) now) f in (x.0, inr x.1, x.2, ap (λ (y : Bench). y.payloads) x.1.1.2))
      ]
