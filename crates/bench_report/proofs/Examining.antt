-- A disk that was examined.
use Rattle.std.proofs.Common.{◌≡◌, ◌≢◌, inl, inr, None, Some, length, refl, sym, ◌∙◌, ap}
use Rattle.board_model.specs.{Kept.Kept, Shapes.Size, Views.number_of_refusal, declared.refusal.Refusal.Refusal}
use Rattle.board_model.specs.declared.refusal.Refusal.TheVariants.{NotFormatted, BadShape, Device, Memory}
use Rattle.disk.specs.Facts.{Content}
use Rattle.simdisk.specs.{declared.SimDisk.SimDisk, contracts.device.SimDiskDisk.TheImpl.Laws.may_keep-law}
use Rattle.store.specs.{Leaves.{IsBlank, IsKept, Leaves, ReadsAlone}, Opens.{IsBoard, CausedRefusal}}
use Rattle.store.specs.{Standing.{selected, state_of, image_of, StandsFor}, Inspects.{KeepsImage, IsInspected, InspectRefused}}
use Rattle.store.specs.declared.inspects.Inspection.{Inspection}
use Rattle.report_lines.specs.declared.printed.Answer.{Answer}
use Rattle.report_lines.specs.declared.printed.Printed.TheVariants as printed
use Rattle.bench_report.{specs.{Views.{facts, fault_state}, Bench.{DiskState, Blank, Unknown, Formatted, Bench}}, proofs.Ended.left_on}
use Rattle.bench_report.specs.{Happens.{says, failed, out_of_memory}, Examined.{ReadsOf, MayRead, HasImage, InspectsOn, AnswersOf}}
use Rattle.bench_report.{specs.Agree.{DiskIs, DeviceIs, OffIs}, proofs.{Devices.{fails_by_fault, stays, stays_as}, Sides.starved_sides}}
use Rattle.bench_report.proofs.KeptDisks.{GoesOn, less, passed}

-- what a read gives is a content that a crash may leave
reads_of : (m : DiskState) (k : Kept) (size : Size) (disk : SimDisk) → DiskIs size m k (facts disk) → (facts disk).may_leave (facts disk).content → ReadsOf m k size (facts disk).content
unfolding IsBlank IsKept Leaves
reads_of Blank k size disk was left = was (facts disk).content left
reads_of Unknown k size disk was left = tt
reads_of Formatted k size disk was left =
    let found = was.0 (facts disk).content left in
    (found.0, was.1 found.0 ((facts disk).content, left, found.1), found.1)

-- a record that keeps an image stands for a state that has one
has_image : (size : Size) (c : Content) → IsBoard size c → ((saved : _) × KeepsImage size c saved) → HasImage c
unfolding StandsFor
has_image size c board (saved, (r, is, keeps)) =
    (size, state_of size r c, (selected c, r, record { board = board.0; enough = board.1; gate = refl; is = is }, refl), some)
  where
    some : image_of size r.image c ≢ None
    some f = let g : image_of size (Some saved) c ≡ None = sym (ap (λ i. image_of size i c) keeps) ∙ f in let no : ⊥ = cc in no

module _ (goes_on : GoesOn) (size : Size) (b : Bench) (old new : SimDisk) (a : Answer) (was : OffIs size b old) (alone : ReadsAlone (facts old) (facts new)) where
  device : DeviceIs size b (fault_state old) (facts old)
  device = was.2

  may_read : MayRead size b (facts old).content
  may_read = (device.2, reads_of b.disk_state b.kept size old was.1 (may_keep-law old), λ clean. device.3 clean (facts old).content (may_keep-law old))

  disk : DiskIs size b.disk_state b.kept (facts new)
  disk = left_on goes_on size b.disk_state b.kept old new was.1 (less old new (passed old new alone.crash))

  starves : fault_state new ≡ fault_state old → DeviceIs size (out_of_memory b) (fault_state new) (facts new)
  starves same = stays_as size b (out_of_memory b) (fault_state old) (fault_state new) (facts old) (facts new) device refl refl same alone.no_fewer (ap length alone.content) (starved_sides size (out_of_memory b) b.growths (facts new) refl)

  still : fault_state new ≡ fault_state old → DeviceIs size b (fault_state new) (facts new)
  still same = stays size b (fault_state old) (fault_state new) (facts old) (facts new) device same alone.no_fewer (ap length alone.content) (passed old new alone.crash)

  abbrev pub Examines : Type 0
  Examines = (after : Bench) × InspectsOn size b a after × OffIs size after new × (after.payloads ≡ b.payloads)

  pub examined : (i : Inspection) → ((z : Size) × IsBoard z (facts old).content × IsInspected z (facts old).content i) → fault_state new ≡ fault_state old → a ≡ says (printed.Inspected i) → Examines
  examined i seen same e = (b, inl ((facts old).content, may_read, inl (printed.Inspected i, seen, e, refl)), (was.0, disk, still same), refl)

  pub refused : (e : Refusal) → InspectRefused (facts old) e (facts new) → CausedRefusal (fault_state old) e (fault_state new) → a ≡ says (printed.InspectRefused (number_of_refusal e)) → Examines
  refused NotFormatted why cause e = (b, inl ((facts old).content, may_read, inl (printed.InspectRefused 1, inl (refl, why), e, refl)), (was.0, disk, still cause), refl)
  refused BadShape why cause e = (b, inl ((facts old).content, may_read, inl (printed.InspectRefused 3, inr (refl, why), e, refl)), (was.0, disk, still cause), refl)
  refused Device why cause e =
      let x = fails_by_fault size b (fault_state old) (fault_state new) (facts old) (facts new) device cause why (ap length alone.content) in
      (failed (fault_state new) b, inr (e, x.0), (was.0, disk, x.1), refl)
  refused Memory why cause e =
      (out_of_memory b, inl ((facts old).content, may_read, inr (has_image why.0 (facts old).content why.1 why.2, e, refl)), (was.0, disk, starves cause), refl)
  refused e why cause is = absurd why

-- the same of the content itself
pub answers_ok : (c : Content) (i : Inspection) (a : Answer) → ((z : Size) × IsBoard z c × IsInspected z c i) → a ≡ says (printed.Inspected i) → AnswersOf c a
answers_ok c i a seen e = inl (printed.Inspected i, seen, e)

pub answers_err : (old new : SimDisk) (e : Refusal) (a : Answer) → InspectRefused (facts old) e (facts new) → a ≡ says (printed.InspectRefused (number_of_refusal e)) → AnswersOf (facts old).content a
answers_err old new NotFormatted a why e = inl (printed.InspectRefused 1, inl (refl, why), e)
answers_err old new BadShape a why e = inl (printed.InspectRefused 3, inr (refl, why), e)
answers_err old new Device a why e = inr (inl e)
answers_err old new Memory a why e = inr (inr (has_image why.0 (facts old).content why.1 why.2, e))
answers_err old new e a why is = absurd why
