-- A disk that was written past the firmware.
use Rattle.std.proofs.Common.{◌≡◌, true, false, List, ℕ, Option, Result, Ok, Err, refl, sym, ◌∙◌, subst, arith, MatchResult}
use Rattle.std.specs.declared.alloc.AllocError.{AllocError}
use Rattle.board_model.specs.Shapes.{Size}
use Rattle.disk.specs.{Calls.NoCall, Facts.{Facts, Unchanged}}
use Rattle.simdisk.specs.declared.SimDisk.{SimDisk}
use Rattle.store.specs.Leaves.{SameLength}
use Rattle.bench_report.specs.{declared.power.Power.Power, Views.{facts, fault_state}, Bench.{BenchLife, Bench}, Asides.AsideStep}
use Rattle.bench_report.specs.{Happens.{says, written_past}, Deeds.WritePast, Agree.{DeviceIs, OffIs, Agrees, Matches, StepsTo}}
use Rattle.bench_report.{specs.Sides.SidesAre, proofs.{Devices.stays_as, Sides.{LeavesFewer, sides_stay}, Ended.left_on}}
use Rattle.bench_report.proofs.KeptDisks.{GoesOn, less}
use Rattle.report_lines.specs.declared.printed.Answer.{Answer}
use Rattle.report_lines.specs.declared.printed.Printed.TheVariants as printed

device : (size : Size) (b x : Bench) (old new : SimDisk) → DeviceIs size b (fault_state old) (facts old) → x.fault_state ≡ b.fault_state → x.failures ≡ b.failures → SidesAre size x (facts new)
    → NoCall (facts old) (facts new) (fault_state old) (fault_state new) → SameLength (facts old) (facts new) → DeviceIs size x (fault_state new) (facts new)
device size b x old new was fault failures sides same long = stays_as size b x (fault_state old) (fault_state new) (facts old) (facts new) was fault failures same.cause (omega (arith, same.failures)) long sides

-- a disk that was written past the firmware is no clean bench's
past_firmware : (size : Size) (b : Bench) (disk : Facts) → SidesAre size (written_past b) disk
past_firmware size b disk clean c may = absurd (let no : true ≡ false = clean.1 in let never : ⊥ = cc in never)

pub poked_off : (size : Size) (b : Bench) (old new : SimDisk) (a : Answer) → OffIs size b old → NoCall (facts old) (facts new) (fault_state old) (fault_state new) → SameLength (facts old) (facts new)
    → a ≡ says printed.Poked → (after : Bench) × AsideStep WritePast b.power b a after × OffIs size after new × (after.payloads ≡ b.payloads)
poked_off size b old new a was same long e =
    let x : Bench = written_past b in
    let P : Option BenchLife → Type 0 = λ p. AsideStep WritePast p b a x in
    (x, subst P (sym was.0) (e, refl), (was.0, tt, device size b x old new was.2 refl refl (past_firmware size b (facts new)) same long), refl)

-- a poke that was refused memory
pub not_poked : GoesOn → (size : Size) (b : Bench) (old new : SimDisk) → OffIs size b old → NoCall (facts old) (facts new) (fault_state old) (fault_state new) → SameLength (facts old) (facts new)
    → Unchanged (facts old) (facts new) → OffIs size b new
not_poked goes_on size b old new was same long still =
    let fewer : LeavesFewer (facts old) (facts new) = λ c may. (still.now c).0 may in
    (was.0, left_on goes_on size b.disk_state b.kept old new was.1 (less old new fewer), device size b b old new was.2 refl refl (sides_stay size b (facts old) (facts new) fewer was.2.3) same long)

-- with the payloads, which a poke keeps
pub poke_matches : (size : Size) (b : Bench) (r : Result Answer AllocError) (after : Power) (payloads : List (List ℕ)) → payloads ≡ b.payloads
    → MatchResult r (λ answer. StepsTo size b after (AsideStep WritePast b.power b answer)) (λ e. Agrees size b after)
    → MatchResult r (λ answer. (new : Bench) × AsideStep WritePast b.power b answer new × Matches size new after payloads) (λ e. Matches size b after payloads)
poke_matches size b (Ok a) after payloads same did = (did.0, did.1, (did.2, same ∙ sym did.3))
poke_matches size b (Err e) after payloads same did = (did, same)
