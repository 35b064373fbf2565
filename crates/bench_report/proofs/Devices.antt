-- The device below a bench, after a call that failed and after one that did not.
use Rattle.std.proofs.Common.{◌≡◌, ◌≢◌, ◌⊎◌, ◌≤◌, ℕ, inl, inr, refl, sym, ◌∙◌, subst, arith}
use Rattle.board_model.specs.{Durable.DurableState, Kept.MayFind, Shapes.Size, Views.number_of_refusal, declared.refusal.Refusal.Refusal}
use Rattle.board_model.specs.declared.refusal.Refusal.TheVariants.{Device, Memory}
use Rattle.disk.specs.{Facts.{Facts, counted, Failed}, FaultState.{FaultState, Cause}}
use Rattle.simdisk.specs.declared.SimDisk.{SimDisk}
use Rattle.store.specs.Leaves.{SameLength, Leaves}
use Rattle.bench_report.specs.{Bench.{DiskState, Formatted, Bench}, Happens.{failed, FailsByFault, off}, Sides.SidesAre, Views.facts}
use Rattle.bench_report.{specs.Agree.{DiskIs, DeviceIs, OffIs}, proofs.Sides.{LeavesFewer, sides_stay, failed_sides}}

pub is_device : (e : Refusal) → (e ≡ Device) ⊎ (e ≢ Device)
is_device Device = inl refl
is_device e = inr (λ h. (let no : ⊥ = cc in no))

pub is_memory : (e : Refusal) → (e ≡ Memory) ⊎ (e ≢ Memory)
is_memory Memory = inl refl
is_memory e = inr (λ h. (let no : ⊥ = cc in no))

pub five : (e : Refusal) → number_of_refusal e ≡ 5 → e ≡ Device
five Device h = refl
five e h = absurd (omega (arith, h))

pub eleven : (e : Refusal) → number_of_refusal e ≡ 11 → e ≡ Memory
eleven Memory h = refl
eleven e h = absurd (omega (arith, h))

counted_more : (a b : ℕ) → a ≤ b → counted a 1 ≤ counted b 1
counted_more a b h = omega (arith, h)

-- a call failed, for a cause, and was counted, on a bench that another has become since
pub fails_as : (size : Size) (c x : Bench) (m n : FaultState) (old new : Facts) → DeviceIs size c m old → x.fault_state ≡ c.fault_state → x.failures ≡ c.failures → Cause m n → Failed old.failures new.failures → SameLength old new
    → FailsByFault x (failed n x) × DeviceIs size (failed n x) n new
fails_as size c x m n old new is fault failures cause more same =
    let P : FaultState → Type 0 = λ y. Cause y n in
    let count : x.failures ≤ old.failures = omega (arith, failures, is.1) in
    ((n, subst P (sym (fault ∙ is.0)) cause, refl), (refl, omega (arith, counted_more x.failures old.failures count, more), omega (arith, is.2, same), failed_sides size (failed n x) x.failures new refl))

pub fails_by_fault : (size : Size) (c : Bench) (m n : FaultState) (old new : Facts) → DeviceIs size c m old → Cause m n → Failed old.failures new.failures → SameLength old new
    → FailsByFault c (failed n c) × DeviceIs size (failed n c) n new
fails_by_fault size c m n old new is cause more same = fails_as size c c m n old new is refl refl cause more same

-- nothing failed that was answered
pub stays_as : (size : Size) (c x : Bench) (m n : FaultState) (old new : Facts) → DeviceIs size c m old → x.fault_state ≡ c.fault_state → x.failures ≡ c.failures → n ≡ m → old.failures ≤ new.failures → SameLength old new → SidesAre size x new
    → DeviceIs size x n new
stays_as size c x m n old new is fault failures e more same sides = (fault ∙ is.0 ∙ sym e, omega (arith, failures, is.1, more), omega (arith, is.2, same), sides)

-- and no other content may be left than before
pub stays : (size : Size) (c : Bench) (m n : FaultState) (old new : Facts) → DeviceIs size c m old → n ≡ m → old.failures ≤ new.failures → SameLength old new → LeavesFewer old new → DeviceIs size c n new
stays size c m n old new is e more same fewer = stays_as size c c m n old new is refl refl e more same (sides_stay size c old new fewer is.3)

-- what a crash may leave of a formatted disk is what an open may find of the commands that it keeps
pub may_find : (size : Size) (b : Bench) (disk : SimDisk) → OffIs size (off b) disk → (t : DurableState) → Leaves (facts disk) size t → b.disk_state ≡ Formatted → MayFind b.kept t
may_find size b disk is t leaves formatted =
    let P : DiskState → Type 0 = λ m. DiskIs size m b.kept (facts disk) in
    (subst P formatted is.1).1 t leaves
