-- The laws of the store, for the disk in memory.
use Rattle.std.{specs.Prelude.{◌≡◌, ◌⊎◌, ◌≤◌, ◌<◌, length}, proofs.Common.{inl, sym, subst}}
use Rattle.board_model.specs.{Durable.DurableState, Shapes.{Size, IsSize, sectors_of}, declared.refusal.Refusal.Refusal}
use Rattle.board_model.specs.declared.refusal.Refusal.TheVariants.{NotFormatted, AlreadyFormatted, Device, Memory}
use Rattle.disk.specs.Facts.{Content, Passes, Stays}
use Rattle.simdisk.specs.declared.SimDisk.{SimDisk}
use Rattle.store.specs.{Leaves.{Leaves, IsBlank, IsKept, IsMarked, NoMore, LeftAsBefore}, Standing.StandsFor}
use Rattle.store.specs.Opens.{OpenRefused, FormatRefused}
use Rattle.bench_report.{specs.Views.facts, proofs.Sides.LeavesFewer}

-- no content may be left that could not be left before, but for its state in a record of version 2
abbrev pub LeavesLess : SimDisk → SimDisk → Type 0
LeavesLess old new = (c : Content) → (facts new).may_leave c → LeftAsBefore (facts old) c

-- what the law of kept disks says where a crash leaves no more than before
abbrev pub GoesOn : Type 0
GoesOn = (old new : SimDisk) → LeavesLess old new
    → (IsBlank (facts old) → IsBlank (facts new)) × ((size : Size) → IsKept (facts old) size → IsKept (facts new) size) × NoMore (facts old) (facts new)

-- the law of kept disks
pub record KeptLaw : Type 0 where
  pub goes_on : GoesOn
  pub marked : (disk : SimDisk) (size : Size) → IsKept (facts disk) size → IsMarked (facts disk).content
  pub one_size : (disk : SimDisk) (y z : Size) (s : DurableState) → Leaves (facts disk) z s → IsKept (facts disk) y → y ≡ z
  pub sized : (disk : SimDisk) (size : Size) (s : DurableState) → Leaves (facts disk) size s → IsSize size
  pub opens : (disk new : SimDisk) (size : Size) (e : Refusal) → IsKept (facts disk) size → OpenRefused (facts disk) e (facts new) → (e ≡ Device) ⊎ (e ≡ Memory)
  pub formats : (disk new : SimDisk) (size : Size) (e : Refusal) → sectors_of size ≤ length (facts disk).content → FormatRefused (facts disk) size e (facts new)
      → (e ≡ AlreadyFormatted) ⊎ (e ≡ Device)

-- the law of blank disks
pub record BlankLaw : Type 0 where
  pub unmarked : (disk : SimDisk) → IsBlank (facts disk) → IsMarked (facts disk).content → ⊥
  pub stands : (disk : SimDisk) (size : Size) (s : DurableState) → IsBlank (facts disk) → Leaves (facts disk) size s → ⊥
  pub opens : (disk new : SimDisk) (e : Refusal) → IsBlank (facts disk) → 0 < length (facts disk).content → OpenRefused (facts disk) e (facts new) → (e ≡ NotFormatted) ⊎ (e ≡ Device)
  pub formats : (disk new : SimDisk) (size : Size) (e : Refusal) → IsBlank (facts disk) → sectors_of size ≤ length (facts disk).content → FormatRefused (facts disk) size e (facts new) → e ≡ Device

-- each content that stands for a state begins with the mark
abbrev pub MarkLaw : Type 0
MarkLaw = (c : Content) (size : Size) (s : DurableState) → StandsFor c size s → IsMarked c

-- what could be left before, and nothing else
pub less : (old new : SimDisk) → LeavesFewer (facts old) (facts new) → LeavesLess old new
less old new fewer c l = inl (fewer c l)

-- what a call passes that changes nothing was there before
pub passed : (old new : SimDisk) → Passes (facts old) (facts new) Stays → LeavesFewer (facts old) (facts new)
passed old new passes c l = let was = passes.now c l in let P : Content → Type 0 = λ x. (facts old).may_leave x in subst P (sym was.2) was.1
