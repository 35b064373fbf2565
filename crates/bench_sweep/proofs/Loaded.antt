-- An image that stands is loaded, unless the disk's record was refused memory.
use Rattle.std.proofs.Common.{◌≡◌, ◌⊎◌, ℕ, true, false, inl, inr, List, Option, None, Some, Result, Ok, Err, IfOk, refl, sym, ◌∙◌, ap, subst, length}
use Rattle.std.specs.{Prelude.is_some, declared.alloc.AllocError.AllocError}
use Rattle.board_model.specs.{Durable.{DurableState, Image, IsWhole}, Plains.{HasMemory, IsPlainOf}, Shapes.{Size, IsSize, ram_bytes_of}}
use Rattle.board_model.specs.{Views.{durable_of, head_of}, declared.{durable.{Durable.Durable, ImageHead.ImageHead}, plain.Plain.Plain}}
use Rattle.board_model.specs.declared.refusal.Refusal.{Refusal, TheVariants.{Device, NoImage}}
use Rattle.disk.specs.FaultState.{FaultState}
use Rattle.simdisk.specs.declared.SimDisk.{SimDisk}
use Rattle.store.specs.{Lives.{IsLoaded, LoadRefused}, Views.device_of}
use Rattle.bench_report.specs.declared.power.Power.{Power, TheVariants.On}
use Rattle.bench_report.specs.Views.{SimStore, SimBoard, facts, fault_state, store_now, store_size, store_facts, store_fault_state}
use Rattle.report_lines.specs.declared.printed.Printed.{Printed}
use Rattle.bench_sweep.{specs.Runs.{FindsState, FoundSo, PowerFinds, IsSpoilt}, proofs.Left.{plain_is, has_none, has_loaded, fails_itself}}

-- it was put together with that memory
abbrev pub MadeOf : Option Plain → Durable → List ℕ → Type 0
MadeOf plain found memory = (p : Plain) × (plain ≡ Some p) × IsPlainOf found memory p

-- where it has no image
pub found_bare : (plain : Option Plain) (found : Durable) (store : SimStore) (memory : List ℕ) → is_some found.image ≡ false → MadeOf plain found memory → FoundSo plain found store
found_bare plain found store memory bare (p, is, made) = λ size s same image f. (p, is, plain_is s found memory p same made (has_none s.image memory (ap (λ (d : Durable). d.image) (sym same) ∙ none found.image bare)))
  where
    none : (o : Option ImageHead) → is_some o ≡ false → o ≡ None
    none None e = refl
    none (Some x) e = cc

-- where its image was loaded
pub found_loaded : (plain : Option Plain) (found : Durable) (store board : SimStore) (memory bytes : List ℕ) → store ≡ board → IsLoaded (store_now store) memory → bytes ≡ memory → MadeOf plain found bytes → FoundSo plain found board
found_loaded plain found store board memory bytes here loaded same (p, is, made) = λ size s found_is image f.
    let L : List ℕ → Type 0 = λ m. IsLoaded (store_now store) m in
    let S : SimStore → Type 0 = λ x. HasMemory bytes (store_now x).image in
    let H : Option Image → Type 0 = λ o. HasMemory bytes o in
    (p, is, plain_is s found bytes p found_is made (subst H (sym image) (subst S here (has_loaded (store_now store).image bytes (subst L (sym same) loaded)))))

-- what the law says of an image that has the memory of its board
abbrev WholeLoads : Type 0
WholeLoads =
    (old new : SimDisk) (size : Size) (s : DurableState) (memory : List ℕ) (e : Refusal) → IsSize size → IsWhole size s → length memory ≡ ram_bytes_of size
    → LoadRefused size s memory (facts old) (fault_state old) e (facts new) (fault_state new) → (e ≡ Device) ⊎ ((e ≡ NoImage) × (s.image ≡ None))

-- its load is refused only where the disk's record was refused memory
module _ (found : Durable) (store new : SimStore) (memory : List ℕ) (e : Refusal) (long : length memory ≡ ram_bytes_of (store_size store)) (has : is_some found.image ≡ true)
    (refused : LoadRefused (store_size store) (store_now store) memory (store_facts store) (store_fault_state store) e (store_facts new) (store_fault_state new)) where
  spoils : WholeLoads → (size : Size) (s : DurableState) → found ≡ durable_of s → s.image ≡ (store_now store).image → FindsState size store → IsSpoilt (store_fault_state new)
  spoils law size s same image f =
      by (law (device_of store) (device_of new) (store_size store) (store_now store) memory e (subst (λ (z : Size). IsSize z) (sym f.sized) f.is_size) (subst (λ (z : Size). IsWhole z (store_now store)) (sym f.sized) f.whole) long refused)
    where
      by : (e ≡ Device) ⊎ ((e ≡ NoImage) × ((store_now store).image ≡ None)) → IsSpoilt (store_fault_state new)
      by (inl is) =
          let P : Refusal → Type 0 = λ x. LoadRefused (store_size store) (store_now store) memory (store_facts store) (store_fault_state store) x (store_facts new) (store_fault_state new) in
          fails_itself (store_fault_state store) (store_fault_state new) f.left (subst P is refused).2
      by (inr (is, none)) = absurd (let n : true ≡ false = sym has ∙ ap (λ (o : Option ImageHead). is_some o) (ap (λ (d : Durable). d.image) same ∙ ap head_of (image ∙ none)) in let no : ⊥ = cc in no)

  pub not_loaded : WholeLoads → (r : Result (Option Plain) AllocError) (board : SimStore) (disk : SimDisk) → store ≡ board → fault_state disk ≡ store_fault_state new → IfOk r (λ plain. IsSpoilt (fault_state disk) → ⊥)
      → IfOk r (λ plain. FoundSo plain found board)
  not_loaded law (Err x) board disk here left whole = tt
  not_loaded law (Ok plain) board disk here left whole =
      let B : SimStore → Type 0 = λ x. FoundSo plain found x in
      subst B here (λ size s same image f. absurd (whole (subst (λ (m : FaultState). IsSpoilt m) (sym left) (spoils law size s same image f))))

-- of a board that is on
pub on_found : (r : Result (Option Plain) AllocError) (power : Power) (board : SimBoard) (found : Option Durable) (said : Printed) → power ≡ On board → IfOk r (λ plain. (size : Size) (x : Printed) → PowerFinds size (On board) found x plain)
    → IfOk r (λ plain. (size : Size) → PowerFinds size power found said plain)
on_found (Err e) power board found said is told = tt
on_found (Ok plain) power board found said is told = λ size. (let P : Power → Type 0 = λ p. PowerFinds size p found said plain in subst P (sym is) (told size said))
