-- What is armed.
use Rattle.std.{proofs.Common.{◌≡◌, false, Option, None, Some, refl}, specs.{Prelude.{◌↔◌}, Option.is_some}}
use Rattle.disk.specs.{FaultState.Unarmed, declared.device.ArmedFault.{ArmedFault, TheVariants.{FailAt, CutAt, FailLane, CutLane}}}
use Rattle.simdisk.specs.Armings.{arming}

pub none_armed : (armed : Option ArmedFault) → (is_some armed ≡ false) ↔ (arming armed ≡ Unarmed)
none_armed None = ((λ e. refl), (λ e. refl))
none_armed (Some (FailAt n)) = ((λ e. absurd (let no : ⊥ = cc in no)), (λ e. absurd (let no : ⊥ = cc in no)))
none_armed (Some (CutAt n)) = ((λ e. absurd (let no : ⊥ = cc in no)), (λ e. absurd (let no : ⊥ = cc in no)))
none_armed (Some (FailLane lane n)) = ((λ e. absurd (let no : ⊥ = cc in no)), (λ e. absurd (let no : ⊥ = cc in no)))
none_armed (Some (CutLane lane n)) = ((λ e. absurd (let no : ⊥ = cc in no)), (λ e. absurd (let no : ⊥ = cc in no)))
