-- A bench on whose disk a cut or a failure is armed.
use Rattle.std.proofs.Common.{◌≡◌, ◌≤◌, true, false, ℕ, Option, None, Some, Result, sym, ◌∙◌, ap, subst, length}
use Rattle.std.specs.declared.alloc.AllocError.{AllocError}
use Rattle.board_model.specs.Shapes.{Size}
use Rattle.disk.specs.{Facts.{Facts, Unchanged}, FaultState.{FaultState, fault_state_armed}, declared.device.ArmedFault.ArmedFault}
use Rattle.simdisk.specs.declared.SimDisk.{SimDisk}
use Rattle.store.specs.{Lives.{Life as StoreLife}, Views.life_of}
use Rattle.bench_report.specs.Views.{SimBoard, store_in, machine_in, facts, fault_state, store_size, store_facts, store_fault_state, IsLife}
use Rattle.bench_report.specs.{Bench.{BenchLife, Bench}, Asides.AsideStep, Deeds.WritePast, Happens.armed_with, Steps.Step}
use Rattle.bench_report.specs.{Agree.{LifeIs, BoardIs, DeviceIs, OffIs, OnIs, ArmsIts, CutsIts, PokesIts}, declared.power.Power.Power}
use Rattle.bench_report.proofs.{Ended.left_on, KeptDisks.{GoesOn, less}, Sides.sides_stay}
use Rattle.report_lines.specs.declared.printed.Answer.{Answer}
use Rattle.script_lang.specs.declared.line.Line.{Line}
use Rattle.script_lang.specs.declared.line.Line.TheVariants as lines

device : (size : Size) (b : Bench) (a : ArmedFault) (m n : FaultState) (old new : Facts) → DeviceIs size b m old → Unchanged old new → n ≡ fault_state_armed a m → DeviceIs size (armed_with a b) n new
device size b a m n old new was same is =
    let P : ℕ → Type 0 = λ k. b.failures ≤ k in
    (ap (fault_state_armed a) was.0 ∙ sym is, subst P (sym same.failures) was.1, ap length same.content ∙ was.2, sides_stay size b old new (λ c may. (same.now c).0 may) was.3)

pub armed_off : GoesOn → (size : Size) (b : Bench) (a : ArmedFault) (old new : SimDisk) → OffIs size b old → Unchanged (facts old) (facts new) → fault_state new ≡ fault_state_armed a (fault_state old)
    → OffIs size (armed_with a b) new
armed_off goes_on size b a old new was same is =
    (was.0, left_on goes_on size b.disk_state b.kept old new was.1 (less old new (λ c l. (same.now c).0 l)), device size b a (fault_state old) (fault_state new) (facts old) (facts new) was.2 same is)

pub armed_on : (size : Size) (b : Bench) (a : ArmedFault) (old new : SimBoard) → OnIs size b old → machine_in new ≡ machine_in old → life_of (store_in new) ≡ life_of (store_in old)
    → store_size (store_in new) ≡ store_size (store_in old) → Unchanged (store_facts (store_in old)) (store_facts (store_in new)) → store_fault_state (store_in new) ≡ fault_state_armed a (store_fault_state (store_in old))
    → OnIs size (armed_with a b) new
armed_on size b a old new was machine life board same is =
    (by b.power was.0, device size b a (store_fault_state (store_in old)) (store_fault_state (store_in new)) (store_facts (store_in old)) (store_facts (store_in new)) was.1 same is)
  where
    by : (p : Option BenchLife) → BoardIs size b.disk_state b.kept p old → BoardIs size b.disk_state b.kept p new
    by None on = absurd on
    by (Some l) on =
        let P : Size → Type 0 = λ z. LifeIs size b.disk_state b.kept l z in
        let Q : StoreLife → Type 0 = λ x. IsLife x l.now l.receipts l.doubt in
        ((subst P (sym board) on.0.0, subst Q (sym life) on.0.1), machine ∙ on.1)

-- a line that arms a fault makes no call, at which a cut could strike
pub unstruck_arming : (size : Size) (line : Line) (b : Bench) (a : Answer) (new : Bench) (power : Power) → Step size line b a new → b.fault_state.struck ≡ false → new.fault_state.struck ≡ true → ArmsIts line power
unstruck_arming size (lines.Arm arming) b a new power step calm hit =
    absurd (let no : true ≡ false = sym hit ∙ ap (λ (x : Bench). x.fault_state.struck) step.1 ∙ calm in let never : ⊥ = cc in never)
unstruck_arming size line b a new power step calm hit = tt

-- nor does one that cuts power
pub unstruck_cut : (size : Size) (line : Line) (b : Bench) (a : Answer) (new : Bench) (before left : Power) → Step size line b a new → new.fault_state.struck ≡ true → CutsIts line before left
unstruck_cut size (lines.Cut fill) b a new before left step hit =
    absurd (let no : true ≡ false = sym hit ∙ ap (λ (x : Bench). x.fault_state.struck) step.1 in let never : ⊥ = cc in never)
unstruck_cut size line b a new before left step hit = tt

-- nor one that writes past the firmware, with the board on or off
pub unstruck_poke : (size : Size) (line : Line) (b : Bench) (a : Answer) (new : Bench) (before left : Power) (did : Result Answer AllocError) → Step size line b a new → b.fault_state.struck ≡ false → new.fault_state.struck ≡ true
    → PokesIts line before did left
unstruck_poke size (lines.Poke k offset bytes) b a new before left did step calm hit = absurd (by b.power step)
  where
    by : (p : Option BenchLife) → AsideStep WritePast p b a new → ⊥
    by None is = let no : true ≡ false = sym hit ∙ ap (λ (x : Bench). x.fault_state.struck) is.1 ∙ calm in let never : ⊥ = cc in never
    by (Some life) is = let no : true ≡ false = sym hit ∙ ap (λ (x : Bench). x.fault_state.struck) is.1 ∙ calm in let never : ⊥ = cc in never
unstruck_poke size line b a new before left did step calm hit = tt
