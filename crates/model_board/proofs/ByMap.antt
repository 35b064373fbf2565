-- A step that keeps a map, and one that is local by it, by its footprint; and what such a step makes of a machine and a board.
use Rattle.std.proofs.Common.{ℕ, Bool, true, false, IsTrue, List, ◌≡◌, ◌≢◌, ◌⊎◌, ◌+◌, ◌%◌, ◌^◌, ◌<◌, length, slice_index, refl, sym, ap, ◌∙◌, subst, inl, inr, Option, Some, None, arith}
use Rattle.std.{specs.Prelude.{get_or, slice_set}, proofs.lemmas.List.{ext_get_or, get_or-set_same}}
use Rattle.board_model.specs.Shapes.{Size}
use Rattle.hart.specs.{State.{ArchState, never_started}, Means.Steps, declared.Outcome.{Outcome, TheVariants.Next}}
use Rattle.hart.proofs.{Decided.{unless, same_number}, Numbered.{step_keeps as number_kept}}
use Rattle.hsm.specs.{States.started, Views.listed}
use Rattle.rv_decode.specs.declared.instr.Instr.TheVariants as instr
use Rattle.sbi_abi.specs.Calls.{call_of}
use Rattle.sbi_calls.specs.{Requests.request_of, Both.TableState}
use Rattle.susp.specs.declared.buses.Doze.{Doze}
use Rattle.turns.specs.Turns.{has_pending}
use Rattle.machine.specs.Machine.{Machine, hart_at}
use Rattle.model_board.specs.{Touches.WritesWord, Footprints.Covers, Masks.{MaySend, IsAloneBy}, Maps.{Map, StepKeeps, StepsAlone, MovesTo}}
use Rattle.model_board.{specs.{Plain.IsPlain, declared.footprints.Footprint.Footprint}, proofs.Frames.{step_long, step_changes}}
use Rattle.model_board.proofs.Kept.{shown, hart_is, number_is}

-- ---- by its footprint
pub keeps_by : (map : Map) (h : ℕ) (size : Size) (p : Bool) (s : ArchState) (m : List ℕ) (f : Footprint) → Covers p s m f → ((k : ℕ) → f.fetched ≡ Some k → IsTrue (map.reads h k)) → ((k : ℕ) → f.loaded ≡ Some k → IsTrue (map.reads h k)) → ((k : ℕ) → f.stored ≡ Some k → IsTrue (map.writes h k))
    → (f.calls ≡ false) ⊎ MaySend map h (request_of size (call_of s)) → StepKeeps map h size p s m
keeps_by map h size p s m f covers fetches loads stores calls = record {
  reads = λ k r. elim (covers.reads k r) [ inl e ↦ fetches k e | inr e ↦ loads k e ];
  writes = λ k w. stores k (covers.writes k w);
  sends = λ t x. elim calls [ inl none ↦ absurd (covers.calls none x.comes) | inr may ↦ may x.targets t x.asks x.named ];
}

pub alone_by : (map : Map) (h : ℕ) (p : Bool) (s t : ArchState) (m n : List ℕ) (f : Footprint) → Covers p s m f → IsAloneBy map h f → Steps p s m t n Next → StepsAlone map h p s m t n
alone_by map h p s t m n f covers alone step = record {
  step = step;
  reads = λ k r. elim (covers.reads k r) [ inl e ↦ alone.fetches k e | inr e ↦ alone.loads k e ];
  writes = λ k w. alone.stores k (covers.writes k w);
  sure = elim alone.sure [
    | inl e ↦ inl (covers.interrupts e)
    | inr rest ↦ elim rest [ inl e ↦ inr (inl (covers.pending e)) | inr hears ↦ inr (inr hears) ]
  ];
}

-- ---- a step after which the hart stands at the same instruction
next_moves : (n : ℕ) → (n + 4) % 2 ^ 64 ≡ n → ⊥
next_moves n e = omega (arith, e)

store_moves : (p : Bool) (s t : ArchState) (m n : List ℕ) (o : Outcome) (k : ℕ) → Steps p s m t n o → (o ≡ Next → t.pc ≡ s.pc) → WritesWord p s m k → ⊥
store_moves p s t m n o k x still w =
    let y = x.instruction w.comes.fetches.calm w.comes.fetches.aligned w.comes.fetches.inside (instr.Store w.op w.rs1 w.rs2 w.imm) w.comes.spelled in
    let stored = y.0.0 w.accesses.aligned w.accesses.inside in
    next_moves s.pc (sym (ap (λ (u : ArchState). u.pc) stored.1) ∙ still y.1)

pub step_still : (p : Bool) (s t : ArchState) (m n : List ℕ) (o : Outcome) → Steps p s m t n o → (o ≡ Next → t.pc ≡ s.pc) → n ≡ m
step_still p s t m n o x still =
    ext_get_or 0 n m (step_long p s t m n o x) (λ j within. unless (same_number (slice_index n j) (slice_index m j)) (λ d. step_changes p s t m n o j x d (store_moves p s t m n o _ x still)))

-- ---- of a machine
module _ (map : Map) (size : Size) (memory : List ℕ) (doze : Option Doze) (harts : List ArchState) (table : TableState) (old : Machine) (h : ℕ)
    (view : shown size memory doze harts table ≡ old) (p : IsPlain size memory harts table) (below : h < old.size.harts) where
  inside : h < length harts
  inside = subst (λ (k : ℕ). h < k) (sym p.long) (subst (λ (m : Machine). h < m.size.harts) (sym view) below)

  -- the hart's pc is that of the step
  pub machine_steps : (i : ℕ) (x y : ArchState) (n : List ℕ) → i ≡ h → x ≡ get_or harts i x → (y.pc ≡ x.pc → ⊥) → (hart_at (shown size n doze (slice_set harts i y) table) h).pc ≡ (hart_at old h).pc → ⊥
  machine_steps i x y n at found moves same =
      let e : x ≡ get_or harts h (never_started h) = hart_is harts i h x at inside found in
      let there : get_or (slice_set harts i y) h (never_started h) ≡ y = subst (λ (k : ℕ). get_or (slice_set harts k y) h (never_started h) ≡ y) (sym at) (get_or-set_same harts h y (never_started h) inside) in
      let here : (hart_at old h).pc ≡ x.pc = ap (λ (m : Machine). (hart_at m h).pc) (sym view) ∙ ap (λ (s : ArchState). s.pc) (sym e) in
      moves (ap (λ (s : ArchState). s.pc) (sym there) ∙ (same ∙ here))

  pub machine_moves : (i : ℕ) (x y : ArchState) (n : List ℕ) (pending : Bool) → i ≡ h → x ≡ get_or harts i x → old.doze ≡ None → listed table.states h ≡ started → pending ≡ has_pending h table.pairs → StepsAlone map x.id pending x memory y n → y ≢ x
      → MovesTo map h old (shown size n doze (slice_set harts i y) table)
  machine_moves i x y n pending at found awake runs asked alone moves =
      let e : x ≡ get_or harts h (never_started h) = hart_is harts i h x at inside found in
      let numbered : x.id ≡ h = number_is harts i h x p.numbered at inside found in
      let here : StepsAlone map h (has_pending h table.pairs) (get_or harts h (never_started h)) memory y n =
      subst (λ (s : ArchState). StepsAlone map h (has_pending h table.pairs) s memory y n) e
      (subst (λ (q : Bool). StepsAlone map h q x memory y n) asked (subst (λ (k : ℕ). StepsAlone map k pending x memory y n) numbered alone)) in
      subst (λ (m : Machine). MovesTo map h m (shown size n doze (slice_set harts i y) table)) view (
        y,
        n,
        record {
          numbered = p.numbered h inside;
          known = inside;
          counted = subst (λ (m : Machine). h < m.size.harts) (sym view) below;
          awake = subst (λ (m : Machine). m.doze ≡ None) (sym view) awake;
          runs = subst (λ (k : ℕ). listed table.states k ≡ started) (sym (p.numbered h inside)) runs;
          alone = subst (λ (k : ℕ). StepsAlone map h (has_pending k table.pairs) (get_or harts h (never_started h)) memory y n) (sym (p.numbered h inside)) here;
          changes = λ same _. moves (same ∙ sym e);
        },
        ap (λ (k : ℕ). shown size n doze (slice_set harts k y) table) at,
      )

-- whether such a step was made or nothing changed, the hart has its number and the memory its size
pub record Stays (x y : ArchState) (m n : List ℕ) : Type 0 where
  pub number : y.id ≡ x.id
  pub memory : length n ≡ length m

pub alone_stays : (map : Map) (h : ℕ) (p : Bool) (x y : ArchState) (m n : List ℕ) (made : Bool) → (made ≡ true → StepsAlone map h p x m y n) → (made ≡ false → (y ≡ x) × (n ≡ m)) → Stays x y m n
alone_stays map h p x y m n true alone stays =
    let step = (alone refl).step in
    record { number = number_kept p x y m n Next step; memory = step_long p x y m n Next step }
alone_stays map h p x y m n false alone stays =
    let same = stays refl in
    record { number = ap (λ (s : ArchState). s.id) same.0; memory = ap (λ (b : List ℕ). length b) same.1 }
