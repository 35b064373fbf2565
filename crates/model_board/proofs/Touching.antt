-- A footprint has all that a step touches.
use Rattle.std.proofs.Common.{ℕ, Bool, true, false, List, ◌≡◌, ◌+◌, ◌*◌, ◌/◌, ◌%◌, length, refl, sym, ap, ◌∙◌, subst, inl, inr, if◌then◌else◌, eq-eqb, Option, Some, None, true≢false}
use Rattle.std.{specs.Prelude.{◌==◌, ◌&&◌, nat_le}, proofs.lemmas.Bool.le-leb}
use Rattle.hart.specs.{State.{ArchState, reg}, Csrs.{csr_number, csr_read, flag}, Means.{sum, load_bytes, store_bytes, word_at}}
use Rattle.hart.{specs.declared.csr.Csr.TheVariants.{Sip, Sstatus, Sie}, proofs.Obeyed.HasOne}
use Rattle.rv_decode.specs.{Spells.{spells, Reads}, declared.instr.Instr.Instr}
use Rattle.rv_decode.specs.declared.instr.Instr.TheVariants as instr
use Rattle.rv_decode.specs.declared.ops.SystemOp.TheVariants as system
use Rattle.model_board.specs.Touches.{word_of, ComesTo, Accesses, LoadsWord, WritesWord, AccessesSip, IsOpen}
use Rattle.model_board.specs.{Footprints.{accessed, touch_read, footprint_at, Covers}, declared.footprints.Footprint.Footprint}
use Rattle.model_board.specs.declared.footprints.Touch.{Touch}
use Rattle.model_board.specs.declared.footprints.Touch.TheVariants as touch

-- ---- the word of an access
if_all : (a b c : Bool) (x : ℕ) → a ≡ true → b ≡ true → c ≡ true → (if a && (b && c) then Some x else None) ≡ Some x
if_all true true true x p q r = refl
if_all true true false x p q r = absurd (true≢false (sym r))
if_all true false c x p q r = absurd (true≢false (sym q))
if_all false b c x p q r = absurd (true≢false (sym p))

accesses_told : (m : List ℕ) (a n k : ℕ) → Accesses m a n k → accessed m a n ≡ Some k
accesses_told m a n k x =
    if_all (a % n == 0) (nat_le 0x80000000 a) (nat_le (a + n) (0x80000000 + length m)) (word_of a) (eq-eqb (a % n) 0 x.aligned) (le-leb 0x80000000 a x.inside.0) (le-leb (a + n) (0x80000000 + length m) x.inside.1)
    ∙ ap (λ (w : ℕ). Some w) (sym x.word)

-- ---- an instruction
-- the word is that of the instruction
comes_read : HasOne → (d : Option Instr) (i : Instr) (w : ℕ) → Reads d w → spells i w → d ≡ Some i
comes_read one None i w reads x = absurd (reads i x)
comes_read one (Some j) i w reads x = ap (λ (k : Instr). Some k) (one j i w reads x)

fetched_at : (t : Touch) (m : List ℕ) (k : ℕ) (opened : Bool) → (footprint_at t m k opened).fetched ≡ Some k
fetched_at touch.Nothing m k opened = refl
fetched_at (touch.Loads n a) m k opened = refl
fetched_at (touch.Stores n a) m k opened = refl
fetched_at (touch.Exchanges sip) m k opened = refl
fetched_at touch.Calls m k opened = refl

calm_at : (t : Touch) (m : List ℕ) (k : ℕ) (opened : Bool) → (footprint_at t m k opened).interrupts ≡ false
calm_at touch.Nothing m k opened = refl
calm_at (touch.Loads n a) m k opened = refl
calm_at (touch.Stores n a) m k opened = refl
calm_at (touch.Exchanges sip) m k opened = refl
calm_at touch.Calls m k opened = refl

opened_at : (t : Touch) (m : List ℕ) (k : ℕ) → (footprint_at t m k true).pending ≡ true
opened_at touch.Nothing m k = refl
opened_at (touch.Loads n a) m k = refl
opened_at (touch.Stores n a) m k = refl
opened_at (touch.Exchanges true) m k = refl
opened_at (touch.Exchanges false) m k = refl
opened_at touch.Calls m k = refl

both : (b : Bool) → b ≡ true → b ≡ false → ⊥
both b p q = true≢false (sym p ∙ q)

-- what is pending is asked where interrupts are open
asked_at : (t : Touch) (m : List ℕ) (k : ℕ) (opened : Bool) (s : ArchState) → (opened ≡ false → IsOpen s → ⊥) → (footprint_at t m k opened).pending ≡ false → IsOpen s → ⊥
asked_at t m k true s never e o = both (footprint_at t m k true).pending (opened_at t m k) e
asked_at t m k false s never e o = never refl o

module _ (one : HasOne) (p : Bool) (s : ArchState) (m : List ℕ) (d : Option Instr) (reads : Reads d (word_at m s.pc)) where
  load_at : (opened : Bool) (k : ℕ) → LoadsWord p s m k → (footprint_at (touch_read d s) m (word_of s.pc) opened).loaded ≡ Some k
  load_at opened k x =
      let e : d ≡ Some (instr.Load x.op x.rd x.rs1 x.imm) = comes_read one d _ (word_at m s.pc) reads x.comes.spelled in
      subst (λ (i : Option Instr). (footprint_at (touch_read i s) m (word_of s.pc) opened).loaded ≡ Some k) (sym e) (accesses_told m (sum (reg s x.rs1) x.imm) (load_bytes x.op) k x.accesses)

  store_at : (opened : Bool) (k : ℕ) → WritesWord p s m k → (footprint_at (touch_read d s) m (word_of s.pc) opened).stored ≡ Some k
  store_at opened k x =
      let e : d ≡ Some (instr.Store x.op x.rs1 x.rs2 x.imm) = comes_read one d _ (word_at m s.pc) reads x.comes.spelled in
      subst (λ (i : Option Instr). (footprint_at (touch_read i s) m (word_of s.pc) opened).stored ≡ Some k) (sym e) (accesses_told m (sum (reg s x.rs1) x.imm) (store_bytes x.op) k x.accesses)

  sip_at : (opened : Bool) → AccessesSip p s m → (footprint_at (touch_read d s) m (word_of s.pc) opened).pending ≡ true
  sip_at opened x =
      elim x.comes [
        | inl c ↦ (
            let e : d ≡ Some (instr.Csr x.op x.rd x.source (csr_number Sip)) = comes_read one d _ (word_at m s.pc) reads c.spelled in
            subst (λ (i : Option Instr). (footprint_at (touch_read i s) m (word_of s.pc) opened).pending ≡ true) (sym e) refl)
        | inr c ↦ (
            let e : d ≡ Some (instr.CsrImm x.op x.rd x.source (csr_number Sip)) = comes_read one d _ (word_at m s.pc) reads c.spelled in
            subst (λ (i : Option Instr). (footprint_at (touch_read i s) m (word_of s.pc) opened).pending ≡ true) (sym e) refl)
      ]

  call_at : (opened : Bool) → ComesTo p s m (instr.System system.Ecall) → (footprint_at (touch_read d s) m (word_of s.pc) opened).calls ≡ true
  call_at opened c =
      let e : d ≡ Some (instr.System system.Ecall) = comes_read one d _ (word_at m s.pc) reads c.spelled in
      subst (λ (i : Option Instr). (footprint_at (touch_read i s) m (word_of s.pc) opened).calls ≡ true) (sym e) refl

  pub covers_at : (opened : Bool) → (opened ≡ false → IsOpen s → ⊥) → Covers p s m (footprint_at (touch_read d s) m (word_of s.pc) opened)
  covers_at opened never = record {
    reads = λ k r. elim r [ inl f ↦ inl (fetched_at (touch_read d s) m (word_of s.pc) opened ∙ ap (λ (w : ℕ). Some w) (sym f.1)) | inr x ↦ inr (load_at opened k x) ];
    writes = λ k w. store_at opened k w;
    interrupts = λ e. absurd (both _ e (calm_at (touch_read d s) m (word_of s.pc) opened));
    pending = λ e r. elim r [ inl o ↦ asked_at (touch_read d s) m (word_of s.pc) opened s never e o | inr x ↦ both _ (sip_at opened x) e ];
    calls = λ e c. both _ (call_at opened c) e;
  }

-- ---- an instruction that was fetched
pub covers_found : HasOne → (p : Bool) (s : ArchState) (m n : List ℕ) (d : Option Instr) (pc : ℕ) (t : Touch) (f : Footprint) (opened : Bool) → n ≡ m → pc ≡ s.pc → Reads d (word_at m pc) → t ≡ touch_read d s → f ≡ footprint_at t n (word_of pc) opened → (opened ≡ false → IsOpen s → ⊥) → Covers p s m f
covers_found one p s m n d pc t f opened same at reads touches is never =
    let found : Reads d (word_at m s.pc) = subst (λ (a : ℕ). Reads d (word_at m a)) at reads in
    let here : f ≡ footprint_at (touch_read d s) m (word_of s.pc) opened = is ∙ (ap (λ (x : Touch). footprint_at x n (word_of pc) opened) touches ∙ (ap (λ (b : List ℕ). footprint_at (touch_read d s) b (word_of pc) opened) same ∙ ap (λ (a : ℕ). footprint_at (touch_read d s) m (word_of a) opened) at)) in
    subst (λ (g : Footprint). Covers p s m g) (sym here) (covers_at one p s m d found opened never)

-- ---- whether interrupts are open
status_bit : (a b : Bool) → ((256 + 2 * flag a + 32 * flag b) / 2 % 2 == 1) ≡ a
status_bit true true = refl
status_bit true false = refl
status_bit false true = refl
status_bit false false = refl

sie_bit : (a : Bool) → (2 * flag a / 2 % 2 == 1) ≡ a
sie_bit true = refl
sie_bit false = refl

pub status_open : (s : ArchState) (r : Bool) → r ≡ (csr_read Sstatus s false / 2 % 2 == 1) → r ≡ s.interrupts
status_open s r e = e ∙ status_bit s.interrupts s.spie

pub sie_open : (s : ArchState) (r : Bool) → r ≡ (csr_read Sie s false / 2 % 2 == 1) → r ≡ s.ssie
sie_open s r e = e ∙ sie_bit s.ssie
