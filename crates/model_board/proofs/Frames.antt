-- A step on another memory that agrees on what it touches, on another pending interrupt that it does not ask for, and what
-- it changes.
use Rattle.std.proofs.Common.{ℕ, ℤ, Bool, List, ◌≡◌, ◌+◌, ◌-◌, ◌/◌, ◌%◌, length, slice_index, refl, sym, ap, ◌∙◌, subst, inl, inr}
use Rattle.std.proofs.lemmas.Bool.{cases_lt}
use Rattle.hart.specs.{State.{ArchState, reg}, Csrs.csr_number, Causes.illegal_instruction, declared.{Outcome.Outcome, csr.Csr.Csr}}
use Rattle.hart.specs.Means.{sum, loaded, Sets, DoesLoad, DoesStore, Exchanges, DoesCsr, load_bytes, store_bytes, means, Steps, Traps, Interrupts, word_at}
use Rattle.hart.specs.declared.csr.Csr.TheVariants.{Sstatus, Sie, Stvec, Sscratch, Sepc, Scause, Stval, Sip, Satp}
use Rattle.hart.proofs.Decided.{either, unless, same_number, inside, interrupted}
use Rattle.ram.specs.Memory.{value, IsInside}
use Rattle.rv_decode.specs.{Spells.spells, declared.{instr.Instr.Instr, ops.{LoadOp.LoadOp, StoreOp.StoreOp, CsrOp.CsrOp}}}
use Rattle.rv_decode.specs.declared.instr.Instr.TheVariants as instr
use Rattle.model_board.specs.Touches.{word_of, Fetches, ComesTo, Accesses, ReadsWord, WritesWord, AccessesSip, ReadsPending}
use Rattle.model_board.proofs.Words.{SameWord, Merges, still, in_load, in_store, in_fetch, value_in, stored, inside_in}

-- ---- what a fetch finds
pub word_in : (p : Bool) (s : ArchState) (m n : List ℕ) → Fetches p s m → SameWord m n (word_of s.pc) → word_at n s.pc ≡ word_at m s.pc
word_in p s m n x same =
    value_in m n (s.pc - 0x80000000) (word_of s.pc) 4 same (λ j from to. in_fetch s.pc j x.aligned x.inside.0 from to)

pub fetches_in : (p : Bool) (s : ArchState) (m n : List ℕ) → length n ≡ length m → Fetches p s m → Fetches p s n
fetches_in p s m n long x = record { calm = x.calm; aligned = x.aligned; inside = inside_in n m s.pc 4 (sym long) x.inside }

pub comes_in : (p : Bool) (s : ArchState) (m n : List ℕ) (i : Instr) → length n ≡ length m → SameWord m n (word_of s.pc) → ComesTo p s m i → ComesTo p s n i
comes_in p s m n i long same x =
    record { fetches = fetches_in p s m n long x.fetches; spelled = subst (λ (w : ℕ). spells i w) (sym (word_in p s m n x.fetches same)) x.spelled }

pub accesses_in : (m n : List ℕ) (a c k : ℕ) → length n ≡ length m → Accesses m a c k → Accesses n a c k
accesses_in m n a c k long x = record { aligned = x.aligned; inside = inside_in n m a c (sym long) x.inside; word = x.word }

-- ---- another memory
-- the memories m and n agree on what the step of s touches at m, and r has its changes of m to l, made to n
pub record Moves (p : Bool) (s : ArchState) (m l n r : List ℕ) : Type 0 where
  pub long : length n ≡ length m
  pub merges : Merges m l n r
  pub reads : (k : ℕ) → ReadsWord p s m k → SameWord m n k
  pub writes : (k : ℕ) → WritesWord p s m k → SameWord m n k

load_moves : (p : Bool) (s t : ArchState) (m l n r : List ℕ) (op : LoadOp) (rd rs1 : ℕ) (imm : ℤ) → ComesTo p s m (instr.Load op rd rs1 imm) → Moves p s m l n r → DoesLoad op rd (sum (reg s rs1) imm) m s t → DoesLoad op rd (sum (reg s rs1) imm) n s t
load_moves p s t m l n r op rd rs1 imm comes x does =
    let a : ℕ = sum (reg s rs1) imm in
    let c : ℕ = load_bytes op in (
      λ aligned within.
          let there : IsInside m a c = inside_in m n a c x.long within in
          let same : SameWord m n (word_of a) = x.reads (word_of a) (inr (record { op = op; rd = rd; rs1 = rs1; imm = imm; comes = comes; accesses = record { aligned = aligned; inside = there; word = refl } })) in
          let found : value n (a - 0x80000000) c ≡ value m (a - 0x80000000) c = value_in m n (a - 0x80000000) (word_of a) c same (λ j from to. in_load op a j aligned there.0 from to) in
          subst (λ (v : ℕ). Sets rd (loaded op v) s t) (sym found) (does.0 aligned there),
      does.1,
      λ aligned out. does.2 aligned (λ there. out (inside_in n m a c (sym x.long) there)),
    )

store_moves : (p : Bool) (s t : ArchState) (m l n r : List ℕ) (op : StoreOp) (rs1 rs2 : ℕ) (imm : ℤ) → ComesTo p s m (instr.Store op rs1 rs2 imm) → Moves p s m l n r → DoesStore op (sum (reg s rs1) imm) (reg s rs2) m l s t → DoesStore op (sum (reg s rs1) imm) (reg s rs2) n r s t
store_moves p s t m l n r op rs1 rs2 imm comes x does =
    let a : ℕ = sum (reg s rs1) imm in
    let c : ℕ = store_bytes op in (
      λ aligned within.
          let there : IsInside m a c = inside_in m n a c x.long within in
          let same : SameWord m n (word_of a) = x.writes (word_of a) (record { op = op; rs1 = rs1; rs2 = rs2; imm = imm; comes = comes; accesses = record { aligned = aligned; inside = there; word = refl } }) in
          let st = does.0 aligned there in
          (stored m l n r (a - 0x80000000) c (reg s rs2) x.long x.merges (λ j from to. same j (in_store op a j aligned there.0 from to)) st.0, st.1),
      λ odd. let e = does.1 odd in (still m l n r x.merges e.0, e.1),
      λ aligned out. let e = does.2 aligned (λ there. out (inside_in n m a c (sym x.long) there)) in (still m l n r x.merges e.0, e.1),
    )

means_moves : (i : Instr) (w : ℕ) (p : Bool) (s t : ArchState) (m l n r : List ℕ) (o : Outcome) → ComesTo p s m i → Moves p s m l n r → means i w p s m t l o → means i w p s n t r o
means_moves (instr.Upper op rd imm) w p s t m l n r o c x y = (y.0, still m l n r x.merges y.1, y.2)
means_moves (instr.Jal rd offset) w p s t m l n r o c x y = (y.0, still m l n r x.merges y.1, y.2)
means_moves (instr.Jalr rd rs1 imm) w p s t m l n r o c x y = (y.0, still m l n r x.merges y.1, y.2)
means_moves (instr.Branch op rs1 rs2 offset) w p s t m l n r o c x y = (y.0, still m l n r x.merges y.1, y.2)
means_moves (instr.Load op rd rs1 imm) w p s t m l n r o c x y =
    (load_moves p s t m l n r op rd rs1 imm c x y.0, still m l n r x.merges y.1, y.2)
means_moves (instr.Store op rs1 rs2 imm) w p s t m l n r o c x y =
    (store_moves p s t m l n r op rs1 rs2 imm c x y.0, y.1)
means_moves (instr.Imm op rd rs1 imm) w p s t m l n r o c x y = (y.0, still m l n r x.merges y.1, y.2)
means_moves (instr.Shift op rd rs1 amount) w p s t m l n r o c x y = (y.0, still m l n r x.merges y.1, y.2)
means_moves (instr.Arith op rd rs1 rs2) w p s t m l n r o c x y = (y.0, still m l n r x.merges y.1, y.2)
means_moves (instr.AddWord rd rs1 imm) w p s t m l n r o c x y = (y.0, still m l n r x.merges y.1, y.2)
means_moves (instr.ShiftWord op rd rs1 amount) w p s t m l n r o c x y = (y.0, still m l n r x.merges y.1, y.2)
means_moves (instr.ArithWord op rd rs1 rs2) w p s t m l n r o c x y = (y.0, still m l n r x.merges y.1, y.2)
means_moves (instr.Fence rd rs1 imm) w p s t m l n r o c x y = (y.0, still m l n r x.merges y.1, y.2)
means_moves (instr.Csr op rd rs1 csr) w p s t m l n r o c x y = (y.0, still m l n r x.merges y.1)
means_moves (instr.CsrImm op rd uimm csr) w p s t m l n r o c x y = (y.0, still m l n r x.merges y.1)
means_moves (instr.System op) w p s t m l n r o c x y = (y.0, still m l n r x.merges y.1)

traps_move : (code tval : ℕ) (s t : ArchState) (m l n r : List ℕ) (o : Outcome) → Merges m l n r → Traps code tval s m t l o → Traps code tval s n t r o
traps_move code tval s t m l n r o x y = (y.0, still m l n r x y.1, y.2)

pub step_moves : (p : Bool) (s t : ArchState) (m l n r : List ℕ) (o : Outcome) → Moves p s m l n r → Steps p s m t l o → Steps p s n t r o
step_moves p s t m l n r o x y =
    let there : IsInside n s.pc 4 → IsInside m s.pc 4 = inside_in m n s.pc 4 x.long in
    let back : IsInside m s.pc 4 → IsInside n s.pc 4 = inside_in n m s.pc 4 (sym x.long) in
    let found : Fetches p s m → word_at n s.pc ≡ word_at m s.pc = λ f. word_in p s m n f (x.reads (word_of s.pc) (inl (f, refl))) in
    record {
      interrupt = λ h. traps_move _ _ s t m l n r o x.merges (y.interrupt h);
      misaligned = λ calm odd. traps_move _ _ s t m l n r o x.merges (y.misaligned calm odd);
      outside = λ calm aligned out. traps_move _ _ s t m l n r o x.merges (y.outside calm aligned (λ within. out (back within)));
      illegal = λ calm aligned within none.
          let e = found (record { calm = calm; aligned = aligned; inside = there within }) in
          let f = y.illegal calm aligned (there within) (λ i spelled. none i (subst (λ (w : ℕ). spells i w) (sym e) spelled)) in
          subst (λ (w : ℕ). Traps illegal_instruction w s n t r o) (sym e) (traps_move _ _ s t m l n r o x.merges f);
      instruction = λ calm aligned within i spelled.
          let f : Fetches p s m = record { calm = calm; aligned = aligned; inside = there within } in
          let e = found f in
          let comes : ComesTo p s m i = record { fetches = f; spelled = subst (λ (w : ℕ). spells i w) e spelled } in
          subst (λ (w : ℕ). means i w p s n t r o) (sym e) (means_moves i (word_at m s.pc) p s t m l n r o comes x (y.instruction calm aligned (there within) i comes.spelled));
    }

-- ---- another pending interrupt
exchange_asks : (c : Csr) (op : CsrOp) (rd source operand : ℕ) (p q : Bool) (s t : ArchState) (o : Outcome) → (c ≡ Sip → ⊥) → Exchanges c op rd source operand p s t o → Exchanges c op rd source operand q s t o
exchange_asks Sstatus op rd source operand p q s t o n x = record { state = x.state; takes = x.takes; goes_on = x.goes_on }
exchange_asks Sie op rd source operand p q s t o n x = record { state = x.state; takes = x.takes; goes_on = x.goes_on }
exchange_asks Stvec op rd source operand p q s t o n x = record { state = x.state; takes = x.takes; goes_on = x.goes_on }
exchange_asks Sscratch op rd source operand p q s t o n x = record { state = x.state; takes = x.takes; goes_on = x.goes_on }
exchange_asks Sepc op rd source operand p q s t o n x = record { state = x.state; takes = x.takes; goes_on = x.goes_on }
exchange_asks Scause op rd source operand p q s t o n x = record { state = x.state; takes = x.takes; goes_on = x.goes_on }
exchange_asks Stval op rd source operand p q s t o n x = record { state = x.state; takes = x.takes; goes_on = x.goes_on }
exchange_asks Sip op rd source operand p q s t o n x = absurd (n refl)
exchange_asks Satp op rd source operand p q s t o n x = record { state = x.state; takes = x.takes; goes_on = x.goes_on }

csr_asks : (number : ℕ) (op : CsrOp) (rd source operand w : ℕ) (p q : Bool) (s t : ArchState) (o : Outcome) → (number ≡ csr_number Sip → ⊥) → DoesCsr number op rd source operand w p s t o → DoesCsr number op rd source operand w q s t o
csr_asks number op rd source operand w p q s t o n x =
    (x.0, λ c e. exchange_asks c op rd source operand p q s t o (λ is. n (sym e ∙ ap csr_number is)) (x.1 c e))

means_asks : (i : Instr) (w : ℕ) (p q : Bool) (s t : ArchState) (m n : List ℕ) (o : Outcome) → ComesTo p s m i → (AccessesSip p s m → ⊥) → means i w p s m t n o → means i w q s m t n o
means_asks (instr.Upper op rd imm) w p q s t m n o c never x = x
means_asks (instr.Jal rd offset) w p q s t m n o c never x = x
means_asks (instr.Jalr rd rs1 imm) w p q s t m n o c never x = x
means_asks (instr.Branch op rs1 rs2 offset) w p q s t m n o c never x = x
means_asks (instr.Load op rd rs1 imm) w p q s t m n o c never x = x
means_asks (instr.Store op rs1 rs2 imm) w p q s t m n o c never x = x
means_asks (instr.Imm op rd rs1 imm) w p q s t m n o c never x = x
means_asks (instr.Shift op rd rs1 amount) w p q s t m n o c never x = x
means_asks (instr.Arith op rd rs1 rs2) w p q s t m n o c never x = x
means_asks (instr.AddWord rd rs1 imm) w p q s t m n o c never x = x
means_asks (instr.ShiftWord op rd rs1 amount) w p q s t m n o c never x = x
means_asks (instr.ArithWord op rd rs1 rs2) w p q s t m n o c never x = x
means_asks (instr.Fence rd rs1 imm) w p q s t m n o c never x = x
means_asks (instr.Csr op rd rs1 number) w p q s t m n o c never x =
    (csr_asks number op rd rs1 (reg s rs1) w p q s t o (λ e. never (record { op = op; rd = rd; source = rs1; comes = inl (subst (λ (k : ℕ). ComesTo p s m (instr.Csr op rd rs1 k)) e c) })) x.0, x.1)
means_asks (instr.CsrImm op rd uimm number) w p q s t m n o c never x =
    (csr_asks number op rd uimm uimm w p q s t o (λ e. never (record { op = op; rd = rd; source = uimm; comes = inr (subst (λ (k : ℕ). ComesTo p s m (instr.CsrImm op rd uimm k)) e c) })) x.0, x.1)
means_asks (instr.System op) w p q s t m n o c never x = x

pub step_asks : (p q : Bool) (s t : ArchState) (m n : List ℕ) (o : Outcome) → (ReadsPending p s m → ⊥) → Steps p s m t n o → Steps q s m t n o
step_asks p q s t m n o never x =
    let calm : Interrupts p s → ⊥ = λ h. never (inl (h.1, h.2)) in
    record {
      interrupt = λ h. absurd (never (inl (h.1, h.2)));
      misaligned = λ _ odd. x.misaligned calm odd;
      outside = λ _ aligned out. x.outside calm aligned out;
      illegal = λ _ aligned within none. x.illegal calm aligned within none;
      instruction = λ _ aligned within i spelled.
          means_asks i (word_at m s.pc) p q s t m n o (record { fetches = record { calm = calm; aligned = aligned; inside = within }; spelled = spelled }) (λ a. never (inr a)) (x.instruction calm aligned within i spelled);
    }

-- ---- what a step changes
same_byte : (m l : List ℕ) (j : ℕ) → l ≡ m → slice_index l j ≡ slice_index m j
same_byte m l j e = ap (λ (b : List ℕ). slice_index b j) e

store_changes : (p : Bool) (s t : ArchState) (m l : List ℕ) (op : StoreOp) (rs1 rs2 : ℕ) (imm : ℤ) (j : ℕ) → ComesTo p s m (instr.Store op rs1 rs2 imm) → DoesStore op (sum (reg s rs1) imm) (reg s rs2) m l s t → (slice_index l j ≡ slice_index m j → ⊥) → (WritesWord p s m (j / 8) → ⊥) → ⊥
store_changes p s t m l op rs1 rs2 imm j comes does d never =
    let a : ℕ = sum (reg s rs1) imm in
    let c : ℕ = store_bytes op in
    either (same_number (a % c) 0)
    (λ aligned. either (inside m a c)
    (λ within.
    let st = (does.0 aligned within).0 in
    elim (cases_lt j (a - 0x80000000)) [
      | inl before ↦ d (st.3 j (inl before))
      | inr from ↦ elim (cases_lt j (a - 0x80000000 + c)) [
        | inl to ↦ never (record { op = op; rs1 = rs1; rs2 = rs2; imm = imm; comes = comes; accesses = record { aligned = aligned; inside = within; word = in_store op a j aligned within.0 from to } })
        | inr behind ↦ d (st.3 j (inr behind))
      ]
    ])
    (λ out. d (same_byte m l j (does.2 aligned out).0)))
    (λ odd. d (same_byte m l j (does.1 odd).0))

means_changes : (i : Instr) (w : ℕ) (p : Bool) (s t : ArchState) (m l : List ℕ) (o : Outcome) (j : ℕ) → ComesTo p s m i → means i w p s m t l o → (slice_index l j ≡ slice_index m j → ⊥) → (WritesWord p s m (j / 8) → ⊥) → ⊥
means_changes (instr.Upper op rd imm) w p s t m l o j c x d never = d (same_byte m l j x.1)
means_changes (instr.Jal rd offset) w p s t m l o j c x d never = d (same_byte m l j x.1)
means_changes (instr.Jalr rd rs1 imm) w p s t m l o j c x d never = d (same_byte m l j x.1)
means_changes (instr.Branch op rs1 rs2 offset) w p s t m l o j c x d never = d (same_byte m l j x.1)
means_changes (instr.Load op rd rs1 imm) w p s t m l o j c x d never = d (same_byte m l j x.1)
means_changes (instr.Store op rs1 rs2 imm) w p s t m l o j c x d never = store_changes p s t m l op rs1 rs2 imm j c x.0 d never
means_changes (instr.Imm op rd rs1 imm) w p s t m l o j c x d never = d (same_byte m l j x.1)
means_changes (instr.Shift op rd rs1 amount) w p s t m l o j c x d never = d (same_byte m l j x.1)
means_changes (instr.Arith op rd rs1 rs2) w p s t m l o j c x d never = d (same_byte m l j x.1)
means_changes (instr.AddWord rd rs1 imm) w p s t m l o j c x d never = d (same_byte m l j x.1)
means_changes (instr.ShiftWord op rd rs1 amount) w p s t m l o j c x d never = d (same_byte m l j x.1)
means_changes (instr.ArithWord op rd rs1 rs2) w p s t m l o j c x d never = d (same_byte m l j x.1)
means_changes (instr.Fence rd rs1 imm) w p s t m l o j c x d never = d (same_byte m l j x.1)
means_changes (instr.Csr op rd rs1 csr) w p s t m l o j c x d never = d (same_byte m l j x.1)
means_changes (instr.CsrImm op rd uimm csr) w p s t m l o j c x d never = d (same_byte m l j x.1)
means_changes (instr.System op) w p s t m l o j c x d never = d (same_byte m l j x.1)

-- a byte that a step changed lies in a word that it writes
pub step_changes : (p : Bool) (s t : ArchState) (m l : List ℕ) (o : Outcome) (j : ℕ) → Steps p s m t l o → (slice_index l j ≡ slice_index m j → ⊥) → (WritesWord p s m (j / 8) → ⊥) → ⊥
step_changes p s t m l o j x d never =
    either (interrupted p s)
    (λ h. d (same_byte m l j (x.interrupt h).1))
    (λ calm. either (same_number (s.pc % 4) 0)
    (λ aligned. either (inside m s.pc 4)
    (λ within.
    let none : (i : Instr) → spells i (word_at m s.pc) → ⊥ = λ i spelled. means_changes i (word_at m s.pc) p s t m l o j (record { fetches = record { calm = calm; aligned = aligned; inside = within }; spelled = spelled }) (x.instruction calm aligned within i spelled) d never in
    d (same_byte m l j (x.illegal calm aligned within none).1))
    (λ out. d (same_byte m l j (x.outside calm aligned out).1)))
    (λ odd. d (same_byte m l j (x.misaligned calm odd).1)))

-- ---- a step leaves the size of the memory
store_long : (op : StoreOp) (a v : ℕ) (m l : List ℕ) (s t : ArchState) → DoesStore op a v m l s t → length l ≡ length m
store_long op a v m l s t x =
    either (same_number (a % store_bytes op) 0)
    (λ aligned. either (inside m a (store_bytes op)) (λ within. (x.0 aligned within).0.0) (λ out. ap (λ (b : List ℕ). length b) (x.2 aligned out).0))
    (λ odd. ap (λ (b : List ℕ). length b) (x.1 odd).0)

means_long : (i : Instr) (w : ℕ) (p : Bool) (s t : ArchState) (m l : List ℕ) (o : Outcome) → means i w p s m t l o → length l ≡ length m
means_long (instr.Upper op rd imm) w p s t m l o x = ap (λ (b : List ℕ). length b) x.1
means_long (instr.Jal rd offset) w p s t m l o x = ap (λ (b : List ℕ). length b) x.1
means_long (instr.Jalr rd rs1 imm) w p s t m l o x = ap (λ (b : List ℕ). length b) x.1
means_long (instr.Branch op rs1 rs2 offset) w p s t m l o x = ap (λ (b : List ℕ). length b) x.1
means_long (instr.Load op rd rs1 imm) w p s t m l o x = ap (λ (b : List ℕ). length b) x.1
means_long (instr.Store op rs1 rs2 imm) w p s t m l o x = store_long op _ _ m l s t x.0
means_long (instr.Imm op rd rs1 imm) w p s t m l o x = ap (λ (b : List ℕ). length b) x.1
means_long (instr.Shift op rd rs1 amount) w p s t m l o x = ap (λ (b : List ℕ). length b) x.1
means_long (instr.Arith op rd rs1 rs2) w p s t m l o x = ap (λ (b : List ℕ). length b) x.1
means_long (instr.AddWord rd rs1 imm) w p s t m l o x = ap (λ (b : List ℕ). length b) x.1
means_long (instr.ShiftWord op rd rs1 amount) w p s t m l o x = ap (λ (b : List ℕ). length b) x.1
means_long (instr.ArithWord op rd rs1 rs2) w p s t m l o x = ap (λ (b : List ℕ). length b) x.1
means_long (instr.Fence rd rs1 imm) w p s t m l o x = ap (λ (b : List ℕ). length b) x.1
means_long (instr.Csr op rd rs1 csr) w p s t m l o x = ap (λ (b : List ℕ). length b) x.1
means_long (instr.CsrImm op rd uimm csr) w p s t m l o x = ap (λ (b : List ℕ). length b) x.1
means_long (instr.System op) w p s t m l o x = ap (λ (b : List ℕ). length b) x.1

pub step_long : (p : Bool) (s t : ArchState) (m l : List ℕ) (o : Outcome) → Steps p s m t l o → length l ≡ length m
step_long p s t m l o x =
    either (interrupted p s)
    (λ h. ap (λ (b : List ℕ). length b) (x.interrupt h).1)
    (λ calm. either (same_number (s.pc % 4) 0)
    (λ aligned. either (inside m s.pc 4)
    (λ within. unless (same_number (length l) (length m)) (λ differ.
    let none : (i : Instr) → spells i (word_at m s.pc) → ⊥ = λ i spelled. differ (means_long i (word_at m s.pc) p s t m l o (x.instruction calm aligned within i spelled)) in
    differ (ap (λ (b : List ℕ). length b) (x.illegal calm aligned within none).1)))
    (λ out. ap (λ (b : List ℕ). length b) (x.outside calm aligned out).1))
    (λ odd. ap (λ (b : List ℕ). length b) (x.misaligned calm odd).1))
