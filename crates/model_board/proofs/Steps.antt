-- What a step touches on a memory that agrees with another, and a step whose place another hart's turn can't change.
use Rattle.std.proofs.Common.{ℕ, Bool, List, ◌≡◌, ◌/◌, ◌%◌, length, slice_index, refl, sym, ◌∙◌, subst, inl, inr, IsTrue}
use Rattle.board_model.specs.Shapes.{Size}
use Rattle.hart.specs.{State.ArchState, Csrs.csr_number, Means.{Steps, DoesCsr, Exchanges, means, word_at}, declared.csr.Csr.Csr}
use Rattle.hart.specs.declared.Outcome.TheVariants.{Next, Ecall, TakePending}
use Rattle.hart.proofs.Decided.{either, unless, same_number, inside, interrupted, takes, listed}
use Rattle.rv_decode.specs.{Spells.spells, declared.{instr.Instr.Instr, ops.CsrOp.CsrOp}}
use Rattle.rv_decode.specs.declared.instr.Instr.TheVariants as instr
use Rattle.rv_decode.specs.declared.ops.SystemOp.TheVariants as system
use Rattle.model_board.specs.Touches.{word_of, Fetches, ComesTo, ReadsWord, WritesWord, SendsTo, AccessesSip, ReadsPending, IsOpen}
use Rattle.model_board.{specs.Maps.{Map, WritesAlone, ReadsAlone, HearsNone, StepsAlone}, proofs.Words.{SameWord, Merges}}
use Rattle.model_board.proofs.Frames.{Moves, comes_in, fetches_in, accesses_in, step_moves, step_asks, step_changes}

-- ---- on a memory that agrees on the word that is fetched
pub record Agrees (p : Bool) (s : ArchState) (m n : List ℕ) : Type 0 where
  pub long : length n ≡ length m
  pub fetch : Fetches p s m → SameWord m n (word_of s.pc)

pub fetched : (p : Bool) (s : ArchState) (m n : List ℕ) → Agrees p s m n → Fetches p s m → Fetches p s n
fetched p s m n a x = fetches_in p s m n a.long x

pub comes : (p : Bool) (s : ArchState) (m n : List ℕ) (i : Instr) → Agrees p s m n → ComesTo p s m i → ComesTo p s n i
comes p s m n i a x = comes_in p s m n i a.long (a.fetch x.fetches) x

pub reads_in : (p : Bool) (s : ArchState) (m n : List ℕ) (k : ℕ) → Agrees p s m n → ReadsWord p s m k → ReadsWord p s n k
reads_in p s m n k a (inl x) = inl (fetched p s m n a x.0, x.1)
reads_in p s m n k a (inr x) =
    inr (record { op = x.op; rd = x.rd; rs1 = x.rs1; imm = x.imm; comes = comes p s m n _ a x.comes; accesses = accesses_in m n _ _ k a.long x.accesses })

pub writes_in : (p : Bool) (s : ArchState) (m n : List ℕ) (k : ℕ) → Agrees p s m n → WritesWord p s m k → WritesWord p s n k
writes_in p s m n k a x =
    record { op = x.op; rs1 = x.rs1; rs2 = x.rs2; imm = x.imm; comes = comes p s m n _ a x.comes; accesses = accesses_in m n _ _ k a.long x.accesses }

pub sends_in : (size : Size) (p : Bool) (s : ArchState) (m n : List ℕ) (t : ℕ) → Agrees p s m n → SendsTo size p s m t → SendsTo size p s n t
sends_in size p s m n t a x =
    record { comes = comes p s m n _ a x.comes; targets = x.targets; asks = x.asks; named = x.named }

sip_in : (p : Bool) (s : ArchState) (m n : List ℕ) → Agrees p s m n → AccessesSip p s m → AccessesSip p s n
sip_in p s m n a x =
    record { op = x.op; rd = x.rd; source = x.source; comes = elim x.comes [ inl c ↦ inl (comes p s m n _ a c) | inr c ↦ inr (comes p s m n _ a c) ] }

pending_in : (p : Bool) (s : ArchState) (m n : List ℕ) → Agrees p s m n → ReadsPending p s m → ReadsPending p s n
pending_in p s m n a (inl opened) = inl opened
pending_in p s m n a (inr x) = inr (sip_in p s m n a x)

-- ---- with another pending interrupt, where interrupts are closed
fetches_closed : (p q : Bool) (s : ArchState) (m : List ℕ) → (IsOpen s → ⊥) → Fetches q s m → Fetches p s m
fetches_closed p q s m never x = record { calm = λ h. never (h.1, h.2); aligned = x.aligned; inside = x.inside }

comes_closed : (p q : Bool) (s : ArchState) (m : List ℕ) (i : Instr) → (IsOpen s → ⊥) → ComesTo q s m i → ComesTo p s m i
comes_closed p q s m i never x = record { fetches = fetches_closed p q s m never x.fetches; spelled = x.spelled }

reads_closed : (p q : Bool) (s : ArchState) (m : List ℕ) (k : ℕ) → (IsOpen s → ⊥) → ReadsWord q s m k → ReadsWord p s m k
reads_closed p q s m k never (inl x) = inl (fetches_closed p q s m never x.0, x.1)
reads_closed p q s m k never (inr x) =
    inr (record { op = x.op; rd = x.rd; rs1 = x.rs1; imm = x.imm; comes = comes_closed p q s m _ never x.comes; accesses = x.accesses })

writes_closed : (p q : Bool) (s : ArchState) (m : List ℕ) (k : ℕ) → (IsOpen s → ⊥) → WritesWord q s m k → WritesWord p s m k
writes_closed p q s m k never x =
    record { op = x.op; rs1 = x.rs1; rs2 = x.rs2; imm = x.imm; comes = comes_closed p q s m _ never x.comes; accesses = x.accesses }

pending_closed : (p q : Bool) (s : ArchState) (m : List ℕ) → (IsOpen s → ⊥) → ReadsPending q s m → ReadsPending p s m
pending_closed p q s m never (inl opened) = inl opened
pending_closed p q s m never (inr x) =
    inr (record { op = x.op; rd = x.rd; source = x.source; comes = elim x.comes [ inl c ↦ inl (comes_closed p q s m _ never c) | inr c ↦ inr (comes_closed p q s m _ never c) ] })

-- ---- a step that is alone stays so
-- where what is pending only grows, and stays where no other hart may send
pub alone_pending : (map : Map) (h : ℕ) (p q : Bool) (s t : ArchState) (m n : List ℕ) → (IsTrue p → IsTrue q) → (HearsNone map h → q ≡ p) → StepsAlone map h p s m t n → StepsAlone map h q s m t n
alone_pending map h p q s t m n more same x =
    elim x.sure [
      | inl taken ↦ subst (λ (b : Bool). StepsAlone map h b s m t n) (taken.0 ∙ sym (more taken.0)) x
      | inr rest ↦ elim rest [
        | inl none ↦ (
            let closed : IsOpen s → ⊥ = λ o. none (inl o) in
            record {
              step = step_asks p q s t m n Next none x.step;
              reads = λ k r. x.reads k (reads_closed p q s m k closed r);
              writes = λ k w. x.writes k (writes_closed p q s m k closed w);
              sure = inr (inl (λ a. none (pending_closed p q s m closed a)));
            })
        | inr hears ↦ subst (λ (b : Bool). StepsAlone map h b s m t n) (sym (same hears)) x
      ]
    ]

-- where a memory differs from another in no word that the hart alone writes
abbrev pub OthersChange : Map → ℕ → List ℕ → List ℕ → Type 0
OthersChange map h m l = (j : ℕ) → (slice_index l j ≡ slice_index m j → ⊥) → WritesAlone map h (j / 8) → ⊥

own_word : (map : Map) (h : ℕ) (m l : List ℕ) (k : ℕ) → OthersChange map h m l → WritesAlone map h k → SameWord m l k
own_word map h m l k others alone j at =
    unless (same_number (slice_index l j) (slice_index m j)) (λ d. others j d (subst (λ (i : ℕ). WritesAlone map h i) (sym at) alone))

turned : (m n : List ℕ) (k : ℕ) → SameWord m n k → SameWord n m k
turned m n k same j at = sym (same j at)

pub alone_memory : (map : Map) (h : ℕ) (p : Bool) (s t : ArchState) (m n l r : List ℕ) → length l ≡ length m → Merges m n l r → OthersChange map h m l → StepsAlone map h p s m t n → StepsAlone map h p s l t r
alone_memory map h p s t m n l r long merges others x =
    let moves : Moves p s m n l r = record {
      long = long;
      merges = merges;
      reads = λ k rd. own_word map h m l k others (x.reads k rd).1;
      writes = λ k w. own_word map h m l k others (x.writes k w).2;
    } in
    let back : Agrees p s l m = record {
      long = sym long;
      fetch = λ f. turned m l (word_of s.pc) (own_word map h m l (word_of s.pc) others (x.reads (word_of s.pc) (inl (fetches_in p s l m (sym long) f, refl))).1);
    } in
    record {
      step = step_moves p s t m n l r Next moves x.step;
      reads = λ k rd. x.reads k (reads_in p s l m k back rd);
      writes = λ k w. x.writes k (writes_in p s l m k back w);
      sure = elim x.sure [ inl taken ↦ inl taken | inr rest ↦ elim rest [ inl none ↦ inr (inl (λ a. none (pending_in p s l m back a))) | inr hears ↦ inr (inr hears) ] ];
    }

-- what such a step changed, no other hart may read or write
pub alone_changes : (map : Map) (h : ℕ) (p : Bool) (s t : ArchState) (m n : List ℕ) (j : ℕ) → StepsAlone map h p s m t n → (slice_index n j ≡ slice_index m j → ⊥) → (ReadsAlone map h (j / 8) → WritesAlone map h (j / 8) → ⊥) → ⊥
alone_changes map h p s t m n j x d never =
    step_changes p s t m n Next j x.step d (λ w. let own = x.writes (j / 8) w in never own.1 own.2)

-- ---- a step that comes to an ECALL
exchange_calls : (c : Csr) (op : CsrOp) (rd source operand : ℕ) (p : Bool) (s t : ArchState) → Exchanges c op rd source operand p s t Ecall → ⊥
exchange_calls c op rd source operand p s t x =
    either (takes c op source operand)
    (λ h. let e : Ecall ≡ TakePending = x.takes h in cc)
    (λ h. let e : Ecall ≡ Next = x.goes_on h in cc)

next_calls : Ecall ≡ Next → ⊥
next_calls e = cc

csr_calls : (number : ℕ) (op : CsrOp) (rd source operand w : ℕ) (p : Bool) (s t : ArchState) → DoesCsr number op rd source operand w p s t Ecall → ⊥
csr_calls number op rd source operand w p s t x =
    either (listed number)
    (λ h. exchange_calls h.0 op rd source operand p s t (x.1 h.0 h.1))
    (λ h. next_calls (x.0 (λ (c : Csr) (e : csr_number c ≡ number). h (c, e))).1)

-- it stands at the call, as it did
pub record Stands (p : Bool) (s : ArchState) (m : List ℕ) (u : ArchState) : Type 0 where
  pub comes : ComesTo p s m (instr.System system.Ecall)
  pub same : u ≡ s

means_calls : (i : Instr) (w : ℕ) (p : Bool) (s u : ArchState) (m l : List ℕ) → ComesTo p s m i → means i w p s m u l Ecall → (Stands p s m u → ⊥) → ⊥
means_calls (instr.Upper op rd imm) w p s u m l c x never = next_calls x.2
means_calls (instr.Jal rd offset) w p s u m l c x never = next_calls x.2
means_calls (instr.Jalr rd rs1 imm) w p s u m l c x never = next_calls x.2
means_calls (instr.Branch op rs1 rs2 offset) w p s u m l c x never = next_calls x.2
means_calls (instr.Load op rd rs1 imm) w p s u m l c x never = next_calls x.2
means_calls (instr.Store op rs1 rs2 imm) w p s u m l c x never = next_calls x.1
means_calls (instr.Imm op rd rs1 imm) w p s u m l c x never = next_calls x.2
means_calls (instr.Shift op rd rs1 amount) w p s u m l c x never = next_calls x.2
means_calls (instr.Arith op rd rs1 rs2) w p s u m l c x never = next_calls x.2
means_calls (instr.AddWord rd rs1 imm) w p s u m l c x never = next_calls x.2
means_calls (instr.ShiftWord op rd rs1 amount) w p s u m l c x never = next_calls x.2
means_calls (instr.ArithWord op rd rs1 rs2) w p s u m l c x never = next_calls x.2
means_calls (instr.Fence rd rs1 imm) w p s u m l c x never = next_calls x.2
means_calls (instr.Csr op rd rs1 number) w p s u m l c x never = csr_calls number op rd rs1 _ w p s u x.0
means_calls (instr.CsrImm op rd uimm number) w p s u m l c x never = csr_calls number op rd uimm uimm w p s u x.0
means_calls (instr.System system.Ecall) w p s u m l c x never = never (record { comes = c; same = x.0.0 })
means_calls (instr.System system.Ebreak) w p s u m l c x never = next_calls x.0.1
means_calls (instr.System system.Sret) w p s u m l c x never = next_calls x.0.1
means_calls (instr.System system.Wfi) w p s u m l c x never = next_calls x.0.1

pub step_calls : (p : Bool) (s u : ArchState) (m l : List ℕ) → Steps p s m u l Ecall → (Stands p s m u → ⊥) → ⊥
step_calls p s u m l x never =
    either (interrupted p s)
    (λ h. next_calls (x.interrupt h).2)
    (λ calm. either (same_number (s.pc % 4) 0)
    (λ aligned. either (inside m s.pc 4)
    (λ within.
    let none : (i : Instr) → spells i (word_at m s.pc) → ⊥ = λ i spelled. means_calls i (word_at m s.pc) p s u m l (record { fetches = record { calm = calm; aligned = aligned; inside = within }; spelled = spelled }) (x.instruction calm aligned within i spelled) never in
    next_calls (x.illegal calm aligned within none).2)
    (λ out. next_calls (x.outside calm aligned out).2))
    (λ odd. next_calls (x.misaligned calm odd).2))

-- a step that goes on comes to no ECALL
pub none_called : (p : Bool) (s t : ArchState) (m n : List ℕ) → Steps p s m t n Next → ComesTo p s m (instr.System system.Ecall) → ⊥
none_called p s t m n x c =
    let e : Next ≡ Ecall = (x.instruction c.fetches.calm c.fetches.aligned c.fetches.inside (instr.System system.Ecall) c.spelled).0.1 in
    next_calls (sym e)
