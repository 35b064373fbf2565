-- A turn that does not read a register does the same whatever it holds, and leaves it as it is or writes it.
use Rattle.std.proofs.Common.{ℕ, ℤ, Bool, true, false, ◌≡◌, ◌⊎◌, ⊎_elim, inl, inr, ◌+◌, ◌%◌, ◌^◌, List, Option, Some, None, refl, sym, ap, ◌∙◌, subst, if◌then◌else◌}
use Rattle.std.{proofs.lemmas.List.{set-set, set_comm, get_or-set_other}, specs.Prelude.{slice_set, nat_eq}}
use Rattle.hart.specs.{Values.residue, State.{ArchState, reg, put, jump, next, answered}, Csrs.{csr_read, csr_write, csr_new, csr_writes}}
use Rattle.hart.specs.Means.{sum, even, Sets, Jumps, DoesUpper, DoesArith, DoesArithWord, DoesBranch, DoesLoad, DoesStore, Exchanges, DoesCsr, DoesSystem, csr_put, load_bytes, imm_op, shift_op, shift_word_op, means, Steps, Traps, Interrupts, Obeys, word_at}
use Rattle.hart.specs.declared.{Outcome.Outcome, csr.Csr.{Csr, TheVariants.{Sstatus, Sie, Stvec, Sscratch, Sepc, Scause, Stval, Sip, Satp}}}
use Rattle.hart.proofs.{Decided.{either, same_number, inside, listed, takes, interrupted}, Obeyed.{HasOne, obeyed}}
use Rattle.ram.specs.Memory.{IsInside}
use Rattle.rv_decode.specs.{Spells.Reads, declared.{instr.Instr.Instr, ops.{UpperOp.{UpperOp, TheVariants.{Lui, Auipc}}, ArithOp.ArithOp}}}
use Rattle.rv_decode.specs.declared.ops.{ArithWordOp.{ArithWordOp, TheVariants.Addw}, BranchOp.BranchOp, LoadOp.LoadOp, StoreOp.StoreOp}
use Rattle.rv_decode.specs.declared.ops.{CsrOp.CsrOp, SystemOp.{SystemOp, TheVariants.{Ecall, Ebreak, Sret, Wfi}}}
use Rattle.rv_decode.specs.declared.instr.Instr.TheVariants as instr
use Rattle.hart.specs.declared.Outcome.TheVariants as outcomes
use Rattle.board_model.specs.Shapes.{Size}
use Rattle.sbi_abi.specs.{Calls.{call_of, call_at}, Answers.{error_of, value_of}, declared.call.Call.Call}
use Rattle.sbi_calls.specs.{Both.TableState, Answers.{CallRow, answer, Ends}, declared.{endings.Ending.Ending, words.Turned.Turned}}
use Rattle.sbi_calls.specs.declared.endings.Ending.TheVariants.{Answers, Stops, Suspends, SuspendsAfresh, Defers}
use Rattle.turns.specs.{declared.readies.Ready.Ready, Turns.{Moment, TurnAs, TurnOf, Finishes, turn_begun}}
use Rattle.turns.specs.declared.readies.Ready.TheVariants as readies
use Rattle.model_board.specs.Registers.{with_register, holding, IsRead, IsUnread, IsOfCall}

pub map_sum : {A B C D : Type 0} → (A → C) → (B → D) → A ⊎ B → C ⊎ D
map_sum f g (inl a) = inl (f a)
map_sum f g (inr b) = inr (g b)

-- register k holds x
module _ (k x : ℕ) where
  abbrev W : ArchState → ArchState
  W s = with_register k x s

  -- what reads and writes of registers come to
  abbrev reg_by : Bool → ℕ → ℕ
  reg_by b v = if b then 0 else v

  pub read_other : (s : ArchState) (r : ℕ) → (k ≡ r → ⊥) → reg (W s) r ≡ reg s r
  read_other s r ne = ap (λ v. reg_by (nat_eq r 0) v) (get_or-set_other s.regs k r x 0 (λ e. ne (sym e)))

  abbrev put_by : Bool → ArchState → ℕ → ℕ → ArchState
  put_by b s rd v = if b then s else record s { regs = slice_set s.regs rd v }

  abbrev Keeps : ℕ → Type 0
  Keeps rd = (s : ArchState) (v : ℕ) → put (W s) rd v ≡ W (put s rd v)

  abbrev Hides : ℕ → Type 0
  Hides rd = (s : ArchState) (v : ℕ) → put (W s) rd v ≡ put s rd v

  by_zero : (b : Bool) (rd : ℕ) → ((s : ArchState) (v : ℕ) → put_by b (W s) rd v ≡ W (put_by b s rd v)) ⊎ ((s : ArchState) (v : ℕ) → put_by b (W s) rd v ≡ put_by b s rd v)
  by_zero true rd = inl (λ s v. refl)
  by_zero false rd =
      either (same_number k rd)
      (λ same. inr (λ s v. ap (λ (l : List ℕ). record s { regs = l }) (subst (λ r. slice_set (slice_set s.regs k x) r v ≡ slice_set s.regs r v) same (set-set s.regs k x v))))
      (λ apart. inl (λ s v. ap (λ (l : List ℕ). record s { regs = l }) (set_comm s.regs k rd x v apart)))

  written : (rd : ℕ) → Keeps rd ⊎ Hides rd
  written rd = by_zero (nat_eq rd 0) rd

  set_kept : (rd v : ℕ) (s t : ArchState) → Keeps rd → Sets rd v s t → Sets rd v (W s) (W t)
  set_kept rd v s t keeps e = ap (λ (u : ArchState). W u) e ∙ sym (ap (λ (u : ArchState). next u) (keeps s v))

  set_hidden : (rd v : ℕ) (s t : ArchState) → Hides rd → Sets rd v s t → Sets rd v (W s) t
  set_hidden rd v s t hides e = e ∙ sym (ap (λ (u : ArchState). next u) (hides s v))

  sets : (rd v : ℕ) (s t : ArchState) → Sets rd v s t → Sets rd v (W s) (W t) ⊎ Sets rd v (W s) t
  sets rd v s t e = map_sum (λ keeps. set_kept rd v s t keeps e) (λ hides. set_hidden rd v s t hides e) (written rd)

  upper : (op : UpperOp) (rd imm : ℕ) (s t : ArchState) → DoesUpper op rd imm s t → DoesUpper op rd imm (W s) (W t) ⊎ DoesUpper op rd imm (W s) t
  upper Lui rd imm s t e = sets rd _ s t e
  upper Auipc rd imm s t e = sets rd _ s t e

  jumps : (target rd v : ℕ) (s t : ArchState) → Jumps target (put s rd v) s t → Jumps target (put (W s) rd v) (W s) (W t) ⊎ Jumps target (put (W s) rd v) (W s) t
  jumps target rd v s t j =
      either (same_number (target % 4) 0)
      (λ even. map_sum
      (λ keeps. (
        λ _. ap (λ (u : ArchState). W u) (j.0 even) ∙ sym (ap (λ (u : ArchState). jump u target) (keeps s v)),
        λ odd. absurd (odd even),
      ))
      (λ hides. (λ _. j.0 even ∙ sym (ap (λ (u : ArchState). jump u target) (hides s v)), λ odd. absurd (odd even)))
      (written rd))
      (λ odd. inl (λ even. absurd (odd even), λ _. ap (λ (u : ArchState). W u) (j.1 odd)))

  branch : (op : BranchOp) (a b : ℕ) (offset : ℤ) (s t : ArchState) → DoesBranch op a b offset s t → DoesBranch op a b offset (W s) (W t)
  branch op a b offset s t y = (
    λ taken. let j = y.0 taken in (λ even. ap (λ (u : ArchState). W u) (j.0 even), λ odd. ap (λ (u : ArchState). W u) (j.1 odd)),
    λ not. ap (λ (u : ArchState). W u) (y.1 not),
  )

  load : (op : LoadOp) (rd a : ℕ) (m : List ℕ) (s t : ArchState) → DoesLoad op rd a m s t → DoesLoad op rd a m (W s) (W t) ⊎ DoesLoad op rd a m (W s) t
  load op rd a m s t y =
      either (same_number (a % load_bytes op) 0)
      (λ aligned. either (inside m a (load_bytes op))
      (λ there. map_sum
      (λ e. (λ _ _. e, λ odd. absurd (odd aligned), λ _ out. absurd (out there)))
      (λ e. (λ _ _. e, λ odd. absurd (odd aligned), λ _ out. absurd (out there)))
      (sets rd _ s t (y.0 aligned there)))
      (λ out. inl (λ _ there. absurd (out there), λ odd. absurd (odd aligned), λ _ _. ap (λ (u : ArchState). W u) (y.2 aligned out))))
      (λ odd. inl (λ aligned _. absurd (odd aligned), λ _. ap (λ (u : ArchState). W u) (y.1 odd), λ aligned _. absurd (odd aligned)))

  store : (op : StoreOp) (a v : ℕ) (m n : List ℕ) (s t : ArchState) → DoesStore op a v m n s t → DoesStore op a v m n (W s) (W t)
  store op a v m n s t y = (
    λ aligned there. let done = y.0 aligned there in (done.0, ap (λ (u : ArchState). W u) done.1),
    λ odd. let done = y.1 odd in (done.0, ap (λ (u : ArchState). W u) done.1),
    λ aligned out. let done = y.2 aligned out in (done.0, ap (λ (u : ArchState). W u) done.1),
  )

  arith : (op : ArithOp) (rd a b : ℕ) (s t : ArchState) → DoesArith op rd a b s t → DoesArith op rd a b (W s) (W t) ⊎ DoesArith op rd a b (W s) t
  arith op rd a b s t y = map_sum (λ e. (y.0, y.1, e)) (λ e. (y.0, y.1, e)) (sets rd y.0 s t y.2)

  arith_word : (op : ArithWordOp) (rd a b : ℕ) (s t : ArchState) → DoesArithWord op rd a b s t → DoesArithWord op rd a b (W s) (W t) ⊎ DoesArithWord op rd a b (W s) t
  arith_word op rd a b s t y = map_sum (λ e. (y.0, y.1, e)) (λ e. (y.0, y.1, e)) (sets rd y.0 s t y.2)

  -- ---- control and status registers
  csr_reads : (c : Csr) (s : ArchState) (p : Bool) → csr_read c (W s) p ≡ csr_read c s p
  csr_reads Sstatus s p = refl
  csr_reads Sie s p = refl
  csr_reads Stvec s p = refl
  csr_reads Sscratch s p = refl
  csr_reads Sepc s p = refl
  csr_reads Scause s p = refl
  csr_reads Stval s p = refl
  csr_reads Sip s p = refl
  csr_reads Satp s p = refl

  csr_written : (c : Csr) (s : ArchState) (v : ℕ) → csr_write c (W s) v ≡ W (csr_write c s v)
  csr_written Sstatus s v = refl
  csr_written Sie s v = refl
  csr_written Stvec s v = refl
  csr_written Sscratch s v = refl
  csr_written Sepc s v = refl
  csr_written Scause s v = refl
  csr_written Stval s v = refl
  csr_written Sip s v = refl
  csr_written Satp s v = refl

  abbrev put_if : Bool → Csr → ArchState → ℕ → ArchState
  put_if b c s v = if b then csr_write c s v else s

  csr_puts_by : (b : Bool) (c : Csr) (s : ArchState) (v w : ℕ) → v ≡ w → put_if b c (W s) v ≡ W (put_if b c s w)
  csr_puts_by true c s v w e = csr_written c s v ∙ ap (λ (u : ℕ). W (csr_write c s u)) e
  csr_puts_by false c s v w e = refl

  csr_puts : (c : Csr) (op : CsrOp) (source operand : ℕ) (p : Bool) (s : ArchState) → csr_put c op source operand p (W s) ≡ W (csr_put c op source operand p s)
  csr_puts c op source operand p s =
      csr_puts_by (csr_writes op source) c s (csr_new op (csr_read c (W s) p) operand) (csr_new op (csr_read c s p) operand) (ap (λ (v : ℕ). csr_new op v operand) (csr_reads c s p))

  exchanged : (c : Csr) (op : CsrOp) (rd source operand : ℕ) (p : Bool) (s t u : ArchState) (o : Outcome) → Exchanges c op rd source operand p s t o → Sets rd (csr_read c s p) (W (csr_put c op source operand p s)) u → Exchanges c op rd source operand p (W s) u o
  exchanged c op rd source operand p s t u o y e = record {
    state = subst (λ (v : ℕ). Sets rd v (csr_put c op source operand p (W s)) u) (sym (csr_reads c s p)) (subst (λ (b : ArchState). Sets rd (csr_read c s p) b u) (sym (csr_puts c op source operand p s)) e);
    takes = y.takes;
    goes_on = y.goes_on;
  }

  csr : (number : ℕ) (op : CsrOp) (rd source operand w : ℕ) (p : Bool) (s t : ArchState) (o : Outcome) → DoesCsr number op rd source operand w p s t o → DoesCsr number op rd source operand w p (W s) (W t) o ⊎ DoesCsr number op rd source operand w p (W s) t o
  csr number op rd source operand w p s t o y =
      either (listed number)
      (λ one. map_sum
      (λ keeps. (λ none. absurd (none one.0 one.1), λ c e. exchanged c op rd source operand p s t (W t) o (y.1 c e) (set_kept rd (csr_read c s p) (csr_put c op source operand p s) t keeps (y.1 c e).state)))
      (λ hides. (λ none. absurd (none one.0 one.1), λ c e. exchanged c op rd source operand p s t t o (y.1 c e) (set_hidden rd (csr_read c s p) (csr_put c op source operand p s) t hides (y.1 c e).state)))
      (written rd))
      (λ none. let done = y.0 (λ c e. none (c, e)) in inl (λ _. (ap (λ (u : ArchState). W u) done.0, done.1), λ c e. absurd (none (c, e))))

  system : (op : SystemOp) (s t : ArchState) (o : Outcome) → DoesSystem op s t o → DoesSystem op (W s) (W t) o
  system Ecall s t o y = (ap (λ (u : ArchState). W u) y.0, y.1)
  system Ebreak s t o y = (ap (λ (u : ArchState). W u) y.0, y.1)
  system Sret s t o y = (ap (λ (u : ArchState). W u) y.0, y.1)
  system Wfi s t o y = (ap (λ (u : ArchState). W u) y.0, y.1)

  -- either of the two ends
  abbrev Both : (ArchState → Type 0) → ArchState → Type 0
  Both P t = P (W t) ⊎ P t

  meaning : (i : Instr) (w : ℕ) (p : Bool) (s t : ArchState) (m n : List ℕ) (o : Outcome) → (IsRead i k → ⊥) → means i w p s m t n o → means i w p (W s) m (W t) n o ⊎ means i w p (W s) m t n o
  meaning (instr.Upper op rd imm) w p s t m n o ne y = map_sum (λ e. (e, y.1, y.2)) (λ e. (e, y.1, y.2)) (upper op rd imm s t y.0)
  meaning (instr.Jal rd offset) w p s t m n o ne y = map_sum (λ e. (e, y.1, y.2)) (λ e. (e, y.1, y.2)) (jumps (sum s.pc offset) rd ((s.pc + 4) % 2 ^ 64) s t y.0)
  meaning (instr.Jalr rd rs1 imm) w p s t m n o ne y =
      map_sum (λ e. (e, y.1, y.2)) (λ e. (e, y.1, y.2))
      (subst (λ (a : ℕ). Both (λ u. Jumps (even (sum a imm)) (put (W s) rd ((s.pc + 4) % 2 ^ 64)) (W s) u) t) (sym (read_other s rs1 ne)) (jumps (even (sum (reg s rs1) imm)) rd ((s.pc + 4) % 2 ^ 64) s t y.0))
  meaning (instr.Branch op rs1 rs2 offset) w p s t m n o ne y =
      inl (
        subst (λ (a : ℕ). DoesBranch op a (reg (W s) rs2) offset (W s) (W t)) (sym (read_other s rs1 (λ e. ne (inl e)))) (subst (λ (b : ℕ). DoesBranch op (reg s rs1) b offset (W s) (W t)) (sym (read_other s rs2 (λ e. ne (inr e)))) (branch op (reg s rs1) (reg s rs2) offset s t y.0)),
        y.1,
        y.2,
      )
  meaning (instr.Load op rd rs1 imm) w p s t m n o ne y =
      map_sum (λ e. (e, y.1, y.2)) (λ e. (e, y.1, y.2))
      (subst (λ (a : ℕ). Both (λ u. DoesLoad op rd (sum a imm) m (W s) u) t) (sym (read_other s rs1 ne)) (load op rd (sum (reg s rs1) imm) m s t y.0))
  meaning (instr.Store op rs1 rs2 imm) w p s t m n o ne y =
      inl (
        subst (λ (a : ℕ). DoesStore op (sum a imm) (reg (W s) rs2) m n (W s) (W t)) (sym (read_other s rs1 (λ e. ne (inl e)))) (subst (λ (b : ℕ). DoesStore op (sum (reg s rs1) imm) b m n (W s) (W t)) (sym (read_other s rs2 (λ e. ne (inr e)))) (store op (sum (reg s rs1) imm) (reg s rs2) m n s t y.0)),
        y.1,
      )
  meaning (instr.Imm op rd rs1 imm) w p s t m n o ne y =
      map_sum (λ e. (e, y.1, y.2)) (λ e. (e, y.1, y.2))
      (subst (λ (a : ℕ). Both (λ u. DoesArith (imm_op op) rd a (residue imm) (W s) u) t) (sym (read_other s rs1 ne)) (arith (imm_op op) rd (reg s rs1) (residue imm) s t y.0))
  meaning (instr.Shift op rd rs1 amount) w p s t m n o ne y =
      map_sum (λ e. (e, y.1, y.2)) (λ e. (e, y.1, y.2))
      (subst (λ (a : ℕ). Both (λ u. DoesArith (shift_op op) rd a amount (W s) u) t) (sym (read_other s rs1 ne)) (arith (shift_op op) rd (reg s rs1) amount s t y.0))
  meaning (instr.Arith op rd rs1 rs2) w p s t m n o ne y =
      map_sum (λ e. (e, y.1, y.2)) (λ e. (e, y.1, y.2))
      (subst (λ (a : ℕ). Both (λ u. DoesArith op rd a (reg (W s) rs2) (W s) u) t) (sym (read_other s rs1 (λ e. ne (inl e))))
      (subst (λ (b : ℕ). Both (λ u. DoesArith op rd (reg s rs1) b (W s) u) t) (sym (read_other s rs2 (λ e. ne (inr e)))) (arith op rd (reg s rs1) (reg s rs2) s t y.0)))
  meaning (instr.AddWord rd rs1 imm) w p s t m n o ne y =
      map_sum (λ e. (e, y.1, y.2)) (λ e. (e, y.1, y.2))
      (subst (λ (a : ℕ). Both (λ u. DoesArithWord Addw rd a (residue imm) (W s) u) t) (sym (read_other s rs1 ne)) (arith_word Addw rd (reg s rs1) (residue imm) s t y.0))
  meaning (instr.ShiftWord op rd rs1 amount) w p s t m n o ne y =
      map_sum (λ e. (e, y.1, y.2)) (λ e. (e, y.1, y.2))
      (subst (λ (a : ℕ). Both (λ u. DoesArithWord (shift_word_op op) rd a amount (W s) u) t) (sym (read_other s rs1 ne)) (arith_word (shift_word_op op) rd (reg s rs1) amount s t y.0))
  meaning (instr.ArithWord op rd rs1 rs2) w p s t m n o ne y =
      map_sum (λ e. (e, y.1, y.2)) (λ e. (e, y.1, y.2))
      (subst (λ (a : ℕ). Both (λ u. DoesArithWord op rd a (reg (W s) rs2) (W s) u) t) (sym (read_other s rs1 (λ e. ne (inl e))))
      (subst (λ (b : ℕ). Both (λ u. DoesArithWord op rd (reg s rs1) b (W s) u) t) (sym (read_other s rs2 (λ e. ne (inr e)))) (arith_word op rd (reg s rs1) (reg s rs2) s t y.0)))
  meaning (instr.Fence rd rs1 imm) w p s t m n o ne y = inl (ap (λ (u : ArchState). W u) y.0, y.1, y.2)
  meaning (instr.Csr op rd rs1 c) w p s t m n o ne y =
      map_sum (λ e. (e, y.1)) (λ e. (e, y.1))
      (subst (λ (a : ℕ). Both (λ u. DoesCsr c op rd rs1 a w p (W s) u o) t) (sym (read_other s rs1 ne)) (csr c op rd rs1 (reg s rs1) w p s t o y.0))
  meaning (instr.CsrImm op rd uimm c) w p s t m n o ne y = map_sum (λ e. (e, y.1)) (λ e. (e, y.1)) (csr c op rd uimm uimm w p s t o y.0)
  meaning (instr.System op) w p s t m n o ne y = inl (system op s t o y.0, y.1)

  traps : (code tval : ℕ) (s t : ArchState) (m n : List ℕ) (o : Outcome) → Traps code tval s m t n o → Traps code tval (W s) m (W t) n o
  traps code tval s t m n o y = (ap (λ (u : ArchState). W u) y.0, y.1, y.2)

  obeys : (d : Option Instr) (w : ℕ) (p : Bool) (s t : ArchState) (m n : List ℕ) (o : Outcome) → IsUnread d k → Obeys d w p s m t n o → Obeys d w p (W s) m (W t) n o ⊎ Obeys d w p (W s) m t n o
  obeys None w p s t m n o ne y = inl (traps _ w s t m n o y)
  obeys (Some i) w p s t m n o ne y = meaning i w p s t m n o ne y

  asked : (d : Option Instr) (p : Bool) (s t : ArchState) (m n : List ℕ) (o : Outcome) → (Interrupts p s → ⊥) → s.pc % 4 ≡ 0 → IsInside m s.pc 4 → Reads d (word_at m s.pc) → Steps p s m t n o → Obeys d (word_at m s.pc) p s m t n o
  asked None p s t m n o calm aligned within reads y = y.illegal calm aligned within reads
  asked (Some i) p s t m n o calm aligned within reads y = y.instruction calm aligned within i reads

  pub step_unread : HasOne → (d : Option Instr) (p : Bool) (s t : ArchState) (m n : List ℕ) (o : Outcome) → Reads d (word_at m s.pc) → IsUnread d k → Steps p s m t n o → Steps p (W s) m (W t) n o ⊎ Steps p (W s) m t n o
  step_unread one d p s t m n o reads ne y =
      either (interrupted p s)
      (λ h. inl (record {
        interrupt = λ _. traps _ _ s t m n o (y.interrupt h);
        misaligned = λ calm _. absurd (calm h);
        outside = λ calm _ _. absurd (calm h);
        illegal = λ calm _ _ _. absurd (calm h);
        instruction = λ calm _ _ _ _. absurd (calm h);
      }))
      (λ calm. either (same_number (s.pc % 4) 0)
      (λ aligned. either (inside m s.pc 4)
      (λ within. map_sum
      (λ e. obeyed one d p (W s) (W t) m n o calm aligned within reads e)
      (λ e. obeyed one d p (W s) t m n o calm aligned within reads e)
      (obeys d (word_at m s.pc) p s t m n o ne (asked d p s t m n o calm aligned within reads y)))
      (λ out. inl (record {
        interrupt = λ h. absurd (calm h);
        misaligned = λ _ odd. absurd (odd aligned);
        outside = λ _ _ _. traps _ _ s t m n o (y.outside calm aligned out);
        illegal = λ _ _ there _. absurd (out there);
        instruction = λ _ _ there _ _. absurd (out there);
      })))
      (λ odd. inl (record {
        interrupt = λ h. absurd (calm h);
        misaligned = λ _ _. traps _ _ s t m n o (y.misaligned calm odd);
        outside = λ _ aligned _. absurd (odd aligned);
        illegal = λ _ aligned _ _. absurd (odd aligned);
        instruction = λ _ aligned _ _ _. absurd (odd aligned);
      })))

-- only an ECALL is answered so
asks_by : (i : Instr) (w : ℕ) (p : Bool) (s t : ArchState) (m n : List ℕ) (o : Outcome) → o ≡ outcomes.Ecall → means i w p s m t n o → i ≡ instr.System Ecall
asks_by (instr.Upper op rd imm) w p s t m n o is y = let e = sym is ∙ y.2 in absurd (cc)
asks_by (instr.Jal rd offset) w p s t m n o is y = let e = sym is ∙ y.2 in absurd (cc)
asks_by (instr.Jalr rd rs1 imm) w p s t m n o is y = let e = sym is ∙ y.2 in absurd (cc)
asks_by (instr.Branch op rs1 rs2 offset) w p s t m n o is y = let e = sym is ∙ y.2 in absurd (cc)
asks_by (instr.Load op rd rs1 imm) w p s t m n o is y = let e = sym is ∙ y.2 in absurd (cc)
asks_by (instr.Store op rs1 rs2 imm) w p s t m n o is y = let e = sym is ∙ y.1 in absurd (cc)
asks_by (instr.Imm op rd rs1 imm) w p s t m n o is y = let e = sym is ∙ y.2 in absurd (cc)
asks_by (instr.Shift op rd rs1 amount) w p s t m n o is y = let e = sym is ∙ y.2 in absurd (cc)
asks_by (instr.Arith op rd rs1 rs2) w p s t m n o is y = let e = sym is ∙ y.2 in absurd (cc)
asks_by (instr.AddWord rd rs1 imm) w p s t m n o is y = let e = sym is ∙ y.2 in absurd (cc)
asks_by (instr.ShiftWord op rd rs1 amount) w p s t m n o is y = let e = sym is ∙ y.2 in absurd (cc)
asks_by (instr.ArithWord op rd rs1 rs2) w p s t m n o is y = let e = sym is ∙ y.2 in absurd (cc)
asks_by (instr.Fence rd rs1 imm) w p s t m n o is y = let e = sym is ∙ y.2 in absurd (cc)
asks_by (instr.Csr op rd rs1 c) w p s t m n o is y =
    either (listed c)
    (λ one. either (takes one.0 op rs1 (reg s rs1))
    (λ h. let e = sym is ∙ (y.0.1 one.0 one.1).takes h in absurd (cc))
    (λ h. let e = sym is ∙ (y.0.1 one.0 one.1).goes_on h in absurd (cc)))
    (λ none. let e = sym is ∙ (y.0.0 (λ d f. none (d, f))).1 in absurd (cc))
asks_by (instr.CsrImm op rd uimm c) w p s t m n o is y =
    either (listed c)
    (λ one. either (takes one.0 op uimm uimm)
    (λ h. let e = sym is ∙ (y.0.1 one.0 one.1).takes h in absurd (cc))
    (λ h. let e = sym is ∙ (y.0.1 one.0 one.1).goes_on h in absurd (cc)))
    (λ none. let e = sym is ∙ (y.0.0 (λ d f. none (d, f))).1 in absurd (cc))
asks_by (instr.System Ecall) w p s t m n o is y = refl
asks_by (instr.System Ebreak) w p s t m n o is y = let e = sym is ∙ y.0.1 in absurd (cc)
asks_by (instr.System Sret) w p s t m n o is y = let e = sym is ∙ y.0.1 in absurd (cc)
asks_by (instr.System Wfi) w p s t m n o is y = let e = sym is ∙ y.0.1 in absurd (cc)

-- a step that is answered so leaves the hart as it is
pub call_unread : (d : Option Instr) (k : ℕ) (p : Bool) (s t : ArchState) (m n : List ℕ) → Reads d (word_at m s.pc) → IsUnread d k → Steps p s m t n outcomes.Ecall → IsOfCall k → ⊥
call_unread d k p s t m n reads ne y of_call =
    either (interrupted p s)
    (λ h. let e = (y.interrupt h).2 in absurd (cc))
    (λ calm. either (same_number (s.pc % 4) 0)
    (λ aligned. either (inside m s.pc 4)
    (λ within. by_reading d reads ne (asked k k d p s t m n outcomes.Ecall calm aligned within reads y))
    (λ out. let e = (y.outside calm aligned out).2 in absurd (cc)))
    (λ odd. let e = (y.misaligned calm odd).2 in absurd (cc)))
  where
    by_reading : (d : Option Instr) → Reads d (word_at m s.pc) → IsUnread d k → Obeys d (word_at m s.pc) p s m t n outcomes.Ecall → ⊥
    by_reading None reads ne y = let e = y.2 in absurd (cc)
    by_reading (Some i) reads ne y = subst (λ (j : Instr). IsRead j k → ⊥) (asks_by i (word_at m s.pc) p s t m n outcomes.Ecall refl y) ne of_call

same_call : (a b c d e f g h i j : ℕ) → a ≡ b → c ≡ d → e ≡ f → g ≡ h → i ≡ j → call_at a c e g i ≡ call_at b d f h j
same_call a b c d e f g h i j p q r s t =
    ap (λ (u : ℕ). call_at u c e g i) p ∙ ap (λ (u : ℕ). call_at b u e g i) q ∙ ap (λ (u : ℕ). call_at b d u g i) r ∙ ap (λ (u : ℕ). call_at b d f u i) s ∙ ap (λ (u : ℕ). call_at b d f h u) t

-- ---- a whole turn
module _ (k x : ℕ) where
  abbrev H : Moment → Moment
  H a = holding k x a

  pub called : (s : ArchState) → (IsOfCall k → ⊥) → call_of (with_register k x s) ≡ call_of s
  called s ne =
      let r : (n : ℕ) → (k ≡ n → ⊥) → reg (with_register k x s) n ≡ reg s n = λ n apart. read_other k x s n apart in
      same_call (reg (with_register k x s) 17) (reg s 17) (reg (with_register k x s) 16) (reg s 16) (reg (with_register k x s) 10) (reg s 10) (reg (with_register k x s) 11) (reg s 11) (reg (with_register k x s) 12) (reg s 12)
      (r 17 (λ e. ne (inr (inr (inr (inr e)))))) (r 16 (λ e. ne (inr (inr (inr (inl e)))))) (r 10 (λ e. ne (inl e))) (r 11 (λ e. ne (inr (inl e)))) (r 12 (λ e. ne (inr (inr (inl e)))))

  -- a write of another register
  puts : (rd v : ℕ) (s : ArchState) → (k ≡ rd → ⊥) → put (with_register k x s) rd v ≡ with_register k x (put s rd v)
  puts rd v s ne = by_zero (nat_eq rd 0)
    where
      by_zero : (b : Bool) → (if b then with_register k x s else record (with_register k x s) { regs = slice_set (slice_set s.regs k x) rd v }) ≡ with_register k x (if b then s else record s { regs = slice_set s.regs rd v })
      by_zero true = refl
      by_zero false = ap (λ (l : List ℕ). record s { regs = l }) (set_comm s.regs k rd x v ne)

  pub answers : (s : ArchState) (e v : ℕ) → (IsOfCall k → ⊥) → answered (with_register k x s) e v ≡ with_register k x (answered s e v)
  answers s e v ne =
      ap (λ (u : ArchState). next (put u 11 v)) (puts 10 e s (λ h. ne (inl h)))
      ∙ ap (λ (u : ArchState). next u) (puts 11 v (put s 10 e) (λ h. ne (inr (inl h))))

  ends : (ending : Ending) (s t : ArchState) (word : Turned) → (IsOfCall k → ⊥) → Ends ending s t word → Ends ending (with_register k x s) (with_register k x t) word ⊎ Ends ending (with_register k x s) t word
  ends (Answers a) s t word ne y = inl (ap (λ (u : ArchState). with_register k x u) y.0 ∙ sym (answers s (error_of a) (value_of a) ne), y.1)
  ends Stops s t word ne y = inl (ap (λ (u : ArchState). with_register k x u) y.0, y.1)
  ends Suspends s t word ne y = inl (ap (λ (u : ArchState). with_register k x u) y.0 ∙ sym (answers s 0 0 ne), y.1)
  ends (SuspendsAfresh a o) s t word ne y = inr (y.0, y.1)
  ends Defers s t word ne y = inl (ap (λ (u : ArchState). with_register k x u) y.0, y.1)

  finishes : (size : Size) (o : Outcome) (a b : TableState) (u v : ArchState) (word : Turned) → (o ≡ outcomes.Ecall → IsOfCall k → ⊥) → Finishes size o a u b v word → Finishes size o a (with_register k x u) b (with_register k x v) word ⊎ Finishes size o a (with_register k x u) b v word
  finishes size outcomes.Next a b u v word ne y = inl (y.0, ap (λ (s : ArchState). with_register k x s) y.1, y.2)
  finishes size outcomes.TakePending a b u v word ne y = inl (y.0, ap (λ (s : ArchState). with_register k x s) y.1, y.2)
  finishes size outcomes.Ecall a b u v word ne y =
      let same = called u (ne refl) in
      let row_of_call : Call → CallRow = λ c. answer size u.id c a in
      subst (λ (c : Call). (Ends (row_of_call c).ending (with_register k x u) (with_register k x v) word × (b ≡ (row_of_call c).table)) ⊎ (Ends (row_of_call c).ending (with_register k x u) v word × (b ≡ (row_of_call c).table))) (sym same)
      (map_sum (λ e. (e, y.1)) (λ e. (e, y.1)) (ends (row_of_call (call_of u)).ending u v word (ne refl) y.0))

  turn_as : HasOne → (size : Size) (ready : Ready) (table : TableState) (d : Option Instr) (a b : Moment) (word : Turned) → Reads d (word_at a.memory a.hart.pc) → IsUnread d k → TurnAs size ready table a b word → TurnAs size ready table (H a) (H b) word ⊎ TurnAs size ready table (H a) b word
  turn_as one size readies.Idle table d a b word reads ne y = inl (ap (λ (c : Moment). H c) y.0, y.1)
  turn_as one size readies.Woke table d a b word reads ne y = inl (ap (λ (c : Moment). H c) y.0, y.1)
  turn_as one size (readies.Enters site opaque) table d a b word reads ne y = inr (y.0, y.1)
  turn_as one size (readies.Steps pending) table d a b word reads ne y =
      ⊎_elim
      (λ steps. map_sum
      (λ e. (with_register k x y.0, y.1, steps, e))
      (λ e. (with_register k x y.0, y.1, steps, e))
      (finishes size y.1 table b.table y.0 b.hart word (λ is. call_unread d k pending a.hart y.0 a.memory b.memory reads ne (subst (λ (o : Outcome). Steps pending a.hart a.memory y.0 b.memory o) is y.2)) y.3))
      (λ steps. inr (y.0, y.1, steps, y.3))
      (step_unread k x one d pending a.hart y.0 a.memory b.memory y.1 reads ne y.2)

  pub turn_unread : HasOne → (size : Size) (d : Option Instr) (a b : Moment) (word : Turned) → Reads d (word_at a.memory a.hart.pc) → IsUnread d k → TurnOf size a b word → TurnOf size (H a) (H b) word ⊎ TurnOf size (H a) b word
  turn_unread one size d a b word reads ne y =
      turn_as one size (turn_begun a.hart.id a.table).ready (turn_begun a.hart.id a.table).table d a b word reads ne y
