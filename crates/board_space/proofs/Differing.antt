-- A board that a row stands for has what the row has.
use Rattle.std.proofs.Common.{ℕ, List, [], Bool, false, Option, Some, None, ⊎_elim, ◌≡◌, ◌+◌, ◌*◌, ◌<◌, ◌≤◌, length, refl, sym, ap, subst, ◌∙◌, arith}
use Rattle.std.specs.Prelude.{get_or, slice_index, take}
use Rattle.std.proofs.lemmas.List.{get_or-map, get_or-take, get_or_read, length-take, length-take-le}
use Rattle.board_model.specs.{Shapes.Size, declared.durable.Reason.Reason}
use Rattle.hart.{specs.{State.{ArchState, reg}, Csrs.{csr_number, csr_read}, declared.csr.Csr.Csr}, proofs.Decided.{either, listed}}
use Rattle.hart.specs.declared.csr.Csr.TheVariants.{Sstatus, Sie, Stvec, Sscratch, Sepc, Scause, Stval, Sip, Satp}
use Rattle.hsm.specs.{Copies.state_told, States.stopped, declared.standings.Standing.Standing}
use Rattle.hsm.specs.declared.standings.Standing.TheVariants as told
use Rattle.machine.specs.Machine.{Machine, hart_at}
use Rattle.model_board.specs.{Boards.{Board, Life, On, Off, Ended}, LeftOut.{LEFT_OUT, StandsFor, Filled, HartFor, LifeFor}}
use Rattle.model_board.{specs.Plain.{Sized, board_shown, standing}, proofs.Filling.{life_for, off_filled, ended_filled}}
use Rattle.model_board.specs.{Rests.{Fits, IsCopy, IsRest, with_rest, table_copied}, declared.{powers.Power.Power, rests.Rest.Rest}}
use Rattle.model_board.specs.declared.tables.TableCopy.{TableCopy}
use Rattle.model_board.specs.declared.powers.Power.TheVariants as powers
use Rattle.ram.specs.Memory.{value}
use Rattle.sbi_calls.specs.Both.{TableState}
use Rattle.state_space.specs.Numbered.{words_of}
use Rattle.board_space.specs.{Layouts.{size_of, tracked_of}, Records.IsAt, Rows.Stands, Tracked.{segment, segment_count}, OneBoard.one_at}
use Rattle.board_space.{specs.declared.board_rows.BoardRows.BoardRows, proofs.Senders.one_senders}

-- ---- states
told_one : (a b : Standing) → state_told a ≡ state_told b → a ≡ b
told_one told.Stopped told.Stopped e = refl
told_one told.Stopped (told.StartPending p o) e = absurd (cc)
told_one told.Stopped told.Started e = absurd (cc)
told_one told.Stopped told.Suspended e = absurd (cc)
told_one (told.StartPending a o) told.Stopped e = absurd (cc)
told_one (told.StartPending a o) (told.StartPending p q) e = cc
told_one (told.StartPending a o) told.Started e = absurd (cc)
told_one (told.StartPending a o) told.Suspended e = absurd (cc)
told_one told.Started told.Stopped e = absurd (cc)
told_one told.Started (told.StartPending p o) e = absurd (cc)
told_one told.Started told.Started e = refl
told_one told.Started told.Suspended e = absurd (cc)
told_one told.Suspended told.Stopped e = absurd (cc)
told_one told.Suspended (told.StartPending p o) e = absurd (cc)
told_one told.Suspended told.Started e = absurd (cc)
told_one told.Suspended told.Suspended e = refl

told_at : (n h : ℕ) (d : Standing) (a : TableCopy) → h < n → n ≤ length a.states → get_or (table_copied n a).states h stopped ≡ state_told (get_or a.states h d)
told_at n h d a low enough =
    get_or-map state_told (take n a.states) h d stopped (omega (arith, low, length-take-le n a.states enough)) ∙ ap (λ (s : Standing). state_told s) (get_or-take n a.states h d low)

is_enough : (n : ℕ) (a : TableCopy) → IsCopy n a → n ≤ length a.states
is_enough n a copy = omega (arith, copy.1, length-take n a.states)

one_state : (n h : ℕ) (d : Standing) (a b : TableCopy) → h < n → n ≤ length a.states → n ≤ length b.states → table_copied n a ≡ table_copied n b → get_or a.states h d ≡ get_or b.states h d
one_state n h d a b low enough here e =
    told_one (get_or a.states h d) (get_or b.states h d)
    (sym (told_at n h d a low enough) ∙ (ap (λ (t : TableState). get_or t.states h stopped) e ∙ told_at n h d b low here))

life_in : Board → Life → Life
life_in (On l) m = l
life_in (Off s) m = m
life_in (Ended s) m = m

pub one_life : (k m : Life) → On k ≡ On m → k ≡ m
unfolding life_in
one_life k m e = ap (λ (b : Board). life_in b k) e

-- a board that stands for one that is on is on
on_shown : (power : Power) (why : Reason) (down : Bool) (m : Machine) (k : Life) → StandsFor (board_shown power why down m) (On k) → (power ≡ powers.On) × LifeFor (record { machine = m; stands = standing why None; down = down }) k
on_shown powers.On why down m k stands =
    let l : Life = record { machine = m; stands = standing why None; down = down } in
    let met = life_for stands.0 l (On k) stands.1 in
    (refl, subst (λ (x : Life). LifeFor l x) (sym (one_life k met.0 met.1)) met.2)
on_shown (powers.Off at) why down m k stands = let e = off_filled stands.0 _ (On k) stands.1 in absurd (cc)
on_shown powers.Ended why down m k stands = let e = ended_filled stands.0 _ (On k) stands.1 in absurd (cc)

module _ (rows : BoardRows) (row : List ℕ) (b : Sized) (rest own : Rest) (rested : IsAt rows.rests.records.items (slice_index row 0) rest) (on : rest.power ≡ powers.On)
    (n d : Board) (x : Stands rows row n) (first : StandsFor n d) (second : StandsFor b.board d) where
  same_rest : x.rest ≡ rest
  same_rest = one_at rows.rests.records.items (slice_index row 0) x.rest rest x.rested rested

  shown : n ≡ On (record { machine = x.machine; stands = standing rest.reason None; down = rest.down })
  shown =
      x.shown
      ∙ (ap (λ (r : Rest). board_shown r.power r.reason r.down x.machine) same_rest
      ∙ ap (λ (p : Power). board_shown p rest.reason rest.down x.machine) on)

  met : (k : Life) × (d ≡ On k) × LifeFor (record { machine = x.machine; stands = standing rest.reason None; down = rest.down }) k
  met =
      life_for first.0 (record { machine = x.machine; stands = standing rest.reason None; down = rest.down }) d (subst (λ (a : Board). Filled first.0 a d) shown first.1)

  module _ (is : IsRest own b) where
    both : (own.power ≡ powers.On) × LifeFor (record { machine = with_rest own b.machine; stands = standing own.reason None; down = own.down }) met.0
    both =
        on_shown own.power own.reason own.down (with_rest own b.machine) met.0
        (subst (λ (a : Board). StandsFor a (On met.0)) (ap (λ (s : Sized). s.board) is) (subst (λ (a : Board). StandsFor b.board a) met.1 second))

    pub both_on : own.power ≡ powers.On
    both_on = both.0

    raw : b.machine ≡ with_rest own b.machine
    raw = ap (λ (s : Sized). s.machine) is

    -- they are one but for their harts
    like : record (with_rest own b.machine) { harts = [] } ≡ record x.machine { harts = [] }
    like =
        sym (ap (λ (k : Life). record k.machine { harts = [] }) both.1.same)
        ∙ ap (λ (k : Life). record k.machine { harts = [] }) met.2.same

    machines : record b.machine { harts = [] } ≡ record x.machine { harts = [] }
    machines = ap (λ (m : Machine). record m { harts = [] }) raw ∙ like

    pub same_doze : own.doze ≡ rest.doze
    same_doze = ap (λ (m : Machine). m.doze) like ∙ (x.is.doze ∙ ap (λ (r : Rest). r.doze) same_rest)

    -- some hart is one with both but for registers that are left out of them
    pub same_hart : (h : ℕ) (r : ArchState) → h < (size_of rows.layout).harts → IsAt rows.harts.records.items (slice_index row (1 + h)) r → (s : ArchState) × HartFor r s × HartFor (hart_at b.machine h) s
    same_hart h r low at =
        let same : r ≡ hart_at x.machine h = one_at rows.harts.records.items (slice_index row (1 + h)) r (hart_at x.machine h) at (x.is.harts h low) in (
          hart_at met.0.machine h,
          subst (λ (s : ArchState). HartFor s (hart_at met.0.machine h)) (sym same) (met.2.harts h),
          subst (λ (m : Machine). HartFor (hart_at m h) (hart_at met.0.machine h)) (sym raw) (both.1.harts h),
        )

    pub same_word : (s j : ℕ) → s < segment_count (tracked_of rows.layout) → j < length (segment (tracked_of rows.layout) s)
        → slice_index (words_of rows.words (slice_index row (1 + (size_of rows.layout).harts + s))) j ≡ value b.machine.memory (8 * slice_index (segment (tracked_of rows.layout) s) j) 8
    same_word s j low within =
        (x.is.memory.segments s low).1.each j within
        ∙ ap (λ (m : Machine). value m.memory (8 * slice_index (segment (tracked_of rows.layout) s) j) 8) (sym machines)

    tables : table_copied b.machine.size.harts own.tables ≡ table_copied b.machine.size.harts rest.tables
    tables =
        ap (λ (m : Machine). m.table) like
        ∙ (x.is.table
        ∙ (ap (λ (r : Rest). table_copied x.machine.size.harts r.tables) same_rest
        ∙ ap (λ (m : Machine). table_copied m.size.harts rest.tables) (sym machines)))

    pub same_state : (h : ℕ) (d : Standing) → h < (size_of rows.layout).harts → Fits b.machine.size.harts own → b.machine.size ≡ size_of rows.layout → get_or rest.tables.states h d ≡ get_or own.tables.states h d
    same_state h d low fits size =
        let there : h < b.machine.size.harts = subst (λ (s : Size). h < s.harts) (sym size) low in
        let stood : Fits b.machine.size.harts rest = subst (λ (r : Rest). Fits b.machine.size.harts r) same_rest (subst (λ (m : Machine). Fits m.size.harts x.rest) (sym machines) x.fits) in
        one_state b.machine.size.harts h d rest.tables own.tables there (is_enough b.machine.size.harts rest.tables stood.tables) (is_enough b.machine.size.harts own.tables fits.tables) (sym tables)

    pub same_read : (place h : ℕ) (r s : Standing) → place ≡ h → h < (size_of rows.layout).harts → Fits b.machine.size.harts own → b.machine.size ≡ size_of rows.layout → r ≡ get_or rest.tables.states place r → s ≡ get_or own.tables.states place s → r ≡ s
    same_read place h r s at low fits size one other =
        let n : ℕ = b.machine.size.harts in
        let stood : Fits n rest = subst (λ (t : Rest). Fits n t) same_rest (subst (λ (m : Machine). Fits m.size.harts x.rest) (sym machines) x.fits) in
        let there : place < n = subst (λ (k : ℕ). k < n) (sym at) (subst (λ (t : Size). h < t.harts) (sym size) low) in
        let left = is_enough n rest.tables stood.tables in
        let right = is_enough n own.tables fits.tables in
        get_or_read rest.tables.states place r (omega (arith, there, left)) one told.Stopped
        ∙ (ap (λ (k : ℕ). get_or rest.tables.states k told.Stopped) at
        ∙ (same_state h told.Stopped low fits size
        ∙ (ap (λ (k : ℕ). get_or own.tables.states k told.Stopped) (sym at)
        ∙ sym (get_or_read own.tables.states place s (omega (arith, there, right)) other told.Stopped))))

    pub same_pending : (place h : ℕ) → place ≡ h → h < (size_of rows.layout).harts → Fits b.machine.size.harts own → b.machine.size ≡ size_of rows.layout → get_or rest.tables.pending place 0 ≡ get_or own.tables.pending place 0
    same_pending place h at low fits size =
        let n : ℕ = b.machine.size.harts in
        let stood : Fits n rest = subst (λ (t : Rest). Fits n t) same_rest (subst (λ (m : Machine). Fits m.size.harts x.rest) (sym machines) x.fits) in
        let there : place < n = subst (λ (k : ℕ). k < n) (sym at) (subst (λ (t : Size). h < t.harts) (sym size) low) in
        one_senders n place rest.tables own.tables there stood.tables fits.tables (sym tables)

-- ---- harts that can't stand for one hart
pc_for : (s t u : ArchState) → HartFor s u → HartFor t u → s.pc ≡ t.pc
pc_for s t u first second = sym (ap (λ (a : ArchState). a.pc) first.same) ∙ ap (λ (a : ArchState). a.pc) second.same

pub pc_differs : (s t : ArchState) → (s.pc ≡ t.pc → ⊥) → (u : ArchState) → HartFor s u → HartFor t u → ⊥
pc_differs s t other u first second = other (pc_for s t u first second)

pub reg_differs : (k : ℕ) (s t : ArchState) → (reg s k ≡ reg t k → ⊥) → (reg s k ≡ LEFT_OUT → ⊥) → (reg t k ≡ LEFT_OUT → ⊥) → (u : ArchState) → HartFor s u → HartFor t u → ⊥
reg_differs k s t other own another u first second =
    ⊎_elim own (λ same. ⊎_elim another (λ too. other (sym same ∙ too)) (second.regs k)) (first.regs k)

csr_same : (c : Csr) (s : ArchState) (regs : List ℕ) → csr_read c (record s { regs = regs }) false ≡ csr_read c s false
csr_same Sstatus s regs = refl
csr_same Sie s regs = refl
csr_same Stvec s regs = refl
csr_same Sscratch s regs = refl
csr_same Sepc s regs = refl
csr_same Scause s regs = refl
csr_same Stval s regs = refl
csr_same Sip s regs = refl
csr_same Satp s regs = refl

csr_for : (c : Csr) (s t u : ArchState) → HartFor s u → HartFor t u → csr_read c s false ≡ csr_read c t false
csr_for c s t u first second =
    sym (csr_same c s u.regs)
    ∙ (sym (ap (λ (a : ArchState). csr_read c a false) first.same)
    ∙ (ap (λ (a : ArchState). csr_read c a false) second.same ∙ csr_same c t u.regs))

pub csr_differs : (number : ℕ) (s t : ArchState) (x y : Option ℕ) → ((c : Csr) → csr_number c ≡ number → x ≡ Some (csr_read c s false)) → (((c : Csr) → csr_number c ≡ number → ⊥) → x ≡ None) → ((c : Csr) → csr_number c ≡ number → y ≡ Some (csr_read c t false)) → (((c : Csr) → csr_number c ≡ number → ⊥) → y ≡ None) → (x ≡ y → ⊥) → (u : ArchState) → HartFor s u → HartFor t u → ⊥
csr_differs number s t x y found none other_found other_none other u first second =
    either (listed number)
    (λ at. other (found at.0 at.1 ∙ (ap (λ (v : ℕ). Some v) (csr_for at.0 s t u first second) ∙ sym (other_found at.0 at.1))))
    (λ not. other (none (λ c is. not (c, is)) ∙ sym (other_none (λ c is. not (c, is)))))
