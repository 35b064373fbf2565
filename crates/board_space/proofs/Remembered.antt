-- What is remembered of numbers is right: rows that stand for the same boards have the same records, where one of the boards is on.
use Rattle.std.proofs.Common.{ℕ, zero, suc, Bool, true, false, if◌then◌else◌, List, [], ◌∷◌, ◌++◌, ◌≡◌, ⊎_elim, ◌+◌, ◌<◌, ◌≤◌, length, refl, sym, ap, subst, ◌∙◌, inl, inr, arith}
use Rattle.std.{specs.Prelude.{get_or, slice_index, slice_set, nat_eq}, proofs.lemmas.Bool.cases_lt}
use Rattle.std.proofs.lemmas.List.{ext_get_or, get_or-set_same, set-get_or, set_past}
use Rattle.board_model.specs.Shapes.{Size}
use Rattle.hart.specs.State.{ArchState, reg, never_started}
use Rattle.machine.specs.Machine.{Machine, hart_at}
use Rattle.model_board.specs.{Boards.{Board, Life, On, Off, Ended}, LeftOut.{Filled, HartFor, IsLeftOut, LEFT_OUT, StandsFor}}
use Rattle.model_board.{specs.Registers.{board_holding, machine_holding, with_register}, proofs.Filling.{life_for, stands_on}}
use Rattle.state_space.specs.{Numbered.{word_count, words_of}, declared.interner.Interner.Interner}
use Rattle.board_space.specs.{Carried.{AreFound, AreLearned, AreRightRecords, AreRightWords, AreSameRecords, Has, IsLearned}, Space.IsFor}
use Rattle.board_space.specs.{Covering.StandsAll, Knowing.{AreAlike, Knows, KnowsFrom}, Layouts.{laid_by, size_of, tracked_of}}
use Rattle.board_space.specs.{OneBoard.{one_at, one_board}, Records.{IsAt, Stays}, Rows.{Extends, Grows, Hold, Stands}}
use Rattle.board_space.specs.{Settings.{Setting, setting_of}, Tracked.{segment, segment_count}, declared.board_rows.BoardRows.BoardRows}
use Rattle.board_space.specs.declared.{carrying.{Numbers.Numbers, RowMemo.RowMemo}, space.BoardSpace.BoardSpace}
use Rattle.board_space.proofs.{Carried.{same_count, same_segment}, Covered.{for_self, same_ended, same_off}, Differing.one_life}
use Rattle.board_space.proofs.{Numbers.{added_at, before_at}, PutOver.machine_on}

-- ---- boards that stand for one another are one
left_by : (z : Bool) (v : ℕ) → (if z then 0 else v) ≡ LEFT_OUT → v ≡ LEFT_OUT
left_by true v e = absurd (omega (arith, e))
left_by false v e = e

same_register : (k x : ℕ) (s : ArchState) → reg s k ≡ LEFT_OUT → reg (with_register k x s) k ≡ LEFT_OUT → with_register k x s ≡ s
same_register k x s was is =
    ap (λ (l : List ℕ). record s { regs = l }) (elim (cases_lt k (length s.regs)) [
      | inl within ↦ (
          let here : slice_index s.regs k ≡ LEFT_OUT = left_by (nat_eq k 0) (slice_index s.regs k) was in
          let held : slice_index (slice_set s.regs k x) k ≡ LEFT_OUT = left_by (nat_eq k 0) (slice_index (slice_set s.regs k x) k) is in
          let e : x ≡ slice_index s.regs k = sym (get_or-set_same s.regs k x 0 within) ∙ (held ∙ sym here) in
          ap (λ (v : ℕ). slice_set s.regs k v) e ∙ set-get_or s.regs k 0)
      | inr past ↦ set_past s.regs k x past
    ])

-- a board, once a register that is left out is filled, stands for it only where nothing was filled in
held_back : (h k x : ℕ) (b : Board) → IsLeftOut h k b → StandsFor (board_holding h k x b) b → board_holding h k x b ≡ b
held_back h k x (On l) left there =
    let m = l.machine in
    let met = life_for there.0 (record l { machine = machine_holding h k x m }) (On l) there.1 in
    let same : l ≡ met.0 = one_life l met.0 met.1 in
    let harts : HartFor (hart_at (machine_holding h k x m) h) (hart_at m h) = subst (λ (n : Life). HartFor (hart_at (machine_holding h k x m) h) (hart_at n.machine h)) (sym same) (met.2.harts h) in
    let filled : hart_at (machine_holding h k x m) h ≡ with_register k x (hart_at m h) = get_or-set_same m.harts h (with_register k x (hart_at m h)) (never_started h) left.0 in
    let holds : reg (hart_at (machine_holding h k x m) h) k ≡ LEFT_OUT = ⊎_elim (λ e. e) (λ e. sym e ∙ left.2) (harts.regs k) in
    let own : with_register k x (hart_at m h) ≡ hart_at m h = same_register k x (hart_at m h) left.2 (subst (λ (s : ArchState). reg s k ≡ LEFT_OUT) filled holds) in
    ap (λ (hs : List ArchState). On (record l { machine = record m { harts = hs } }))
    (ap (λ (s : ArchState). slice_set m.harts h s) own ∙ set-get_or m.harts h (never_started h))
held_back h k x (Off s) left there = absurd left
held_back h k x (Ended s) left there = absurd left

filled_once : (n : ℕ) (b c : Board) → Filled n b c → StandsFor c b → b ≡ c
filled_once zero b c is back = sym is
filled_once (suc n) b c first back =
    let h = first.0 in
    let k = first.1 in
    let x = first.2 in
    let same : board_holding h k x b ≡ b = held_back h k x b first.3 (stands_on (board_holding h k x b) c b (n, first.4) back) in
    sym same ∙ filled_once n (board_holding h k x b) c first.4 (subst (λ (d : Board). StandsFor c d) (sym same) back)

for_once : (leaves : Bool) (b c : Board) → IsFor leaves b c → IsFor leaves c b → b ≡ c
for_once true b c is back = filled_once is.0 b c is.1 back
for_once false b c is back = sym is

-- ---- rows that are alike
on_by : (leaves : Bool) (x : Board) (l : Life) → IsFor leaves x (On l) → (k : Life) × (x ≡ On k)
on_by leaves (On k) l is = (k, refl)
on_by leaves (Off s) l is = let e = same_off leaves (Off s) (On l) refl is in absurd (cc)
on_by leaves (Ended s) l is = let e = same_ended leaves (Ended s) (On l) refl is in absurd (cc)

values_once : (memory words a b : List ℕ) → Hold memory words a → Hold memory words b → a ≡ b
values_once memory words a b x y =
    ext_get_or 0 a b (x.long ∙ sym y.long) (λ j lt.
    let low : j < length words = subst (λ (n : ℕ). j < n) x.long lt in
    x.each j low ∙ sym (y.each j low))

module _ (leaves : Bool) (from to : BoardRows) (laid : laid_by to.layout ≡ laid_by from.layout) (size : size_of to.layout ≡ size_of from.layout)
    (row out : List ℕ) (l : Life) (is : AreAlike (StandsAll leaves from) (StandsAll leaves to) row out l) where
  abbrev board : Board
  board = is.has.0

  there : StandsAll leaves to out board
  there = is.there board (board, is.has.1, for_self leaves board)

  back : StandsAll leaves from row there.0
  back = is.back there.0 (there.0, there.1, for_self leaves there.0)

  one : board ≡ there.0
  one =
      for_once leaves board there.0
      (subst (λ (b : Board). IsFor leaves b there.0) (one_board from row back.0 board back.1 is.has.1) back.2)
      there.2

  other : Stands to out board
  other = subst (λ (b : Board). Stands to out b) (sym one) there.1

  on : (k : Life) × (board ≡ On k)
  on = on_by leaves board l is.has.2

  own : is.has.1.machine ≡ on.0.machine
  own = machine_on is.has.1.rest.power is.has.1.rest.reason is.has.1.rest.down is.has.1.machine on.0 (sym is.has.1.shown ∙ on.1)

  machines : is.has.1.machine ≡ other.machine
  machines = own ∙ sym (machine_on other.rest.power other.rest.reason other.rest.down other.machine on.0 (sym other.shown ∙ on.1))

  pub alike_hart : (h : ℕ) (z : ArchState) → h < (size_of from.layout).harts → IsAt from.harts.records.items (slice_index row (1 + h)) z → IsAt to.harts.records.items (slice_index out (1 + h)) z
  alike_hart h z lt at =
      let mine : IsAt from.harts.records.items (slice_index row (1 + h)) (get_or is.has.1.machine.harts h (never_started h)) = is.has.1.is.harts h lt in
      let its : IsAt to.harts.records.items (slice_index out (1 + h)) (get_or other.machine.harts h (never_started h)) = other.is.harts h (subst (λ (s : Size). h < s.harts) (sym size) lt) in
      let e : get_or other.machine.harts h (never_started h) ≡ z =
      ap (λ (m : Machine). get_or m.harts h (never_started h)) (sym machines) ∙ one_at from.harts.records.items (slice_index row (1 + h)) (get_or is.has.1.machine.harts h (never_started h)) z mine at in
      subst (λ (s : ArchState). IsAt to.harts.records.items (slice_index out (1 + h)) s) e its

  pub alike_words : (s : ℕ) → s < segment_count (tracked_of from.layout)
      → (slice_index out (1 + (size_of from.layout).harts + s) < word_count to.words)
      × (words_of to.words (slice_index out (1 + (size_of from.layout).harts + s)) ≡ words_of from.words (slice_index row (1 + (size_of from.layout).harts + s)))
  alike_words s lt =
      let mine = is.has.1.is.memory.segments s lt in
      let its = other.is.memory.segments s (subst (λ (n : ℕ). s < n) (sym (same_count from.layout to.layout laid)) lt) in
      let at : slice_index out (1 + (size_of to.layout).harts + s) ≡ slice_index out (1 + (size_of from.layout).harts + s) = ap (λ (t : Size). slice_index out (1 + t.harts + s)) size in
      let held : Hold is.has.1.machine.memory (segment (tracked_of from.layout) s) (words_of to.words (slice_index out (1 + (size_of to.layout).harts + s))) =
      subst (λ (m : Machine). Hold m.memory (segment (tracked_of from.layout) s) (words_of to.words (slice_index out (1 + (size_of to.layout).harts + s)))) (sym machines)
      (subst (λ (w : List ℕ). Hold other.machine.memory w (words_of to.words (slice_index out (1 + (size_of to.layout).harts + s)))) (same_segment from.layout to.layout laid s) its.1) in (
        subst (λ (n : ℕ). n < word_count to.words) at its.0,
        ap (λ (n : ℕ). words_of to.words n) (sym at) ∙ values_once is.has.1.machine.memory (segment (tracked_of from.layout) s) _ _ held mine.1,
      )

-- ---- what is remembered
module _ (from to : BoardSpace) (same : setting_of to ≡ setting_of from) (memo : RowMemo) (knows : Knows (setting_of from) (StandsAll from.leaves from.rows) (StandsAll to.leaves to.rows) memo) where
  known : Knows (setting_of from) (StandsAll from.leaves from.rows) (StandsAll from.leaves to.rows) memo
  known = subst (λ (l : Bool). Knows (setting_of from) (StandsAll from.leaves from.rows) (StandsAll l to.rows) memo) (ap (λ (t : Setting). t.leaves) same) knows

  laid : laid_by to.rows.layout ≡ laid_by from.rows.layout
  laid = ap (λ (t : Setting). t.laid) same

  size : size_of to.rows.layout ≡ size_of from.rows.layout
  size = to.size ∙ (ap (λ (t : Setting). t.asked.size) same ∙ sym from.size)

  pub right_harts : AreRightRecords from.rows.harts.records.items to.rows.harts.records.items memo.harts
  right_harts n m z has at =
      let k = known.harts n m has in
      let lt : k.0 < (size_of from.rows.layout).harts = subst (λ (s : Size). k.0 < s.harts) (sym from.size) k.4 in
      subst (λ (i : ℕ). IsAt to.rows.harts.records.items i z) k.6
      (alike_hart from.leaves from.rows to.rows laid size k.1 k.2 k.3 k.7 k.0 z lt (subst (λ (i : ℕ). IsAt from.rows.harts.records.items i z) (sym k.5) at))

  pub right_words : AreRightWords from.rows.words to.rows.words memo.words
  right_words n m has lt =
      let k = known.words n m has in
      let harts : from.shape.harts ≡ (size_of from.rows.layout).harts = ap (λ (s : Size). s.harts) (sym from.size) in
      let low : k.0 < segment_count (tracked_of from.rows.layout) = subst (λ (i : ℕ). k.0 < i) (sym from.rows.layout.tracked.ends.ok.0) k.4 in
      let both = alike_words from.leaves from.rows to.rows laid size k.1 k.2 k.3 k.7 k.0 low in
      let here : slice_index k.1 (1 + (size_of from.rows.layout).harts + k.0) ≡ n = ap (λ (i : ℕ). slice_index k.1 (1 + i + k.0)) (sym harts) ∙ k.5 in
      let there : slice_index k.2 (1 + (size_of from.rows.layout).harts + k.0) ≡ m = ap (λ (i : ℕ). slice_index k.2 (1 + i + k.0)) (sym harts) ∙ k.6 in
      (subst (λ (i : ℕ). i < word_count to.rows.words) there both.0, ap (λ (i : ℕ). words_of to.rows.words i) (sym there) ∙ (both.1 ∙ ap (λ (i : ℕ). words_of from.rows.words i) here))

-- ---- one number more
pub right_more : {T : Type 0} (learns : Bool) (old mid new : List T) (memo now : Numbers) (n k : ℕ) → Stays mid new → AreRightRecords old mid memo → IsLearned learns memo now n k
    → ((x : T) → IsAt old n x → IsAt new k x) → AreRightRecords old new now
right_more {T} learns old mid new memo now n k stays right learned same i m x has at = elim (learned i m has) [
  | inl before ↦ stays m x (right i m x before at)
  | inr by ↦ subst (λ (j : ℕ). IsAt new j x) (sym by.2) (same x (subst (λ (j : ℕ). IsAt old j x) by.1 at))
]

pub right_words_more : (learns : Bool) (old mid new : Interner) (memo now : Numbers) (n k : ℕ) → Grows mid new → AreRightWords old mid memo → IsLearned learns memo now n k
    → k < word_count new → words_of new k ≡ words_of old n → AreRightWords old new now
right_words_more learns old mid new memo now n k grows right learned within same i m has lt = elim (learned i m has) [
  | inl before ↦ (
      let was = right i m before lt in
      let more = grows m was.0 in
      (more.0, more.1 ∙ was.1))
  | inr by ↦ (subst (λ (j : ℕ). j < word_count new) (sym by.2) within, ap (λ (j : ℕ). words_of new j) by.2 ∙ (same ∙ ap (λ (j : ℕ). words_of old j) (sym by.1)))
]

pub learned_more : (learns : Bool) (old memo now : Numbers) (row first out : List ℕ) (from n k : ℕ) → Extends first out n → AreLearned learns old memo row from out (length first) n
    → IsLearned learns memo now (slice_index row (from + n)) k → AreLearned learns old now row from (out ++ k ∷ []) (length first) (n + 1)
learned_more learns old memo now row first out from n k extends until learned i m has = elim (learned i m has) [
  | inl before ↦ elim (until i m before) [
    | inl was ↦ inl was
    | inr by ↦ inr (by.0, (by.1.0, omega (arith, by.1.1), by.1.2, before_at first out n k by.1.0 extends by.1.1 ∙ by.1.3))
  ]
  | inr by ↦ inr (by.0, (n, omega arith, sym by.1, added_at first out n k extends ∙ sym by.2))
]

pub learned_on : (learns : Bool) (old now : Numbers) (row mid out : List ℕ) (from at count more : ℕ) → Extends mid out more → at + count ≤ length mid
    → AreLearned learns old now row from mid at count → AreLearned learns old now row from out at count
learned_on learns old now row mid out from at count more extends long learned i m has = elim (learned i m has) [
  | inl was ↦ inl was
  | inr by ↦ inr (by.0, (by.1.0, by.1.1, by.1.2, extends.same (at + by.1.0) (omega (arith, by.1.1, long)) ∙ by.1.3))
]

-- ---- what is found
pub found_none : (memo : Numbers) (row out : List ℕ) (from at : ℕ) → AreFound memo row from out at 0
found_none memo row out from at h lt = absurd (omega (arith, lt))

pub found_more : (memo : Numbers) (row first out : List ℕ) (from n k : ℕ) → Extends first out n → AreFound memo row from out (length first) n → Has memo (slice_index row (from + n)) k
    → AreFound memo row from (out ++ k ∷ []) (length first) (n + 1)
found_more memo row first out from n k extends was has h lt = elim (cases_lt h n) [
  | inl below ↦ subst (λ (m : ℕ). Has memo (slice_index row (from + h)) m) (sym (before_at first out n k h extends below)) (was h below)
  | inr last ↦ (
      let e : n ≡ h = omega (arith, last, lt) in
      subst (λ (i : ℕ). Has memo (slice_index row (from + i)) (slice_index (out ++ k ∷ []) (length first + i))) e
      (subst (λ (m : ℕ). Has memo (slice_index row (from + n)) m) (sym (added_at first out n k extends)) has))
]

pub same_first : {T : Type 0} (old new : List T) (row out : List ℕ) (at : ℕ) → ((x : T) → IsAt old (slice_index row 0) x → IsAt new (slice_index out at) x) → AreSameRecords old row 0 new out at 1
same_first old new row out at same h x lt is =
    let start : 0 + h ≡ 0 = omega (arith, lt) in
    let place : at ≡ at + h = omega (arith, lt) in
    subst (λ (i : ℕ). IsAt new (slice_index out i) x) place (same x (subst (λ (i : ℕ). IsAt old (slice_index row i) x) start is))

-- ---- the rows that were carried over are alike
pub knows_more : (learns : Bool) (a b b' : List ℕ → Board → Type 0) (first count : ℕ) (old now : Numbers) (row out : List ℕ) → KnowsFrom a b' first count old
    → (learns ≡ true → (l : Life) × AreAlike a b' row out l) → AreLearned learns old now row first out first count → KnowsFrom a b' first count now
knows_more learns a b b' first count old now row out knows alike learned n m has = elim (learned n m has) [
  | inl was ↦ knows n m was
  | inr by ↦ (
      let is = alike by.0 in
      (by.1.0, row, out, is.0, by.1.1, by.1.2, by.1.3, is.1))
]

-- the row that was carried over, from that of a board that is on
pub alike_made : (leaves : Bool) (from to : BoardRows) (row out : List ℕ) (x : Board) → Stands from row x → ((b : Board) → Stands from row b → Stands to out b) → (l : Life) → x ≡ On l
    → AreAlike (StandsAll leaves from) (StandsAll leaves to) row out l
alike_made leaves from to row out x has carried l on = record {
  has = (x, has, subst (λ (b : Board). IsFor leaves x b) on (for_self leaves x));
  there = λ b at. (at.0, carried at.0 at.1, at.2);
  back = λ b at. (x, has, subst (λ (y : Board). IsFor leaves y b) (one_board to out at.0 x at.1 (carried x has)) at.2);
}

-- nothing is remembered
pub knows_none : (setting : Setting) (a b : List ℕ → Board → Type 0) (memo : RowMemo) → length memo.harts.others.items ≡ 0 → length memo.words.others.items ≡ 0 → Knows setting a b memo
knows_none setting a b memo harts words = record {
  harts = λ n m has. absurd (omega (arith, has.0, harts));
  words = λ n m has. absurd (omega (arith, has.0, words));
}
