-- A row is put where another one was.
use Rattle.std.proofs.Common.{ℕ, List, Bool, ◌≡◌, ◌+◌, ◌*◌, ◌/◌, ◌<◌, ◌≤◌, length, refl, sym, ap, subst, ◌∙◌, inl, inr, arith}
use Rattle.std.{specs.Prelude.{slice_index, slice_set, get_or}, proofs.lemmas.{Bool.cases_lt, List.get_or-set_other}}
use Rattle.board_model.specs.declared.durable.Reason.{Reason}
use Rattle.hart.specs.State.{ArchState, never_started}
use Rattle.machine.specs.Machine.{Machine}
use Rattle.model_board.specs.{Boards.{Board, Life, On, Off, Ended}, Held.with_hart, Plain.{Sized, board_shown, with_machine}}
use Rattle.model_board.specs.{Rests.{IsRest, with_rest}, declared.{powers.Power.Power, rests.Rest.Rest}}
use Rattle.model_board.specs.declared.powers.Power.TheVariants as powers
use Rattle.ram.specs.Memory.{value}
use Rattle.state_space.specs.{Numbered.words_of, declared.interner.Interner.Interner}
use Rattle.board_space.specs.{Layouts.{size_of, tracked_of}, OneBoard.one_at, Records.IsAt, Tracked.{segment, segment_count}}
use Rattle.board_space.specs.{Rows.{AreHarts, AreSegments, Hold, IsShownByParts, Stands}, declared.board_rows.BoardRows.BoardRows}
use Rattle.board_space.specs.declared.row_layout.Layout.{Layout}
use Rattle.board_space.proofs.Putting.{ArePut, AreSegmentsPut, harts_none, put_more, segments_none, segments_by}

-- ---- harts
-- the first ones are put, and the others are as they were
pub record AreOthersPut (records : List ArchState) (row : List ℕ) (old now : Sized) (count : ℕ) : Type 0 where
  pub put : ArePut records row old now count
  pub left : (h : ℕ) → count ≤ h → get_or now.machine.harts h (never_started h) ≡ get_or old.machine.harts h (never_started h)

pub others_none : (records : List ArchState) (row : List ℕ) (old : Sized) → IsShownByParts old → AreOthersPut records row old old 0
others_none records row old shown = record { put = harts_none records row old shown; left = λ h from. refl }

pub others_more : (records : List ArchState) (row : List ℕ) (old now new : Sized) (count : ℕ) (x : ArchState) → AreOthersPut records row old now count → count < length old.machine.harts → IsAt records (slice_index row (1 + count)) x → x.id ≡ count
    → new ≡ with_machine (with_hart x.id now.machine x) now → AreOthersPut records row old new (count + 1)
others_more records row old now new count x others low at is e =
    let harts : new.machine.harts ≡ slice_set now.machine.harts count x = ap (λ (s : Sized). s.machine.harts) e ∙ ap (λ (k : ℕ). slice_set now.machine.harts k x) is in
    record {
      put = put_more records row old now new count x others.put low at is e;
      left = λ h from.
          let other : h ≡ count → ⊥ = λ same. omega (arith, same, from) in
          ap (λ (hs : List ArchState). get_or hs h (never_started h)) harts
          ∙ (get_or-set_other now.machine.harts count h x (never_started h) other ∙ others.left h (omega (arith, from)));
    }

-- ---- segments
-- the first ones are put, and each word that is as some memory of the row has it is so still
pub record AreOtherSegmentsPut (layout : Layout) (words : Interner) (at : ℕ) (row : List ℕ) (old now : Sized) (count : ℕ) : Type 0 where
  pub put : AreSegmentsPut layout words at row old now count
  pub keeps : (m : List ℕ) (u : ℕ) → AreSegments layout words row at m → value old.machine.memory (8 * u) 8 ≡ value m (8 * u) 8 → value now.machine.memory (8 * u) 8 ≡ value m (8 * u) 8

pub other_segments_none : (layout : Layout) (words : Interner) (at : ℕ) (row : List ℕ) (old : Sized) → IsShownByParts old → AreOtherSegmentsPut layout words at row old old 0
other_segments_none layout words at row old shown = record { put = segments_none layout words at row old shown; keeps = λ m u are same. same }

pub other_segments_by : (layout : Layout) (words : Interner) (at : ℕ) (row : List ℕ) (old now new : Sized) (count : ℕ)
    → AreOtherSegmentsPut layout words at row old now count → count < segment_count (tracked_of layout)
    → (ws vs : List ℕ) → ws ≡ segment (tracked_of layout) count → vs ≡ words_of words (slice_index row (at + count))
    → ((m : List ℕ) → Hold m ws vs → Hold new.machine.memory ws vs)
    → ((m : List ℕ) (u : ℕ) → Hold m ws vs → value now.machine.memory (8 * u) 8 ≡ value m (8 * u) 8 → value new.machine.memory (8 * u) 8 ≡ value m (8 * u) 8)
    → ((i : ℕ) → ((j : ℕ) → j < length ws → slice_index ws j ≡ i / 8 → ⊥) → slice_index new.machine.memory i ≡ slice_index now.machine.memory i)
    → length new.machine.memory ≡ length now.machine.memory
    → new ≡ with_machine (record now.machine { memory = new.machine.memory }) now
    → AreOtherSegmentsPut layout words at row old new (count + 1)
other_segments_by layout words at row old now new count others low ws vs is are hold keeps outside room framed = record {
  put = segments_by layout words at row old now new count others.put low ws vs is are hold keeps outside room framed;
  keeps = λ m u all same.
      keeps m u
      (subst (λ (w : List ℕ). Hold m w vs) (sym is) (subst (λ (v : List ℕ). Hold m (segment (tracked_of layout) count) v) (sym are) (all count low).1))
      (others.keeps m u all same);
}

-- both rows have that segment
pub other_segments_same : (layout : Layout) (words : Interner) (at : ℕ) (from row : List ℕ) (old now : Sized) (count : ℕ)
    → AreOtherSegmentsPut layout words at row old now count → count < segment_count (tracked_of layout)
    → AreSegments layout words from at old.machine.memory → slice_index from (at + count) ≡ slice_index row (at + count)
    → AreOtherSegmentsPut layout words at row old now (count + 1)
other_segments_same layout words at from row old now count others low there same = record {
  put = record {
    there = λ m are s j below within. elim (cases_lt s count) [
      | inl before ↦ others.put.there m are s j before within
      | inr until ↦ (
          let is : s ≡ count = omega arith in
          let here : j < length (segment (tracked_of layout) count) = subst (λ (k : ℕ). j < length (segment (tracked_of layout) k)) is within in
          let one : slice_index (words_of words (slice_index from (at + count))) j ≡ slice_index (words_of words (slice_index row (at + count))) j = ap (λ (n : ℕ). slice_index (words_of words n) j) same in
          subst (λ (k : ℕ). value now.machine.memory (8 * slice_index (segment (tracked_of layout) k) j) 8 ≡ value m (8 * slice_index (segment (tracked_of layout) k) j) 8) (sym is)
          (others.keeps m (slice_index (segment (tracked_of layout) count) j) are
          (sym ((there count low).1.each j here) ∙ (one ∙ (are count low).1.each j here))))
    ];
    outside = others.put.outside;
    room = others.put.room;
    others = others.put.others;
  };
  keeps = others.keeps;
}

-- ---- what a board has that is on and for which a row stands
abbrev life_in : Life → Board → Life
life_in d (On l) = l
life_in d (Off s) = d
life_in d (Ended s) = d

pub machine_on : (power : Power) (reason : Reason) (down : Bool) (m : Machine) (l : Life) → board_shown power reason down m ≡ On l → m ≡ l.machine
machine_on powers.On reason down m l e = ap (λ (b : Board). (life_in l b).machine) e
machine_on (powers.Off at) reason down m l e = absurd (cc)
machine_on powers.Ended reason down m l e = absurd (cc)

module _ (rows : BoardRows) (from : List ℕ) (b : Sized) (rest own : Rest) (rested : IsAt rows.rests.records.items (slice_index from 0) rest) (on : rest.power ≡ powers.On)
    (x : Stands rows from b.board) (is : IsRest own b) where
  same_rest : x.rest ≡ rest
  same_rest = one_at rows.rests.records.items (slice_index from 0) x.rest rest x.rested rested

  same_machine : b.machine ≡ x.machine
  same_machine =
      let shown : b.board ≡ board_shown powers.On x.rest.reason x.rest.down x.machine = x.shown ∙ ap (λ (p : Power). board_shown p x.rest.reason x.rest.down x.machine) (ap (λ (r : Rest). r.power) same_rest ∙ on) in
      ap (λ (s : Sized). s.machine) is
      ∙ machine_on own.power own.reason own.down (with_rest own b.machine) _ (sym (ap (λ (s : Sized). s.board) is) ∙ shown)

  pub there_harts : AreHarts rows.harts.records.items from 1 (size_of rows.layout).harts b.machine.harts
  there_harts = subst (λ (m : Machine). AreHarts rows.harts.records.items from 1 (size_of rows.layout).harts m.harts) (sym same_machine) x.is.harts

  pub there_segments : AreSegments rows.layout rows.words from (1 + (size_of rows.layout).harts) b.machine.memory
  there_segments = subst (λ (m : Machine). AreSegments rows.layout rows.words from (1 + (size_of rows.layout).harts) m.memory) (sym same_machine) x.is.memory.segments
