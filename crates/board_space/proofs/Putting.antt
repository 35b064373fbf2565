-- A board into which a row was put is the row's.
use Rattle.std.proofs.Common.{ℕ, List, Bool, ◌≡◌, ◌+◌, ◌*◌, ◌/◌, ◌%◌, ◌^◌, ◌<◌, ◌≤◌, length, refl, sym, ap, subst, ◌∙◌, inl, inr, arith}
use Rattle.std.{specs.Prelude.{slice_index, slice_set, get_or}, proofs.lemmas.Bool.{cases_lt, cases_eq}}
use Rattle.std.proofs.lemmas.List.{length-set, get_or-set_same, get_or-set_other}
use Rattle.board_model.specs.{Shapes.{Size, ram_bytes_of}, declared.durable.Reason.Reason}
use Rattle.hart.specs.State.{ArchState, never_started}
use Rattle.machine.specs.Machine.{Machine, hart_at}
use Rattle.model_board.specs.{Boards.Board, Held.with_hart, Plain.{Sized, sized, with_machine}, Rests.{Fits, with_rest, table_copied}}
use Rattle.model_board.specs.declared.{powers.Power.Power, rests.Rest.Rest}
use Rattle.ram.{specs.Memory.{value, Stored}, proofs.Keeping.same_value}
use Rattle.state_space.specs.{Numbered.words_of, declared.interner.Interner.Interner}
use Rattle.board_space.specs.{Layouts.{IsBased, IsOnBase, size_of, tracked_of}, Tracked.{AreWithin, IsTracked, segment, segment_count}}
use Rattle.board_space.specs.{Records.IsAt, Rows.{AreHarts, AreSegments, Hold, IsShownByParts, Stands}, declared.row_layout.Layout.Layout}
use Rattle.board_space.specs.{declared.board_rows.BoardRows.BoardRows, OneBoard.{one_at, one_board}}

-- the board is shown by these and its machine
abbrev pub IsSized : Power → Reason → Bool → Sized → Type 0
IsSized power reason down b = b ≡ sized power reason down b.machine

pub sized_by : (power : Power) (reason : Reason) (down : Bool) (m : Machine) (b : Sized) → b ≡ sized power reason down m → IsSized power reason down b
sized_by power reason down m b e = e ∙ ap (λ (n : Machine). sized power reason down n) (sym (ap (λ (s : Sized). s.machine) e))

pub sized_on : (power : Power) (reason : Reason) (down : Bool) (m : Machine) (b c : Sized) → IsSized power reason down b → c ≡ with_machine m b → IsSized power reason down c
sized_on power reason down m b c is e = sized_by power reason down m c (e ∙ ap (λ (s : Sized). sized s.power s.reason s.down m) is)

pub shown_by : (power : Power) (reason : Reason) (down : Bool) (m : Machine) (b : Sized) → b ≡ sized power reason down m → IsShownByParts b
shown_by power reason down m b e = subst (λ (s : Sized). IsShownByParts s) (sym e) refl

pub framed_shown : (m : Machine) (old new : Sized) → new ≡ with_machine m old → IsShownByParts new
framed_shown m old new e = shown_by old.power old.reason old.down m new e

-- ---- harts
-- the first harts are put
pub record ArePut (records : List ArchState) (row : List ℕ) (old now : Sized) (count : ℕ) : Type 0 where
  pub harts : AreHarts records row 1 count now.machine.harts
  pub many : length now.machine.harts ≡ length old.machine.harts
  pub others : now ≡ with_machine (record old.machine { harts = now.machine.harts }) old

pub harts_none : (records : List ArchState) (row : List ℕ) (old : Sized) → IsShownByParts old → ArePut records row old old 0
harts_none records row old shown = record { harts = λ h below. absurd (omega arith); many = refl; others = shown }

frame : (old now : Sized) (m : Machine) → now ≡ with_machine m old → now.machine ≡ m
frame old now m e = ap (λ (s : Sized). s.machine) e

pub put_more : (records : List ArchState) (row : List ℕ) (old now new : Sized) (count : ℕ) (x : ArchState) → ArePut records row old now count → count < length old.machine.harts → IsAt records (slice_index row (1 + count)) x → x.id ≡ count
    → new ≡ with_machine (with_hart x.id now.machine x) now → ArePut records row old new (count + 1)
put_more records row old now new count x put low at is e =
    let harts : new.machine.harts ≡ slice_set now.machine.harts count x = ap (λ (s : Sized). s.machine.harts) e ∙ ap (λ (k : ℕ). slice_set now.machine.harts k x) is in
    let inside : count < length now.machine.harts = omega (arith, low, put.many) in
    record {
      harts = λ h below. subst (λ (hs : List ArchState). IsAt records (slice_index row (1 + h)) (get_or hs h (never_started h))) (sym harts)
          (elim (cases_eq h count) [
            | inl same ↦ subst (λ (k : ℕ). IsAt records (slice_index row (1 + k)) (get_or (slice_set now.machine.harts count x) k (never_started k))) (sym same) (subst (λ (y : ArchState). IsAt records (slice_index row (1 + count)) y) (sym (get_or-set_same now.machine.harts count x (never_started count) inside)) at)
            | inr other ↦ subst (λ (y : ArchState). IsAt records (slice_index row (1 + h)) y) (sym (get_or-set_other now.machine.harts count h x (never_started h) other)) (put.harts h (omega (arith, below, other)))
          ]);
      many = ap (λ (hs : List ArchState). length hs) harts ∙ (length-set now.machine.harts count x ∙ put.many);
      others = e ∙ framed;
    }
  where
    framed : with_machine (with_hart x.id now.machine x) now ≡ with_machine (record old.machine { harts = new.machine.harts }) old
    framed =
        let hs : List ArchState = slice_set now.machine.harts x.id x in
        ap (λ (s : Sized). sized s.power s.reason s.down (record s.machine { harts = hs })) put.others
        ∙ ap (λ (ys : List ArchState). sized old.power old.reason old.down (record old.machine { harts = ys })) (sym (ap (λ (s : Sized). s.machine.harts) e))

-- ---- words
-- a word that is put is as in m
pub word_there : (m old new : List ℕ) (w v : ℕ) → Stored old new (8 * w) 8 v → v ≡ value m (8 * w) 8 → v < 2 ^ 64 → value new (8 * w) 8 ≡ value m (8 * w) 8
word_there m old new w v stored is small = let e : v % 256 ^ 8 ≡ v = omega (arith, small) in stored.2 ∙ (e ∙ is)

-- and each other one that was stays so
pub word_put : (m old new : List ℕ) (w u v : ℕ) → Stored old new (8 * w) 8 v → v ≡ value m (8 * w) 8 → v < 2 ^ 64 → value old (8 * u) 8 ≡ value m (8 * u) 8 → value new (8 * u) 8 ≡ value m (8 * u) 8
word_put m old new w u v stored is small same =
    elim (cases_lt u w) [
      | inl below ↦ same_value old new (8 * u) 8 (λ j from to. stored.3 j (inl (omega arith))) ∙ same
      | inr from_there ↦ elim (cases_lt w u) [
        | inl above ↦ same_value old new (8 * u) 8 (λ j from to. stored.3 j (inr (omega arith))) ∙ same
        | inr until ↦ (
            let e : w ≡ u = omega arith in
            subst (λ (k : ℕ). value new (8 * k) 8 ≡ value m (8 * k) 8) e (word_there m old new w v stored is small))
      ]
    ]

pub word_beside : (old new : List ℕ) (w v i : ℕ) → Stored old new (8 * w) 8 v → (w ≡ i / 8 → ⊥) → slice_index new i ≡ slice_index old i
word_beside old new w v i stored other =
    elim (cases_lt i (8 * w)) [
      | inl before ↦ stored.3 i (inl before)
      | inr from ↦ elim (cases_lt i (8 * w + 8)) [
        | inl within ↦ absurd (other (omega arith))
        | inr after ↦ stored.3 i (inr after)
      ]
    ]

-- the first values are put
pub record AreValuesPut (words values : List ℕ) (old now : Sized) (count : ℕ) : Type 0 where
  pub there : (m : List ℕ) → Hold m words values → (j : ℕ) → j < count → value now.machine.memory (8 * slice_index words j) 8 ≡ value m (8 * slice_index words j) 8
  pub keeps : (m : List ℕ) (u : ℕ) → Hold m words values → value old.machine.memory (8 * u) 8 ≡ value m (8 * u) 8 → value now.machine.memory (8 * u) 8 ≡ value m (8 * u) 8
  pub outside : (i : ℕ) → ((j : ℕ) → j < length words → slice_index words j ≡ i / 8 → ⊥) → slice_index now.machine.memory i ≡ slice_index old.machine.memory i
  pub room : length now.machine.memory ≡ length old.machine.memory
  pub others : now ≡ with_machine (record old.machine { memory = now.machine.memory }) old

pub values_none : (words values : List ℕ) (old : Sized) → IsShownByParts old → AreValuesPut words values old old 0
values_none words values old shown = record {
  there = λ m hold j below. absurd (omega arith);
  keeps = λ m u hold same. same;
  outside = λ i none. refl;
  room = refl;
  others = shown;
}

memory_framed : (old now new : Sized) → now ≡ with_machine (record old.machine { memory = now.machine.memory }) old → new ≡ with_machine (record now.machine { memory = new.machine.memory }) now → new ≡ with_machine (record old.machine { memory = new.machine.memory }) old
memory_framed old now new a b = b ∙ ap (λ (s : Sized). sized s.power s.reason s.down (record s.machine { memory = new.machine.memory })) a

pub values_more : (words values : List ℕ) (old now new : Sized) (count : ℕ) → AreValuesPut words values old now count → count < length words → slice_index values count < 2 ^ 64
    → Stored now.machine.memory new.machine.memory (8 * slice_index words count) 8 (slice_index values count)
    → new ≡ with_machine (record now.machine { memory = new.machine.memory }) now → AreValuesPut words values old new (count + 1)
values_more words values old now new count put low small stored others = record {
  there = λ m hold j below. elim (cases_lt j count) [
    | inl before ↦ word_put m now.machine.memory new.machine.memory (slice_index words count) (slice_index words j) (slice_index values count) stored (hold.each count low) small (put.there m hold j before)
    | inr from ↦ (
        let e : j ≡ count = omega arith in
        subst (λ (k : ℕ). value new.machine.memory (8 * slice_index words k) 8 ≡ value m (8 * slice_index words k) 8) (sym e) (word_there m now.machine.memory new.machine.memory (slice_index words count) (slice_index values count) stored (hold.each count low) small))
  ];
  keeps = λ m u hold same. word_put m now.machine.memory new.machine.memory (slice_index words count) u (slice_index values count) stored (hold.each count low) small (put.keeps m u hold same);
  outside = λ i none. word_beside now.machine.memory new.machine.memory (slice_index words count) (slice_index values count) i stored (none count low) ∙ put.outside i none;
  room = stored.0 ∙ put.room;
  others = memory_framed old now new put.others others;
}

-- ---- segments
-- the first segments are put
pub record AreSegmentsPut (layout : Layout) (words : Interner) (from : ℕ) (row : List ℕ) (old now : Sized) (count : ℕ) : Type 0 where
  pub there : (m : List ℕ) → AreSegments layout words row from m → (s j : ℕ) → s < count → j < length (segment (tracked_of layout) s)
      → value now.machine.memory (8 * slice_index (segment (tracked_of layout) s) j) 8 ≡ value m (8 * slice_index (segment (tracked_of layout) s) j) 8
  pub outside : (i : ℕ) → (IsTracked (tracked_of layout) (i / 8) → ⊥) → slice_index now.machine.memory i ≡ slice_index old.machine.memory i
  pub room : length now.machine.memory ≡ length old.machine.memory
  pub others : now ≡ with_machine (record old.machine { memory = now.machine.memory }) old

pub segments_none : (layout : Layout) (words : Interner) (from : ℕ) (row : List ℕ) (old : Sized) → IsShownByParts old → AreSegmentsPut layout words from row old old 0
segments_none layout words from row old shown = record {
  there = λ m are s j below within. absurd (omega arith);
  outside = λ i none. refl;
  room = refl;
  others = shown;
}

module _ (layout : Layout) (words : Interner) (from : ℕ) (row : List ℕ) (old now new : Sized) (count : ℕ)
    (put : AreSegmentsPut layout words from row old now count) (low : count < segment_count (tracked_of layout)) where
  pub segments_more : ((m : List ℕ) → Hold m (segment (tracked_of layout) count) (words_of words (slice_index row (from + count))) → Hold new.machine.memory (segment (tracked_of layout) count) (words_of words (slice_index row (from + count))))
      → ((m : List ℕ) (u : ℕ) → Hold m (segment (tracked_of layout) count) (words_of words (slice_index row (from + count))) → value now.machine.memory (8 * u) 8 ≡ value m (8 * u) 8 → value new.machine.memory (8 * u) 8 ≡ value m (8 * u) 8)
      → ((i : ℕ) → ((j : ℕ) → j < length (segment (tracked_of layout) count) → slice_index (segment (tracked_of layout) count) j ≡ i / 8 → ⊥) → slice_index new.machine.memory i ≡ slice_index now.machine.memory i)
      → length new.machine.memory ≡ length now.machine.memory
      → new ≡ with_machine (record now.machine { memory = new.machine.memory }) now
      → AreSegmentsPut layout words from row old new (count + 1)
  segments_more hold keeps outside room others = record {
    there = λ m are s j below within.
        let x = (are count low).1 in
        elim (cases_lt s count) [
          | inl before ↦ keeps m (slice_index (segment (tracked_of layout) s) j) x (put.there m are s j before within)
          | inr until ↦ (
              let e : s ≡ count = omega arith in
              let here : j < length (segment (tracked_of layout) count) = subst (λ (k : ℕ). j < length (segment (tracked_of layout) k)) e within in
              subst (λ (k : ℕ). value new.machine.memory (8 * slice_index (segment (tracked_of layout) k) j) 8 ≡ value m (8 * slice_index (segment (tracked_of layout) k) j) 8) (sym e)
              (sym ((hold m x).each j here) ∙ x.each j here))
        ];
    outside = λ i none. outside i (λ j below is. none (record { number = count; place = j; known = low; within = below; is = is })) ∙ put.outside i none;
    room = room ∙ put.room;
    others = memory_framed old now new put.others others;
  }

  pub segments_by : (ws vs : List ℕ) → ws ≡ segment (tracked_of layout) count → vs ≡ words_of words (slice_index row (from + count))
      → ((m : List ℕ) → Hold m ws vs → Hold new.machine.memory ws vs)
      → ((m : List ℕ) (u : ℕ) → Hold m ws vs → value now.machine.memory (8 * u) 8 ≡ value m (8 * u) 8 → value new.machine.memory (8 * u) 8 ≡ value m (8 * u) 8)
      → ((i : ℕ) → ((j : ℕ) → j < length ws → slice_index ws j ≡ i / 8 → ⊥) → slice_index new.machine.memory i ≡ slice_index now.machine.memory i)
      → length new.machine.memory ≡ length now.machine.memory
      → new ≡ with_machine (record now.machine { memory = new.machine.memory }) now
      → AreSegmentsPut layout words from row old new (count + 1)
  segments_by ws vs is are hold keeps outside room others =
      segments_more
      (subst (λ (v : List ℕ). (m : List ℕ) → Hold m (segment (tracked_of layout) count) v → Hold new.machine.memory (segment (tracked_of layout) count) v) are
      (subst (λ (w : List ℕ). (m : List ℕ) → Hold m w vs → Hold new.machine.memory w vs) is hold))
      (subst (λ (v : List ℕ). (m : List ℕ) (u : ℕ) → Hold m (segment (tracked_of layout) count) v → value now.machine.memory (8 * u) 8 ≡ value m (8 * u) 8 → value new.machine.memory (8 * u) 8 ≡ value m (8 * u) 8) are
      (subst (λ (w : List ℕ). (m : List ℕ) (u : ℕ) → Hold m w vs → value now.machine.memory (8 * u) 8 ≡ value m (8 * u) 8 → value new.machine.memory (8 * u) 8 ≡ value m (8 * u) 8) is keeps))
      (subst (λ (w : List ℕ). (i : ℕ) → ((j : ℕ) → j < length w → slice_index w j ≡ i / 8 → ⊥) → slice_index new.machine.memory i ≡ slice_index now.machine.memory i) is outside)
      room others

pub segments_hold : (layout : Layout) (words : Interner) (from : ℕ) (row : List ℕ) (old now : Sized) (count : ℕ) → AreSegmentsPut layout words from row old now count → segment_count (tracked_of layout) ≤ count → (m : List ℕ) → AreSegments layout words row from m → AreSegments layout words row from now.machine.memory
segments_hold layout words from row old now count put all m are s low =
    let x = are s low in (
      x.0,
      record {
        long = x.1.long;
        each = λ j within. x.1.each j within ∙ sym (put.there m are s j (omega arith) within);
      },
    )

-- ---- what a known row lets be put
module _ (rows : BoardRows) (row : List ℕ) (known : Board) (x : Stands rows row known) (old : Sized) (based : IsBased rows.layout old) where
  same_harts : x.machine.size.harts ≡ old.machine.size.harts
  same_harts = ap (λ (s : Size). s.harts) (x.is.size ∙ sym based.size)

  pub known_segments : (m : List ℕ) × AreSegments rows.layout rows.words row (1 + (size_of rows.layout).harts) m
  known_segments = (x.machine.memory, x.is.memory.segments)

  pub words_within : (m : List ℕ) → m ≡ old.machine.memory → AreWithin (tracked_of rows.layout) (length m)
  words_within m same word t =
      let e : 8 * word + 8 ≤ ram_bytes_of rows.layout.shape = rows.layout.within word t in
      let long : length m ≡ length old.machine.memory = ap (λ (l : List ℕ). length l) same in
      omega (arith, e, long, based.memory.long, rows.layout.whole)

-- ---- all of it
module _ (rows : BoardRows) (row : List ℕ) (known : Board) (x : Stands rows row known) (rest : Rest) (old b1 b2 b3 : Sized)
    (rested : IsAt rows.rests.records.items (slice_index row 0) rest) (based : IsBased rows.layout old)
    (put1 : b1 ≡ sized rest.power rest.reason rest.down (with_rest rest old.machine))
    (harts : AreHarts rows.harts.records.items row 1 (size_of rows.layout).harts b2.machine.harts) (many : length b2.machine.harts ≡ (size_of rows.layout).harts)
    (put2 : b2 ≡ with_machine (record b1.machine { harts = b2.machine.harts }) b1)
    (segments : AreSegments rows.layout rows.words row (1 + (size_of rows.layout).harts) b3.machine.memory)
    (outside : (i : ℕ) → (IsTracked (tracked_of rows.layout) (i / 8) → ⊥) → slice_index b3.machine.memory i ≡ slice_index b2.machine.memory i)
    (room : length b3.machine.memory ≡ length b2.machine.memory)
    (put3 : b3 ≡ with_machine (record b2.machine { memory = b3.machine.memory }) b2)
    (bytes : (i : ℕ) → i < length b3.machine.memory → slice_index b3.machine.memory i < 256) where
  -- what stays of the first machine
  machine1 : b1.machine ≡ with_rest rest old.machine
  machine1 = ap (λ (s : Sized). s.machine) put1

  machine2 : b2.machine ≡ record b1.machine { harts = b2.machine.harts }
  machine2 = ap (λ (s : Sized). s.machine) put2

  machine3 : b3.machine ≡ record b2.machine { memory = b3.machine.memory }
  machine3 = ap (λ (s : Sized). s.machine) put3

  pub size : b3.machine.size ≡ size_of rows.layout
  size = ap (λ (m : Machine). m.size) machine3 ∙ (ap (λ (m : Machine). m.size) machine2 ∙ (ap (λ (m : Machine). m.size) machine1 ∙ based.size))

  memory2 : b2.machine.memory ≡ old.machine.memory
  memory2 = ap (λ (m : Machine). m.memory) machine2 ∙ ap (λ (m : Machine). m.memory) machine1

  on_base : IsOnBase rows.layout b3.machine.memory
  on_base = record {
    long = room ∙ (ap (λ (m : List ℕ). length m) memory2 ∙ based.memory.long);
    same = λ i low none.
        let there : i < length old.machine.memory = subst (λ (n : ℕ). i < n) (room ∙ ap (λ (m : List ℕ). length m) memory2) low in
        outside i none ∙ (ap (λ (m : List ℕ). slice_index m i) memory2 ∙ based.memory.same i there none);
  }

  harts3 : b3.machine.harts ≡ b2.machine.harts
  harts3 = ap (λ (m : Machine). m.harts) machine3

  same_rest : x.rest ≡ rest
  same_rest = one_at rows.rests.records.items (slice_index row 0) x.rest rest x.rested rested

  same_size : x.machine.size ≡ b3.machine.size
  same_size = x.is.size ∙ sym size

  numbered : (h : ℕ) → h < b3.machine.size.harts → (hart_at b3.machine h).id ≡ h
  numbered h low =
      let there : h < (size_of rows.layout).harts = subst (λ (s : Size). h < s.harts) size low in
      let here : h < x.machine.size.harts = subst (λ (s : Size). h < s.harts) (sym same_size) low in
      ap (λ (hs : List ArchState). (get_or hs h (never_started h)).id) harts3
      ∙ (ap (λ (s : ArchState). s.id) (one_at rows.harts.records.items (slice_index row (1 + h)) _ _ (harts h there) (x.is.harts h there)) ∙ x.is.numbered h here)

  pub stands : Stands rows row b3.board
  stands = record {
    rest = rest;
    machine = b3.machine;
    long = x.long;
    rested = rested;
    fits = subst (λ (r : Rest). Fits b3.machine.size.harts r) same_rest (subst (λ (s : Size). Fits s.harts x.rest) same_size x.fits);
    is = record {
      size = size;
      doze = ap (λ (m : Machine). m.doze) machine3 ∙ (ap (λ (m : Machine). m.doze) machine2 ∙ ap (λ (m : Machine). m.doze) machine1);
      table = ap (λ (m : Machine). m.table) machine3 ∙ (ap (λ (m : Machine). m.table) machine2 ∙ (ap (λ (m : Machine). m.table) machine1 ∙ ap (λ (s : Size). table_copied s.harts rest.tables) (based.size ∙ sym size)));
      many = ap (λ (hs : List ArchState). length hs) harts3 ∙ (many ∙ sym (ap (λ (s : Size). s.harts) size));
      numbered = numbered;
      harts = subst (λ (hs : List ArchState). AreHarts rows.harts.records.items row 1 (size_of rows.layout).harts hs) (sym harts3) harts;
      memory = record { based = on_base; bytes = bytes; segments = segments };
    };
    shown = ap (λ (s : Sized). s.board) (sized_on rest.power rest.reason rest.down (record b2.machine { memory = b3.machine.memory }) b2 b3 (sized_on rest.power rest.reason rest.down (record b1.machine { harts = b2.machine.harts }) b1 b2 (sized_by rest.power rest.reason rest.down (with_rest rest old.machine) b1 put1) put2) put3);
  }

  pub is_board : (b : Board) → Stands rows row b → b3.board ≡ b
  is_board b y = one_board rows row b3.board b stands y
