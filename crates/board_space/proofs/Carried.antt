-- A row of another space of the same layout stands for what the row stood for from which it was carried over.
use Rattle.std.proofs.Common.{ℕ, List, [], ◌∷◌, ◌++◌, ◌≡◌, ◌+◌, ◌*◌, ◌/◌, ◌<◌, length, sym, ap, subst, ◌∙◌, inl, inr, arith}
use Rattle.std.{specs.Prelude.{get_or, slice_index, slice_range}, proofs.lemmas.Bool.cases_lt}
use Rattle.board_model.specs.Shapes.{Size}
use Rattle.hart.specs.State.{never_started}
use Rattle.model_board.specs.{Boards.Board, Maps.Map}
use Rattle.state_space.specs.{Begins.begin_of, Numbered.{word_count, words_of}, declared.interner.Interner.Interner}
use Rattle.state_space.specs.declared.word_pool.WordPool.{WordPool}
use Rattle.board_space.specs.{Carried.{AreSameRecords, AreSameWords}, Ready.Tracks, Records.{IsAt, Stays}}
use Rattle.board_space.specs.{Layouts.{IsOnBase, Laid, base_of, laid_by, size_of, tracked_of, width_of}, declared.row_layout.Layout.Layout}
use Rattle.board_space.specs.{Rows.{Extends, Grows, Hold, Stands}, Tracked.{IsTracked, segment, segment_count}}
use Rattle.board_space.{specs.declared.board_rows.BoardRows.BoardRows, proofs.Numbers.{added_at, before_at}}

-- ---- one layout
module _ (a b : WordPool) (words : b.words.items ≡ a.words.items) (ends : b.ends.items ≡ a.ends.items) where
  pub pool_count : segment_count b ≡ segment_count a
  pool_count = b.ends.ok.0 ∙ (ap (λ (l : List ℕ). length l) ends ∙ sym a.ends.ok.0)

  pub pool_segment : (n : ℕ) → segment b n ≡ segment a n
  pool_segment n =
      ap (λ (l : List ℕ). slice_range l (begin_of b.ends.items n) (slice_index b.ends.items n)) words
      ∙ ap (λ (l : List ℕ). slice_range a.words.items (begin_of l n) (slice_index l n)) ends

  pub pool_tracked : (word : ℕ) → IsTracked a word → IsTracked b word
  pool_tracked word at = record {
    number = at.number;
    place = at.place;
    known = subst (λ (n : ℕ). at.number < n) (sym pool_count) at.known;
    within = subst (λ (l : List ℕ). at.place < length l) (sym (pool_segment at.number)) at.within;
    is = ap (λ (l : List ℕ). slice_index l at.place) (pool_segment at.number) ∙ at.is;
  }

module _ (a b : Layout) (same : laid_by b ≡ laid_by a) where
  same_words : (tracked_of b).words.items ≡ (tracked_of a).words.items
  same_words = ap (λ (l : Laid). l.words) same

  same_ends : (tracked_of b).ends.items ≡ (tracked_of a).ends.items
  same_ends = ap (λ (l : Laid). l.ends) same

  pub same_base : base_of b ≡ base_of a
  same_base = ap (λ (l : Laid). l.base) same

  pub same_count : segment_count (tracked_of b) ≡ segment_count (tracked_of a)
  same_count = pool_count (tracked_of a) (tracked_of b) same_words same_ends

  pub same_segment : (n : ℕ) → segment (tracked_of b) n ≡ segment (tracked_of a) n
  same_segment = pool_segment (tracked_of a) (tracked_of b) same_words same_ends

  pub tracked_too : (word : ℕ) → IsTracked (tracked_of a) word → IsTracked (tracked_of b) word
  tracked_too = pool_tracked (tracked_of a) (tracked_of b) same_words same_ends

  pub on_base_too : (m : List ℕ) → IsOnBase a m → IsOnBase b m
  on_base_too m on = record {
    long = on.long ∙ ap (λ (l : List ℕ). length l) (sym same_base);
    same = λ i lt none. on.same i lt (λ at. none (tracked_too (i / 8) at)) ∙ ap (λ (l : List ℕ). slice_index l i) (sym same_base);
  }

  pub tracks_too : (map : Map) → Tracks a map → Tracks b map
  tracks_too map tracks h k lt may none =
      tracks h k (subst (λ (l : List ℕ). 8 * k < length l) same_base lt) may (λ at. none (tracked_too k at))

-- ---- one number more
pub records_more : {T : Type 0} (old : List T) (row : List ℕ) (from : ℕ) (mid new : List T) (first out : List ℕ) (n k : ℕ)
    → Extends first out n → Stays mid new → AreSameRecords old row from mid out (length first) n
    → ((x : T) → IsAt old (slice_index row (from + n)) x → IsAt new k x)
    → AreSameRecords old row from new (out ++ k ∷ []) (length first) (n + 1)
records_more {T} old row from mid new first out n k extends stays was same h x lt is = elim (cases_lt h n) [
  | inl below ↦ subst (λ (m : ℕ). IsAt new m x) (sym (before_at first out n k h extends below)) (stays (slice_index out (length first + h)) x (was h x below is))
  | inr last ↦ (
      let e : h ≡ n = omega (arith, last, lt) in
      subst (λ (m : ℕ). IsAt new (slice_index (out ++ k ∷ []) (length first + m)) x) (sym e)
      (subst (λ (m : ℕ). IsAt new m x) (sym (added_at first out n k extends)) (same x (subst (λ (m : ℕ). IsAt old (slice_index row (from + m)) x) e is))))
]

pub words_more : (old : Interner) (row : List ℕ) (from : ℕ) (mid new : Interner) (first out : List ℕ) (n k : ℕ)
    → Extends first out n → Grows mid new → AreSameWords old row from mid out (length first) n
    → k < word_count new → words_of new k ≡ words_of old (slice_index row (from + n))
    → AreSameWords old row from new (out ++ k ∷ []) (length first) (n + 1)
words_more old row from mid new first out n k extends grows was within same s lt = elim (cases_lt s n) [
  | inl below ↦ (
      let at = was s below in
      let more = grows (slice_index out (length first + s)) at.0 in
      subst (λ (m : ℕ). (m < word_count new) × (words_of new m ≡ words_of old (slice_index row (from + s)))) (sym (before_at first out n k s extends below))
      (more.0, more.1 ∙ at.1))
  | inr last ↦ (
      let e : s ≡ n = omega (arith, last, lt) in
      subst (λ (m : ℕ). (slice_index (out ++ k ∷ []) (length first + m) < word_count new) × (words_of new (slice_index (out ++ k ∷ []) (length first + m)) ≡ words_of old (slice_index row (from + m)))) (sym e)
      (subst (λ (m : ℕ). (m < word_count new) × (words_of new m ≡ words_of old (slice_index row (from + n)))) (sym (added_at first out n k extends)) (within, same)))
]

-- ---- a whole row
module _ (old new : BoardRows) (row none first mid out : List ℕ) where
  pub stands_carried : laid_by new.layout ≡ laid_by old.layout → size_of new.layout ≡ size_of old.layout
      → length none ≡ 0
      → Extends none first 1 → Extends first mid (size_of old.layout).harts → Extends mid out (segment_count (tracked_of old.layout))
      → AreSameRecords old.rests.records.items row 0 new.rests.records.items first (length none) 1
      → AreSameRecords old.harts.records.items row 1 new.harts.records.items mid (length first) (size_of old.layout).harts
      → AreSameWords old.words row (1 + (size_of old.layout).harts) new.words out (length mid) (segment_count (tracked_of old.layout))
      → (b : Board) → Stands old row b → Stands new out b
  stands_carried laid size zero one many all rests harts words b x = record {
    rest = x.rest;
    machine = x.machine;
    long = long;
    rested = subst (λ (m : ℕ). IsAt new.rests.records.items m x.rest) at_rest (rests 0 x.rest (omega arith) x.rested);
    fits = x.fits;
    is = record {
      size = x.is.size ∙ sym size;
      doze = x.is.doze;
      table = x.is.table;
      many = x.is.many;
      numbered = x.is.numbered;
      harts = λ h low.
          let below : h < (size_of old.layout).harts = subst (λ (s : Size). h < s.harts) size low in
          subst (λ (m : ℕ). IsAt new.harts.records.items m (get_or x.machine.harts h (never_started h))) (at_hart h below) (harts h (get_or x.machine.harts h (never_started h)) below (x.is.harts h below));
      memory = record {
        based = on_base_too old.layout new.layout laid x.machine.memory x.is.memory.based;
        bytes = x.is.memory.bytes;
        segments = λ s low.
            let below : s < segment_count (tracked_of old.layout) = subst (λ (n : ℕ). s < n) (same_count old.layout new.layout laid) low in
            let a = x.is.memory.segments s below in
            let g = words s below in
            let place : length mid + s ≡ 1 + (size_of new.layout).harts + s = ap (λ (n : ℕ). n + s) starts in
            subst (λ (n : ℕ). (slice_index out n < word_count new.words) × Hold x.machine.memory (segment (tracked_of new.layout) s) (words_of new.words (slice_index out n))) place (
              g.0,
              subst (λ (v : List ℕ). Hold x.machine.memory v (words_of new.words (slice_index out (length mid + s)))) (sym (same_segment old.layout new.layout laid s))
                  (subst (λ (v : List ℕ). Hold x.machine.memory (segment (tracked_of old.layout) s) v) (sym g.1) a.1),
            );
      };
    };
    shown = x.shown;
  }
    where
      harts_same : (size_of new.layout).harts ≡ (size_of old.layout).harts
      harts_same = ap (λ (s : Size). s.harts) size

      starts : length mid ≡ 1 + (size_of new.layout).harts
      starts = omega (arith, zero, one.long, many.long, harts_same)

      long : length out ≡ width_of new.layout
      long = omega (arith, all.long, starts, same_count old.layout new.layout laid)

      at_rest : slice_index first (length none + 0) ≡ slice_index out 0
      at_rest =
          ap (λ (n : ℕ). slice_index first n) (omega (arith, zero))
          ∙ (sym (many.same 0 (omega (arith, zero, one.long))) ∙ sym (all.same 0 (omega (arith, zero, one.long, many.long))))

      at_hart : (h : ℕ) → h < (size_of old.layout).harts → slice_index mid (length first + h) ≡ slice_index out (1 + h)
      at_hart h lt =
          ap (λ (n : ℕ). slice_index mid n) (omega (arith, zero, one.long))
          ∙ sym (all.same (1 + h) (omega (arith, zero, one.long, many.long, lt)))
