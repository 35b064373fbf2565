-- The row that is told of a board stands for it.
use Rattle.std.proofs.Common.{ℕ, List, [], ◌∷◌, Bool, ◌≡◌, ◌+◌, ◌^◌, ◌<◌, ◌≤◌, length, refl, sym, ap, subst, ◌∙◌, inl, inr, arith}
use Rattle.std.{specs.Prelude.{slice_index, get_or, replicate, take, false, Option, Some, None}, proofs.lemmas.{Bool.cases_lt, Nat.pow_pos}}
use Rattle.std.proofs.lemmas.List.{get_or-replicate, get_or_past, length-replicate, length-take-le, take-replicate}
use Rattle.hart.specs.State.{never_started}
use Rattle.hsm.specs.declared.standings.Standing.TheVariants.{Stopped}
use Rattle.board_model.specs.declared.durable.Reason.{Reason}
use Rattle.machine.proofs.Opening.{long, stopped_numbered}
use Rattle.model_board.specs.{Boards.Board, Plain.{Sized, IsPlain, board_shown}, Rests.{Fits, IsCopy, IsRest}, declared.powers.Power.Power}
use Rattle.model_board.specs.declared.{rests.Rest.Rest, tables.TableCopy.TableCopy}
use Rattle.model_board.specs.declared.powers.Power.TheVariants as powers
use Rattle.susp.specs.declared.buses.Doze.{Doze}
use Rattle.board_space.specs.{Layouts.{IsBased, IsOnBase, size_of, base_of, tracked_of, width_of}, Records.{IsAt, Stays}}
use Rattle.board_space.specs.Rows.{AreHarts, AreSegments, Extends, Grows, Hold, Stands, no_tables, seen_rest, seen_harts, seen_memory, seen_by}
use Rattle.board_space.specs.{Tracked.{AreWithin, segment, segment_count}, declared.board_rows.BoardRows.BoardRows}
use Rattle.board_space.specs.declared.row_layout.Layout.{Layout}

-- what is known of a board and of the row that was told of it
pub record AreTold (rest : Rest) (rows : BoardRows) (b : Sized) (row : List ℕ) : Type 0 where
  pub is : IsRest rest b
  pub fits : Fits b.machine.size.harts rest
  pub plain : IsPlain b.machine.size b.machine.memory b.machine.harts b.machine.table
  pub based : IsBased rows.layout b
  pub bytes : (i : ℕ) → i < length b.machine.memory → slice_index b.machine.memory i < 256
  pub base : (i : ℕ) → i < length (base_of rows.layout) → slice_index (base_of rows.layout) i < 256
  pub long : length row ≡ width_of rows.layout
  pub rested : IsAt rows.rests.records.items (slice_index row 0) (seen_rest rest)
  pub harts : AreHarts rows.harts.records.items row 1 (size_of rows.layout).harts (seen_harts (seen_rest rest).power b.machine)
  pub segments : AreSegments rows.layout rows.words row (1 + (size_of rows.layout).harts) (seen_memory (base_of rows.layout) (seen_rest rest).power b.machine)

-- ---- the tables of harts that are all STOPPED
zero_at : (n h : ℕ) → slice_index (replicate n 0) h ≡ 0
zero_at n h =
    elim (cases_lt h n) [
      | inl low ↦ get_or-replicate n h 0 0 low
      | inr high ↦ get_or_past (replicate n 0) h 0 (omega (arith, length-replicate {A = ℕ} n 0, high))
    ]

pub none_fits : (n : ℕ) → n ≤ 8 → IsCopy n no_tables
none_fits n few =
    let e : length (take n (replicate 8 Stopped)) ≡ n = length-take-le n (replicate 8 Stopped) few in (
      record {
        few = omega (arith, e, few);
        long = length-take-le n (replicate 8 0) few ∙ sym e;
        within = λ h. subst (λ (v : ℕ). v < 2 ^ length (take n (replicate 8 Stopped))) (sym (ap (λ (xs : List ℕ). slice_index xs h) (take-replicate n 8 0 few) ∙ zero_at n h)) (pow_pos (length (take n (replicate 8 Stopped))));
      },
      e,
    )

base_based : (layout : Layout) → IsOnBase layout (base_of layout)
base_based layout = record { long = refl; same = λ i low none. refl }

pub stood : (power : Power) (reason : Reason) (down : Bool) (doze : Option Doze) (tables : TableCopy) (rows : BoardRows) (b : Sized) (row : List ℕ)
    → ((n : ℕ) → n ≤ 8 → IsCopy n no_tables)
    → AreTold (record { power = power; reason = reason; down = down; doze = doze; tables = tables }) rows b row → Stands rows row b.board
stood powers.On reason down doze tables rows b row none t = record {
  rest = record { power = powers.On; reason = reason; down = down; doze = doze; tables = tables };
  machine = b.machine;
  long = t.long;
  rested = t.rested;
  fits = t.fits;
  is = record {
    size = t.based.size;
    doze = ap (λ (s : Sized). s.machine.doze) t.is;
    table = ap (λ (s : Sized). s.machine.table) t.is;
    many = t.plain.long;
    numbered = λ h low. t.plain.numbered h (subst (λ (k : ℕ). h < k) (sym t.plain.long) low);
    harts = t.harts;
    memory = record { based = t.based.memory; bytes = t.bytes; segments = t.segments };
  };
  shown = ap (λ (s : Sized). s.board) t.is ∙ sym (ap (λ (s : Sized). board_shown powers.On reason down s.machine) t.is);
}
stood (powers.Off None) reason down doze tables rows b row none t = record {
  rest = record { power = powers.Off None; reason = reason; down = false; doze = None; tables = no_tables };
  machine = seen_by (base_of rows.layout) (record { power = powers.Off None; reason = reason; down = down; doze = doze; tables = tables }) b.machine;
  long = t.long;
  rested = t.rested;
  fits = record { tables = none b.machine.size.harts t.plain.few; known = t.fits.known };
  is = record {
    size = t.based.size;
    doze = refl;
    table = refl;
    many = long b.machine.size.harts;
    numbered = λ h low. stopped_numbered b.machine.size.harts h (subst (λ (k : ℕ). h < k) (sym (long b.machine.size.harts)) low);
    harts = t.harts;
    memory = record { based = base_based rows.layout; bytes = t.base; segments = t.segments };
  };
  shown = ap (λ (s : Sized). s.board) t.is;
}
stood (powers.Off (Some at)) reason down doze tables rows b row none t = record {
  rest = record { power = powers.Off (Some at); reason = reason; down = false; doze = None; tables = no_tables };
  machine = seen_by (base_of rows.layout) (record { power = powers.Off (Some at); reason = reason; down = down; doze = doze; tables = tables }) b.machine;
  long = t.long;
  rested = t.rested;
  fits = record { tables = none b.machine.size.harts t.plain.few; known = t.fits.known };
  is = record {
    size = t.based.size;
    doze = refl;
    table = refl;
    many = long b.machine.size.harts;
    numbered = λ h low. stopped_numbered b.machine.size.harts h (subst (λ (k : ℕ). h < k) (sym (long b.machine.size.harts)) low);
    harts = t.harts;
    memory = record { based = t.based.memory; bytes = t.bytes; segments = t.segments };
  };
  shown = ap (λ (s : Sized). s.board) t.is;
}
stood powers.Ended reason down doze tables rows b row none t = record {
  rest = record { power = powers.Ended; reason = reason; down = false; doze = None; tables = no_tables };
  machine = seen_by (base_of rows.layout) (record { power = powers.Ended; reason = reason; down = down; doze = doze; tables = tables }) b.machine;
  long = t.long;
  rested = t.rested;
  fits = record { tables = none b.machine.size.harts t.plain.few; known = t.fits.known };
  is = record {
    size = t.based.size;
    doze = refl;
    table = refl;
    many = long b.machine.size.harts;
    numbered = λ h low. stopped_numbered b.machine.size.harts h (subst (λ (k : ℕ). h < k) (sym (long b.machine.size.harts)) low);
    harts = t.harts;
    memory = record { based = base_based rows.layout; bytes = t.base; segments = t.segments };
  };
  shown = ap (λ (s : Sized). s.board) t.is;
}

pub seen_within : (layout : Layout) (b : Sized) → IsBased layout b → (power : Power) → AreWithin (tracked_of layout) (length (seen_memory (base_of layout) power b.machine))
seen_within layout b based powers.On word t = omega (arith, layout.within word t, layout.whole, based.memory.long)
seen_within layout b based (powers.Off None) word t = omega (arith, layout.within word t, layout.whole)
seen_within layout b based (powers.Off (Some at)) word t = omega (arith, layout.within word t, layout.whole, based.memory.long)
seen_within layout b based powers.Ended word t = omega (arith, layout.within word t, layout.whole)

-- ---- a row that was told, part by part
module _ (rest seen : Rest) (rows : BoardRows) (b : Sized) (first then row : List ℕ) (n count : ℕ) (is : seen ≡ seen_rest rest) (many : count ≡ (size_of rows.layout).harts) (one : first ≡ n ∷ []) (harts : Extends first then count)
    (segments : Extends then row (segment_count (tracked_of rows.layout))) where
  two : length then ≡ 1 + (size_of rows.layout).harts
  two = omega (arith, harts.long, ap (λ (l : List ℕ). length l) one, many)

  pub told_long : length row ≡ width_of rows.layout
  told_long = omega (arith, segments.long, two)

  zeroth : slice_index row 0 ≡ n
  zeroth = segments.same 0 (omega (arith, two)) ∙ (harts.same 0 (omega (arith, ap (λ (l : List ℕ). length l) one)) ∙ ap (λ (l : List ℕ). slice_index l 0) one)

  pub told_rested : IsAt rows.rests.records.items n seen → IsAt rows.rests.records.items (slice_index row 0) (seen_rest rest)
  told_rested at = subst (λ (k : ℕ). IsAt rows.rests.records.items k (seen_rest rest)) (sym zeroth) (subst (λ (r : Rest). IsAt rows.rests.records.items n r) is at)

  pub told_harts : AreHarts rows.harts.records.items then (length first) count (seen_harts seen.power b.machine) → AreHarts rows.harts.records.items row 1 (size_of rows.layout).harts (seen_harts (seen_rest rest).power b.machine)
  told_harts are h low =
      let below : h < count = omega (arith, many, low) in
      let from : length first ≡ 1 = ap (λ (l : List ℕ). length l) one in
      let at : slice_index then (length first + h) ≡ slice_index row (1 + h) = ap (λ (k : ℕ). slice_index then (k + h)) from ∙ sym (segments.same (1 + h) (omega (arith, two, low))) in
      subst (λ (k : ℕ). IsAt rows.harts.records.items k (get_or (seen_harts (seen_rest rest).power b.machine) h (never_started h))) at
      (subst (λ (r : Rest). IsAt rows.harts.records.items (slice_index then (length first + h)) (get_or (seen_harts r.power b.machine) h (never_started h))) is (are h below))

  pub told_segments : AreSegments rows.layout rows.words row (length then) (seen_memory (base_of rows.layout) seen.power b.machine) → AreSegments rows.layout rows.words row (1 + (size_of rows.layout).harts) (seen_memory (base_of rows.layout) (seen_rest rest).power b.machine)
  told_segments are =
      subst (λ (r : Rest). AreSegments rows.layout rows.words row (1 + (size_of rows.layout).harts) (seen_memory (base_of rows.layout) r.power b.machine)) is
      (subst (λ (k : ℕ). AreSegments rows.layout rows.words row k (seen_memory (base_of rows.layout) seen.power b.machine)) two are)

-- ---- tables that grow
-- in another store of the same layout that has all that the first one has
pub stands_stays : (old new : BoardRows) → new.layout ≡ old.layout → Stays old.rests.records.items new.rests.records.items → Stays old.harts.records.items new.harts.records.items → Grows old.words new.words → (row : List ℕ) (b : Board) → Stands old row b → Stands new row b
stands_stays old new same rests harts words row b x =
    let P : Layout → Type 0 = λ l. Stands (record new { layout = l }) row b in
    subst P (sym same) (record {
      rest = x.rest;
      machine = x.machine;
      long = x.long;
      rested = rests (slice_index row 0) x.rest x.rested;
      fits = x.fits;
      is = record {
        size = x.is.size;
        doze = x.is.doze;
        table = x.is.table;
        many = x.is.many;
        numbered = x.is.numbered;
        harts = λ h low. harts (slice_index row (1 + h)) (get_or x.machine.harts h (never_started h)) (x.is.harts h low);
        memory = record {
          based = x.is.memory.based;
          bytes = x.is.memory.bytes;
          segments = λ s low.
              let a = x.is.memory.segments s low in
              let g = words (slice_index row (1 + (size_of old.layout).harts + s)) a.0 in
              (g.0, subst (λ (v : List ℕ). Hold x.machine.memory (segment (tracked_of old.layout) s) v) (sym g.1) a.1);
        };
      };
      shown = x.shown;
    })
