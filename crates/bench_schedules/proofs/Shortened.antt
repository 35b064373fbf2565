-- Schedules that were found, and what is written of the last.
use Rattle.std.proofs.Common.{◌≡◌, ℕ, List, [], ◌∷◌, ◌++◌, ◌≤◌, length, All, Option, Some, None, Ok, refl, ap, subst}
use Rattle.std.specs.Io.KnownBytes.{Appends}
use Rattle.board_model.specs.Shapes.{Size, IsSize}
use Rattle.script_lang.specs.{Lines.{FitsLine, IsLineInRange}, Scripts.{Script, script_of}, Spellings.{script_text, IsWritable}}
use Rattle.script_lang.specs.declared.line.Line.{Line}
use Rattle.report_lines.specs.declared.printed.Answer.{Answer}
use Rattle.bench_schedules.specs.{Orders.IsOrderFor, Schedules.{RanLike, RanOwn}, declared.runs.Difference.Difference}
use Rattle.bench_schedules.specs.Shrunk.{IsFound, IsShortened, Shrunk}

module _ (size : Size) (start : List (List ℕ)) (those : List Line) (own : List Answer) where
  -- the run of these lines differs
  pub found_by : (new : List Line) (d : Difference) → IsOrderFor those new → length new ≤ 65535 → RanLike size start new own (Some d) → IsFound size start those own d.place new
  found_by new d order few ran = record { order = order; few = few; differs = d; ran = ran; there = refl }

  -- and differs at that place
  pub found_at : (place : ℕ) (new : List Line) (d : Difference) → IsOrderFor those new → length new ≤ 65535 → RanLike size start new own (Some d) → d.place ≡ place → IsFound size start those own place new
  found_at place new d order few ran there = record { order = order; few = few; differs = d; ran = ran; there = there }

  -- what was drawn differs nowhere
  pub stays : (drawn : List Line) → IsOrderFor those drawn → length drawn ≤ 65535 → RanLike size start drawn own None → IsShortened size start those own drawn drawn
  stays drawn order few ran = record {
    order = order;
    few = few;
    differs = None;
    ran_drawn = ran;
    found = None;
    ran = ran;
    same = refl;
    unchanged = λ none. refl;
  }

  -- it differs, and these lines do at the same place
  pub shortened_to : (drawn new : List Line) (d : Difference) → RanLike size start drawn own (Some d) → IsFound size start those own d.place new → IsShortened size start those own drawn new
  shortened_to drawn new d ran found = record {
    order = found.order;
    few = found.few;
    differs = Some d;
    ran_drawn = ran;
    found = Some found.differs;
    ran = found.ran;
    same = ap (λ (k : ℕ). Some k) found.there;
    unchanged = λ none. absurd (let never : ⊥ = cc in never);
  }

  -- the lines that were found, as they were written
  pub shrunk_of : (drawn new xs : List Line) (old now : Option (List ℕ)) → IsSize size → RanOwn size start those own → IsOrderFor those drawn → IsShortened size start those own drawn new
      → All (IsLineInRange size) those → All FitsLine those → xs ≡ new → ((s : Script) → IsWritable s → script_of (script_text s) ≡ Ok s)
      → Appends old now (script_text (record { size = size; lines = xs }) ++ 10 ∷ []) → Shrunk (record { size = size; lines = those }) start old now
  shrunk_of drawn new xs old now sized ran_own order short ranges fits is reads text =
      let s : Script = record { size = size; lines = new } in
      let w : IsWritable s = record { size = sized; few = short.few; ranges = short.order.ranges size ranges; fits = short.order.fits fits } in
      let P : List Line → Type 0 = λ z. Appends old now (script_text (record { size = size; lines = z }) ++ 10 ∷ []) in
      record {
        own = own;
        ran_own = ran_own;
        drawn = record { size = size; lines = drawn };
        drawn_order = record { board = refl; lines = order.order };
        schedule = s;
        order = record { board = refl; lines = short.order.order };
        writable = w;
        reads = reads s w;
        text = subst P is text;
        shortened = short;
      }
