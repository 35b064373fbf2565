-- A schedule as it is written.
use Rattle.std.{proofs.Common.{◌≡◌, ℕ, List, [], ◌∷◌, ◌++◌, ◌≤◌, length, All, Option, Ok, refl, subst}, specs.Io.KnownBytes.Appends}
use Rattle.board_model.specs.Shapes.{Size, IsSize}
use Rattle.script_lang.specs.{Lines.{FitsLine, IsLineInRange}, Scripts.{Script, script_of}, Spellings.{script_text, IsWritable}}
use Rattle.script_lang.specs.declared.line.Line.{Line}
use Rattle.bench_schedules.specs.{Orders.IsOrderFor, Schedules.Shown}

-- what was drawn, as it was written
pub shown_of : (size : Size) (those new xs : List Line) (old now : Option (List ℕ)) → IsSize size → IsOrderFor those new → length new ≤ 65535 → All (IsLineInRange size) those → All FitsLine those → xs ≡ new
    → ((s : Script) → IsWritable s → script_of (script_text s) ≡ Ok s) → Appends old now (script_text (record { size = size; lines = xs }) ++ 10 ∷ []) → Shown (record { size = size; lines = those }) old now
shown_of size those new xs old now sized order few ranges fits is reads text =
    let s : Script = record { size = size; lines = new } in
    let w : IsWritable s = record { size = sized; few = few; ranges = order.ranges size ranges; fits = order.fits fits } in
    let P : List Line → Type 0 = λ z. Appends old now (script_text (record { size = size; lines = z }) ++ 10 ∷ []) in
    record {
      schedule = s;
      order = record { board = refl; lines = order.order };
      writable = w;
      reads = reads s w;
      text = subst P is text;
    }
