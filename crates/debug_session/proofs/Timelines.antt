-- A bench with its history, one line or row further.
use Rattle.std.proofs.Common.{◌≡◌, ◌<◌, ◌+◌, ℕ, Bool, true, false, List, [], ◌∷◌, ◌++◌, Result, Ok, Err, take, get_or, length, refl, sym, ap, ◌∙◌, subst}
use Rattle.std.{specs.{Prelude.{IfOk, OnOk}, declared.alloc.AllocError.AllocError}, proofs.lemmas.List.take_more}
use Rattle.board_model.specs.Shapes.{Size}
use Rattle.sbi.specs.Words.{ends}
use Rattle.script_lang.specs.{declared.line.Line.Line, Lines.IsLineInRange}
use Rattle.script_lang.specs.declared.line.Line.TheVariants as lines
use Rattle.report_lines.specs.declared.printed.Answer.{Answer}
use Rattle.bench_report.specs.{Bench.{Bench, bench_with}, Steps.Moves, declared.rows.TurnRow.TurnRow, Rows.{RowMoves, goes_on, made_in}}
use Rattle.bench_report.{specs.{Agree.{fill_after, fills_after}, declared.live.LiveBench.LiveBench}, proofs.RunLines.fills_snoc}
use Rattle.bench_report.specs.Lives.{IsSound, Shows}
use Rattle.bench_report.specs.declared.rows.TurnRow.TheVariants as rows
use Rattle.debug_session.{specs.Notes.{AreInRange, Joins, Leaves, NotesRow}, proofs.{Noted.{leaves_more, ranges_more}, Rests.not_true}}
use Rattle.debug_session.specs.{declared.timeline.Timeline.Timeline, Ats.{GoesOnBy, IsAt, IsLeft, IsNoted, Ran}}
use Rattle.simdisk.specs.declared.fill.Fill.TheVariants as fills

-- what holds whatever is answered
pub always_ok : {A E : Type 0} (r : Result A E) (P : Type 0) → P → OnOk r P
always_ok (Ok x) P h = h
always_ok (Err e) P h = tt

-- what a history and a bench together are
abbrev pub Left : Size → List (List ℕ) → List Line → Bool → LiveBench → Bench → Type 0
Left size begins past joins live b = Leaves size (bench_with begins) past b × Joins size (bench_with begins) joins past b × Shows size b live

-- a row of turns was made and noted
pub row_left : (size : Size) (h : ℕ) (row : TurnRow) (begins : List (List ℕ)) (was now : List Line) (joined joins : Bool) (before after : LiveBench) (Also : Bench → Bench → Type 0)
    → NotesRow size h row joined joins was now
    → ((b : Bench) → Shows size b before → (x : Bench) × RowMoves size h row b x × Also b x × Shows size x after)
    → (b : Bench) → Left size begins was joined before b → (x : Bench) × RowMoves size h row b x × Also b x × Left size begins now joins after x
row_left size h row begins was now joined joins before after Also notes moves b left =
    let did = moves b left.2 in
    let noted = notes (bench_with begins) b did.0 left.0 left.1 did.1 in
    (did.0, did.1, did.2, (noted.0, noted.1, did.3))

-- a line was run and noted
pub line_left : (size : Size) (line : Line) (answer : Answer) (begins : List (List ℕ)) (was : List Line) (joined : Bool) (before after : LiveBench)
    → ((b : Bench) → Shows size b before → (x : Bench) × Moves size line b answer x × Shows size x after)
    → (b : Bench) → Left size begins was joined before b → (x : Bench) × Moves size line b answer x × Left size begins (was ++ line ∷ []) false after x
line_left size line answer begins was joined before after moves b left =
    let did = moves b left.2 in
    (did.0, did.1, (leaves_more size (bench_with begins) was b line answer did.0 left.0 did.1, tt, did.2))

-- that of a timeline whose parts are these
left_as : (size : Size) (t : Timeline) (begins : List (List ℕ)) (past : List Line) (joins : Bool) (live : LiveBench) (b : Bench) → t.begins ≡ begins → t.history ≡ past → t.joins ≡ joins → t.bench ≡ live
    → Left size begins past joins live b → Left size t.begins t.history t.joins t.bench b
left_as size t begins past joins live b e f g h left =
    let P : List (List ℕ) → Type 0 = λ x. Left size x past joins live b in
    let Q : List Line → Type 0 = λ x. Left size t.begins x joins live b in
    let R : Bool → Type 0 = λ x. Left size t.begins t.history x live b in
    let S : LiveBench → Type 0 = λ x. Left size t.begins t.history t.joins x b in
    subst S (sym h) (subst R (sym g) (subst Q (sym f) (subst P (sym e) left)))

pub line_moves : (size : Size) (line : Line) (answer : Answer) (r : Result Answer AllocError) (old new : Timeline) (after : LiveBench)
    → ((b : Bench) → Shows size b old.bench → (x : Bench) × Moves size line b answer x × Shows size x after) → new.bench ≡ after → new.begins ≡ old.begins
    → IfOk r (λ said. said ≡ answer) → OnOk r (new.history ≡ old.history ++ line ∷ []) → OnOk r (new.joins ≡ false)
    → IfOk r (λ said. (b : Bench) → IsLeft size old b → (x : Bench) × Moves size line b said x × IsLeft size new x)
line_moves size line answer (Err e) old new after moves same begins is grew apart = tt
line_moves size line answer (Ok said) old new after moves same begins is grew apart = λ b left.
    let did = line_left size line answer old.begins old.history old.joins old.bench after moves b left in
    let P : Answer → Type 0 = λ a. Moves size line b a did.0 in
    (did.0, subst P (sym is) did.1, left_as size new old.begins (old.history ++ line ∷ []) false after did.0 begins grew apart same did.2)

pub line_at : (size : Size) (line : Line) (answer : Answer) (r : Result Answer AllocError) (old new : Timeline) (after : LiveBench) → IsAt size old → IsLineInRange size line
    → ((b : Bench) → Shows size b old.bench → (x : Bench) × Moves size line b answer x × Shows size x after) → IsSound after → after.fill ≡ fill_after line old.bench.fill
    → new.bench ≡ after → new.begins ≡ old.begins → OnOk r (new.history ≡ old.history ++ line ∷ []) → OnOk r (new.joins ≡ false) → OnOk r (IsAt size new)
line_at size line answer (Err e) old new after at range moves sound fill same begins grew apart = tt
line_at size line answer (Ok said) old new after at range moves sound fill same begins grew apart =
    let did = line_left size line answer old.begins old.history old.joins old.bench after moves at.left.0 at.left.1 in
    record {
      left = (did.0, left_as size new old.begins (old.history ++ line ∷ []) false after did.0 begins grew apart same did.2);
      sound = (let P : LiveBench → Type 0 = λ x. IsSound x in subst P (sym same) sound);
      fill = ap (λ (x : LiveBench). x.fill) same ∙ fill ∙ ap (fill_after line) at.fill ∙ sym (ap (λ (xs : List Line). fills_after xs fills.Old) grew ∙ fills_snoc old.history line fills.Old);
      ranges = subst (AreInRange size) (sym grew) (ranges_more size old.history line at.ranges range);
    }

-- of a line that makes no turns
noted_other : (line : Line) (answer : Answer) (was now : List Line) → ((h n : ℕ) → line ≡ lines.Turn h n → ⊥) → now ≡ was ++ line ∷ [] → IsNoted line answer was now
noted_other (lines.Turn h n) answer was now not is = absurd (not h n refl)
noted_other line answer was now not is = is

pub ran_other : (size : Size) (line : Line) (r : Result Answer AllocError) (old new : Timeline) → ((h n : ℕ) → line ≡ lines.Turn h n → ⊥)
    → IfOk r (λ answer. (b : Bench) → IsLeft size old b → (after : Bench) × Moves size line b answer after × IsLeft size new after) → OnOk r (new.history ≡ old.history ++ line ∷ []) → IfOk r (λ answer. Ran size line answer old new)
ran_other size line (Ok answer) old new not moves grew = record { moves = moves; noted = noted_other line answer old.history new.history not grew }
ran_other size line (Err e) old new not moves grew = tt

-- ---- a history that is run again
no_true : false ≡ true → ⊥
no_true e = let never : ⊥ = cc in never

-- a row of which all turns were made, and that goes on
pub goes_by : (size : Size) (h n : ℕ) (row : TurnRow) (b new : Bench) (joins : Bool) → (joins ≡ true → goes_on row ≡ true) → (joins ≡ true → made_in row ≡ n) → RowMoves size h row b new → GoesOnBy size joins (lines.Turn h n) b new
goes_by size h n row b new false goes all moves = tt
goes_by size h n rows.Off b new true goes all moves = absurd (no_true (goes refl))
goes_by size h n (rows.Lost k) b new true goes all moves = absurd (no_true (goes refl))
goes_by size h n (rows.Made k word) b new true goes all moves =
    let P : ℕ → Type 0 = λ x. RowMoves size h (rows.Made x word) b new in
    (h, n, word, refl, subst P (all refl) moves, not_true (ends word) (goes refl))

joins_more : (size : Size) (start mid new : Bench) (joins : Bool) (past : List Line) (line : Line) → Leaves size start past mid → GoesOnBy size joins line mid new → Joins size start joins (past ++ line ∷ []) new
joins_more size start mid new false past line leaves goes = tt
joins_more size start mid new true past line leaves (h, n, word, is, moves, runs) =
    (past, h, n, mid, word, ap (λ (l : Line). past ++ l ∷ []) is, leaves, moves, runs)

pub again_more : (size : Size) (begins : List (List ℕ)) (lines : List Line) (i : ℕ) (d : Line) (joined joins : Bool) (before after : LiveBench) → i < length lines
    → ((b : Bench) → Shows size b before → (answer : Answer) × (new : Bench) × Moves size (get_or lines i d) b answer new × Shows size new after × GoesOnBy size joins (get_or lines i d) b new)
    → (b : Bench) × Left size begins (take i lines) joined before b → (b : Bench) × Left size begins (take (i + 1) lines) joins after b
again_more size begins lines i d joined joins before after less moves (b, left) =
    let did = moves b left.2 in
    let here : Leaves size (bench_with begins) (take i lines ++ get_or lines i d ∷ []) did.1 = leaves_more size (bench_with begins) (take i lines) b (get_or lines i d) did.0 did.1 left.0 did.2 in
    let joined = joins_more size (bench_with begins) b did.1 joins (take i lines) (get_or lines i d) left.0 did.4 in
    let P : List Line → Type 0 = λ xs. Leaves size (bench_with begins) xs did.1 × Joins size (bench_with begins) joins xs did.1 in
    let there = subst P (sym (take_more lines i d less)) (here, joined) in
    (did.1, (there.0, there.1, did.3))
