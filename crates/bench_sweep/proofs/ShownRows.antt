-- Rows that are written as scripts.
use Rattle.std.proofs.Common.{◌≡◌, ◌≤◌, ◌<◌, ◌⊎◌, ◌++◌, ◌∷◌, [], ℕ, List, Option, None, Result, Ok, Err, IfErr, All, inl, inr, length, take, subst}
use Rattle.std.{proofs.lemmas.List.Elements.{All-append, All-cons, All-nil}, specs.Io.KnownBytes.Appends}
use Rattle.board_model.specs.{Shapes.{Size, IsSize}, declared.{boot_mode.BootMode.TheVariants.Keep, refusal.Refusal.Refusal}}
use Rattle.board_model.specs.declared.refusal.Refusal.TheVariants.{BadShape, Memory, Output}
use Rattle.simdisk.specs.declared.SimDisk.{SimDisk}
use Rattle.script_lang.specs.{Armings.IsArmingInRange, Lines.{FitsLine, IsLineInRange}, Scripts.{Script, script_of}}
use Rattle.script_lang.specs.{Spellings.{script_text, IsWritable}, declared.{armings.Arming.Arming, line.Line.Line}}
use Rattle.script_lang.specs.declared.line.Line.TheVariants as lines
use Rattle.bench_report.specs.Bench.{Bench}
use Rattle.bench_sweep.specs.{declared.points.BenchKind.{BenchKind, TheVariants.{Cuts, Fails}}, Made.RunsArmed, Points.cut_fill, Swept.Cell}
use Rattle.bench_sweep.specs.Shown.{arming, cut_part, row_lines, HasRun, ShowsFrom, ShowsNone, WroteScript}

-- ---- the lines of a row
cut_in_range : (size : Size) (kind : BenchKind) → All (IsLineInRange size) (cut_part kind)
cut_in_range size Cuts = All-nil (IsLineInRange size)
cut_in_range size Fails = All-cons (IsLineInRange size) (lines.Cut (cut_fill None)) [] tt (All-nil (IsLineInRange size))

pub row_in_range : (size : Size) (kind : BenchKind) (front back : List Line) (armed : Arming) → All (IsLineInRange size) front → IsArmingInRange size armed → All (IsLineInRange size) back → All (IsLineInRange size) (row_lines kind front armed back)
row_in_range size kind front back armed in_front arms in_back =
    let In : Line → Type 0 = IsLineInRange size in
    let run : List Line = front ++ (lines.Arm armed ∷ back) in
    All-append In (run ++ cut_part kind) (lines.On Keep ∷ [])
    (All-append In run (cut_part kind) (All-append In front (lines.Arm armed ∷ back) in_front (All-cons In (lines.Arm armed) back arms in_back)) (cut_in_range size kind))
    (All-cons In (lines.On Keep) [] tt (All-nil In))

-- they were written
pub wrote_script : (size : Size) (xs those : List Line) (old now : Option (List ℕ)) → IsSize size → xs ≡ those → length xs ≤ 65535 → All (IsLineInRange size) those → All FitsLine xs → ((s : Script) → IsWritable s → script_of (script_text s) ≡ Ok s)
    → Appends old now (script_text (record { size = size; lines = xs }) ++ 10 ∷ []) → WroteScript (record { size = size; lines = those }) old now
wrote_script size xs those old now sized is few ranges fits reads text =
    let s : Script = record { size = size; lines = those } in
    let L : List Line → Type 0 = λ ls. length ls ≤ 65535 in
    let F : List Line → Type 0 = λ ls. All FitsLine ls in
    let T : List Line → Type 0 = λ ls. Appends old now (script_text (record { size = size; lines = ls }) ++ 10 ∷ []) in
    let w : IsWritable s = record { size = sized; few = subst L is few; ranges = ranges; fits = subst F is fits } in
    record { writable = w; reads = reads s w; text = subst T is text }

-- ---- what is refused
pub refused_so : {P Q : Type 0} (result : Result (Unit {0}) Refusal) → (P → Q) → IfErr result (λ e. (e ≡ Memory) ⊎ (e ≡ Output) ⊎ ((e ≡ BadShape) × P)) → IfErr result (λ e. (e ≡ Memory) ⊎ (e ≡ Output) ⊎ ((e ≡ BadShape) × Q))
refused_so (Ok u) then refused = tt
refused_so (Err e) then (inl memory) = inl memory
refused_so (Err e) then (inr (inl output)) = inr (inl output)
refused_so (Err e) then (inr (inr none)) = inr (inr (none.0, then none.1))

-- of a script with no fault
pub refused_row : {P Q : Type 0} (F G : Refusal → Type 0) (result : Result (Unit {0}) Refusal) → (P → Q) → IfErr result (λ e. (e ≡ Memory) ⊎ (e ≡ Output) ⊎ ((e ≡ BadShape) × P))
    → IfErr result (λ e. (e ≡ Memory) ⊎ (e ≡ Output) ⊎ F e ⊎ G e ⊎ ((e ≡ BadShape) × Q))
refused_row F G (Ok u) then refused = tt
refused_row F G (Err e) then (inl memory) = inl memory
refused_row F G (Err e) then (inr (inl output)) = inr (inl output)
refused_row F G (Err e) then (inr (inr none)) = inr (inr (inr (inr (none.0, then none.1))))

-- the row of a run that is found and written
pub shows_from : {K : BenchKind} (size : Size) (origin : SimDisk) (b : Bench) (front those : List Line) (number count : ℕ) (run : Cell) (arms : Arming) (old now : Option (List ℕ)) → HasRun K size origin b those number run → RunsArmed size K run.caller run.number b those count → arms ≡ arming K run
    → WroteScript (record { size = size; lines = row_lines K front arms (take count those) }) old now → ShowsFrom K size origin b front those number old now
shows_from {K = K} size origin b front those number count run arms old now has armed is wrote =
    let W : Arming → Type 0 = λ a. WroteScript (record { size = size; lines = row_lines K front a (take count those) }) old now in
    record { run = run; has = has; count = count; armed = armed; written = subst W is wrote }

-- or it is not
pub shows_none : {K : BenchKind} (size : Size) (origin : SimDisk) (b : Bench) (front those : List Line) (number count : ℕ) (run : Cell) (arms : Arming) → HasRun K size origin b those number run → RunsArmed size K run.caller run.number b those count → arms ≡ arming K run
    → 65535 < length (row_lines K front arms (take count those)) → ShowsNone K size origin b front those number
shows_none {K = K} size origin b front those number count run arms has armed is long =
    let L : Arming → Type 0 = λ a. 65535 < length (row_lines K front a (take count those)) in
    inr (record { run = run; has = has; why = inr (record { count = count; armed = armed; long = subst L is long }) })
