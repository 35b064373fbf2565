-- Where what a row arms strikes: runs of first lines.
use Rattle.std.proofs.Common.{◌≡◌, ◌∙◌, ◌<◌, ◌+◌, ℕ, zero, suc, Bool, true, false, List, [], ◌∷◌, ◌++◌, Option, None, Some, length, take, drop, get_or, refl, ap, ap₂, sym, subst, arith, add-one}
use Rattle.std.{specs.Prelude.{◌↔◌, All}, proofs.lemmas.List.Elements.{All-append, All-get_or, All-nil, All-push, All-take}}
use Rattle.board_model.specs.Shapes.{Size}
use Rattle.disk.specs.FaultState.{Armed, CutArmed, FaultArmed, FaultState, Unarmed}
use Rattle.simdisk.specs.declared.SimDisk.{SimDisk}
use Rattle.script_lang.specs.{Lines.IsLineInRange, declared.line.Line.Line}
use Rattle.script_lang.specs.declared.line.Line.TheVariants as lines
use Rattle.report_lines.specs.declared.printed.Answer.{Answer}
use Rattle.bench_report.specs.{Agree.OffIs, Bench.{Bench, bench_with}, Happens.off, Steps.Moves, Views.fault_state, Lives.Shows}
use Rattle.bench_report.{proofs.RunLines.run_more, specs.declared.live.LiveBench.LiveBench}
use Rattle.debug_session.specs.Pasts.{some_turns}
use Rattle.sbigdb.specs.Strikes.{ArmedAfter, RanTo, StopsBefore, StopsIn, count_in, hart_in, is_armed}
use Rattle.sbigdb.proofs.Partings.{split_here, take_here}

-- ---- a run of lines
pub ran_none : (size : Size) (live : LiveBench) → RanTo size [] live live
ran_none size live = λ b shows. ([], b, refl, shows)

pub ran_next : (size : Size) (all : List Line) (i : ℕ) (line : Line) (answer : Answer) (first old new : LiveBench) → i < length all → line ≡ get_or all i line → RanTo size (take i all) first old
    → ((b : Bench) → Shows size b old → (after : Bench) × Moves size line b answer after × Shows size after new)
    → RanTo size (take (i + 1) all) first new
ran_next size all i line answer first old new within is ran moves = λ b shows.
    let did = ran b shows in
    let more = moves did.1 did.3 in
    let P : Line → Type 0 = λ l. Moves size l did.1 answer more.0 in
    (did.0 ++ answer ∷ [], more.0, run_more size all i line b did.0 did.1 answer more.0 within did.2 (subst P is more.1), more.2)

-- ---- what is armed after it
told_armed : (armed : Bool) (a : Armed) → ((armed ≡ false) ↔ (a ≡ Unarmed)) → is_armed a ≡ armed
told_armed false a is = ap is_armed (is.0 refl)
told_armed true Unarmed is = absurd (let e : true ≡ false = is.1 refl in let no : ⊥ = cc in no)
told_armed true FaultArmed is = refl
told_armed true CutArmed is = refl

pub armed_of : (size : Size) (start : List (List ℕ)) (those : List Line) (first last : LiveBench) (disk : SimDisk) (armed : Bool) → Shows size (bench_with start) first → RanTo size those first last
    → ((z : Size) (b : Bench) → Shows z b last → OffIs z (off b) disk) → ((armed ≡ false) ↔ ((fault_state disk).armed ≡ Unarmed)) → ArmedAfter armed size start those
armed_of size start those first last disk armed shows ran left is =
    let did = ran (bench_with start) shows in
    let at = left size did.1 did.3 in
    let state : did.1.fault_state ≡ fault_state disk = at.2.0 in
    let P : FaultState → Type 0 = λ s. (armed ≡ false) ↔ (s.armed ≡ Unarmed) in
    (did.0, did.1, did.2, told_armed armed did.1.fault_state.armed (subst P (sym state) is))

none_is : (h : ℕ) → ◌≡◌ {A = Option ℕ} None (Some h) → ⊥
none_is h e = let no : ⊥ = cc in no

pub row_is : (line : Line) (h n : ℕ) → hart_in line ≡ Some h → n ≡ count_in line → line ≡ lines.Turn h n
row_is (lines.Turn g m) h n e many = let same : g ≡ h = cc in ap₂ (λ (x y : ℕ). lines.Turn x y) same (sym many)
row_is line h n e many = absurd (none_is h e)

pub row_ranged : (size : Size) (all : List Line) (p : ℕ) (next : Line) (h n : ℕ) → p < length all → next ≡ get_or all p next → hart_in next ≡ Some h → n ≡ count_in next → All (IsLineInRange size) all → IsLineInRange size (lines.Turn h n)
row_ranged size all p next h n within is row many ranges =
    subst (IsLineInRange size) (sym is ∙ row_is next h n row many) (All-get_or (IsLineInRange size) all p next within ranges)

-- after the line too
pub struck_next : (size : Size) (start : List (List ℕ)) (all : List Line) (p : ℕ) (next : Line) → p < length all → next ≡ get_or all p next → ArmedAfter false size start (take (p + 1) all)
    → ArmedAfter false size start (take p all ++ next ∷ [])
struck_next size start all p next within is struck =
    let P : List Line → Type 0 = λ xs. ArmedAfter false size start xs in subst P (rw add-one (take_here all p next within is)) struck

stops_there : (size : Size) (start : List (List ℕ)) (all stop : List Line) (p : ℕ) (next : Line) → p < length all → next ≡ get_or all p next → StopsIn size start (take p all) next (hart_in next) stop
    → StopsBefore size start all stop
stops_there size start all stop p next within is stops = record {
  front = take p all;
  next = next;
  later = drop (suc p) all;
  of_all = split_here all p next within is;
  stops = stops;
}

-- it strikes within a line that is no row of turns
pub stops_line : (size : Size) (start : List (List ℕ)) (all stop : List Line) (p : ℕ) (next : Line) → p < length all → next ≡ get_or all p next → hart_in next ≡ None → stop ≡ take p all
    → ArmedAfter true size start (take p all) → ArmedAfter false size start (take (p + 1) all) → StopsBefore size start all stop
stops_line size start all stop p next within is none stands armed struck =
    let P : Option ℕ → Type 0 = λ hart. StopsIn size start (take p all) next hart stop in
    stops_there size start all stop p next within is (subst P (sym none) (stands, armed, struck_next size start all p next within is struck))

-- it strikes within a turn of a row
pub stops_turn : (size : Size) (start : List (List ℕ)) (all stop : List Line) (p : ℕ) (next : Line) (h n k : ℕ) → p < length all → next ≡ get_or all p next → hart_in next ≡ Some h → n ≡ count_in next → k < n
    → stop ≡ take p all ++ some_turns h k → ArmedAfter true size start (take p all ++ some_turns h k) → ArmedAfter false size start (take p all ++ lines.Turn h (k + 1) ∷ []) → StopsBefore size start all stop
stops_turn size start all stop p next h n k within is row many less stands armed struck =
    let P : Option ℕ → Type 0 = λ x. StopsIn size start (take p all) next x stop in
    stops_there size start all stop p next within is (subst P (sym row) (k, subst (λ (x : ℕ). k < x) many less, stands, armed, struck))

turns_ranged : (size : Size) (h n k : ℕ) → IsLineInRange size (lines.Turn h n) → k < n → All (IsLineInRange size) (some_turns h k)
turns_ranged size h n zero range less = All-nil (IsLineInRange size)
turns_ranged size h n (suc k) range less = All-push (IsLineInRange size) [] (lines.Turn h (suc k)) (All-nil (IsLineInRange size)) (range.0, (omega arith, omega (arith, less, range.1)))

pub stop_ranged : (size : Size) (all stop : List Line) (p : ℕ) (next : Line) (h n k : ℕ) → p < length all → next ≡ get_or all p next → hart_in next ≡ Some h → n ≡ count_in next → k < n → stop ≡ take p all ++ some_turns h k
    → All (IsLineInRange size) all → All (IsLineInRange size) stop
stop_ranged size all stop p next h n k within is row many less stands ranges =
    subst (All (IsLineInRange size)) (sym stands)
    (All-append (IsLineInRange size) (take p all) (some_turns h k) (All-take (IsLineInRange size) p all ranges) (turns_ranged size h n k (row_ranged size all p next h n within is row many ranges) less))
