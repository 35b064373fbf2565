-- The lines of a run, one after another.
use Rattle.std.proofs.Common.{◌≡◌, ◌∙◌, ℕ, zero, suc, ◌+◌, ◌<◌, ◌≤◌, List, [], ◌∷◌, ◌++◌, length, take, drop, get_or, Option, None, Some, refl, sym, ap, subst, arith, Result, Ok, Err, OnOk, OnErr}
use Rattle.std.proofs.lemmas.List.{take_more}
use Rattle.board_model.specs.{Shapes.Size, declared.durable.Durable.Durable}
use Rattle.report_lines.specs.{Texts.found_count, declared.printed.Answer.Answer}
use Rattle.script_lang.specs.{declared.line.Line.Line, Scripts.Script}
use Rattle.bench_report.specs.{Bench.{Bench, bench_with}, Steps.{Moves, Run}, Reports.IsReportWith, Agree.{fill_after, fills_after}}
use Rattle.simdisk.specs.declared.fill.Fill.{Fill}

-- one line more at the end
pub run_snoc : (size : Size) (ls : List Line) (b : Bench) (answers : List Answer) (mid : Bench) (line : Line) (a : Answer) (new : Bench) → Run size b ls answers mid → Moves size line mid a new → Run size b (ls ++ line ∷ []) (answers ++ a ∷ []) new
run_snoc size [] b [] mid line a new run moves = let P : Bench → Type 0 = λ x. Moves size line x a new in (new, subst P run moves, refl)
run_snoc size [] b (c ∷ answers) mid line a new run moves = absurd run
run_snoc size (l ∷ ls) b [] mid line a new run moves = absurd run
run_snoc size (l ∷ ls) b (c ∷ answers) mid line a new run moves = (run.0, run.1, run_snoc size ls run.0 answers mid line a new run.2 moves)

pub run_more : (size : Size) (ls : List Line) (i : ℕ) (d : Line) (b : Bench) (answers : List Answer) (mid : Bench) (a : Answer) (new : Bench) → i < length ls → Run size b (take i ls) answers mid → Moves size (get_or ls i d) mid a new
    → Run size b (take (i + 1) ls) (answers ++ a ∷ []) new
run_more size ls i d b answers mid a new less run moves =
    let P : List Line → Type 0 = λ xs. Run size b xs (answers ++ a ∷ []) new in
    subst P (sym (take_more ls i d less)) (run_snoc size (take i ls) b answers mid (get_or ls i d) a new run moves)

-- an answer counts a found line at most beside its own
pub few_found : (found : Option Durable) → found_count found ≤ 1
few_found None = omega arith
few_found (Some d) = omega arith

-- what holds where a call is answered
pub on_ok : {A E : Type 0} (r : Result A E) (P Q : Type 0) → (P → Q) → OnOk r P → OnOk r Q
on_ok (Ok x) P Q more h = more h
on_ok (Err e) P Q more h = tt

pub on_err : {A E : Type 0} (r : Result A E) (Q : Type 0) → Q → OnErr r Q
on_err (Ok x) Q h = tt
on_err (Err e) Q h = h

-- what the newest armed cut of some lines is to leave
pub fills_snoc : (ls : List Line) (line : Line) (fill : Fill) → fills_after (ls ++ line ∷ []) fill ≡ fill_after line (fills_after ls fill)
fills_snoc [] line fill = refl
fills_snoc (l ∷ ls) line fill = fills_snoc ls line (fill_after l fill)

pub fills_more : (ls : List Line) (i : ℕ) (d : Line) (fill : Fill) → i < length ls → fills_after (take (i + 1) ls) fill ≡ fill_after (get_or ls i d) (fills_after (take i ls) fill)
fills_more ls i d fill less = ap (λ (xs : List Line). fills_after xs fill) (take_more ls i d less) ∙ fills_snoc (take i ls) (get_or ls i d) fill

-- a run is its first lines and those that are left
split_run : (size : Size) (k : ℕ) (ls : List Line) (b : Bench) (answers : List Answer) (end : Bench) → k ≤ length ls → Run size b ls answers end → (mid : Bench) × Run size b (take k ls) (take k answers) mid × Run size mid (drop k ls) (drop k answers) end
split_run size zero ls b answers end few run = (b, refl, run)
split_run size (suc k) [] b answers end few run = absurd (omega (arith, few))
split_run size (suc k) (l ∷ ls) b [] end few run = absurd run
split_run size (suc k) (l ∷ ls) b (a ∷ answers) end few run =
    let rest = split_run size k ls run.0 answers end (omega (arith, few)) run.2 in
    (rest.0, (run.0, run.1, rest.1), rest.2)

pub split_report : (payloads : List (List ℕ)) (script : Script) (answers : List Answer) (end : Bench) (k : ℕ) → k ≤ length script.lines → IsReportWith payloads script answers end
    → (b : Bench) × IsReportWith payloads (record script { lines = take k script.lines }) (take (suc k) answers) b × Run script.size b (drop k script.lines) (drop (suc k) answers) end
split_report payloads script [] end k few is = absurd is
split_report payloads script (board ∷ answers) end k few is =
    let rest = split_run script.size k script.lines (bench_with payloads) answers end few is.1 in
    (rest.0, (is.0, rest.1), rest.2)
