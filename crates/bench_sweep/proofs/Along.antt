-- A run that goes on after some lines, and moments of it.
use Rattle.std.proofs.Common.{◌≡◌, ◌≤◌, ◌<◌, ◌+◌, ◌-◌, ◌++◌, ◌∷◌, [], ℕ, List, false, length, take, drop, get_or, refl, sym, ◌∙◌, ap, subst, append_assoc, arith}
use Rattle.std.proofs.lemmas.List.{length-take, length-drop, take-take, take_more}
use Rattle.board_model.specs.Shapes.{Size}
use Rattle.crew.{specs.Handed.{AreRows, TakesAll}, proofs.HandedOn.{rows_both, taken_both}}
use Rattle.simdisk.specs.declared.SimDisk.{SimDisk}
use Rattle.script_lang.specs.declared.line.Line.{Line}
use Rattle.report_lines.specs.declared.printed.Answer.{Answer}
use Rattle.bench_report.specs.{Agree.HasDisk, Bench.Bench, Steps.Run}
use Rattle.bench_sweep.specs.declared.{ledgers.RunLedger.RunLedger, moments.Moment.Moment, points.{BenchKind.BenchKind, Caller.Caller}}
use Rattle.bench_sweep.specs.{declared.{rows.Row.Row, site.Site.Site}, Along.CameTold, Points.MadeCalls, Made.RunsWith, Reports.RunsAlong}
use Rattle.bench_sweep.specs.{Resumes.{line_resumes, lines_resume, Resumes}, Runs.{RanTo, RunsCalm}, Took.{RunTook, own_disk}}
use Rattle.bench_sweep.proofs.{Made.take_plus, Took.{disk_is, has_disk, took_both}}

-- ---- moments
run_both : (size : Size) (xs ys : List Line) (b : Bench) (said also : List Answer) (mid new : Bench) → Run size b xs said mid → Run size mid ys also new → Run size b (xs ++ ys) (said ++ also) new
run_both size [] ys b [] also mid new first second = let P : Bench → Type 0 = λ x. Run size x ys also new in subst P first second
run_both size [] ys b (a ∷ said) also mid new first second = absurd first
run_both size (x ∷ xs) ys b [] also mid new first second = absurd first
run_both size (x ∷ xs) ys b (a ∷ said) also mid new first second = (first.0, first.1, run_both size xs ys first.0 said also mid new first.2 second)

-- the images that they resumed
resumed_both : (size : Size) (xs ys : List Line) (b : Bench) (said also : List Answer) (mid : Bench) → Run size b xs said mid → lines_resume (xs ++ ys) (said ++ also) ≡ lines_resume xs said ++ lines_resume ys also
resumed_both size [] ys b [] also mid run = refl
resumed_both size [] ys b (a ∷ said) also mid run = absurd run
resumed_both size (x ∷ xs) ys b [] also mid run = absurd run
resumed_both size (x ∷ xs) ys b (a ∷ said) also mid run = ap (λ zs. line_resumes x a ++ zs) (resumed_both size xs ys run.0 said also mid run.2) ∙ sym (append_assoc (line_resumes x a) (lines_resume xs said) (lines_resume ys also))

-- the first k lines, and then n of those up to a place
lines_on : (k n to : ℕ) (lines : List Line) → n ≤ length (take (to - k) (drop k lines)) → take k lines ++ take n (take (to - k) (drop k lines)) ≡ take (k + n) lines
lines_on k n to lines few =
    let long = length-take (to - k) (drop k lines) in
    ap (λ (ls : List Line). take k lines ++ ls) (take-take n (to - k) (drop k lines) (omega (arith, long, few))) ∙ take_plus k n lines

-- the lines were run on
pub came_on : (size : Size) (b : Bench) (lines : List Line) (first : Site) (old new : Moment) (to n : ℕ) (told : CameTold size b lines first old)
    → (r : RanTo size told.came.at (take n (take (to - old.count) (drop old.count lines))) old.going new.going) → RunTook size (take n (take (to - old.count) (drop old.count lines))) (own_disk old.going) (own_disk new.going) → r.bench.fault_state.struck ≡ false
    → n ≤ length (take (to - old.count) (drop old.count lines)) → new.count ≡ old.count + n → CameTold size b lines first new
came_on size b lines first old new to n told r took calm few count =
    let c = told.came in
    let front = take old.count lines in
    let slice = take n (take (to - old.count) (drop old.count lines)) in
    let long = length-take (to - old.count) (drop old.count lines) in
    let rest = length-drop old.count lines in
    let all : front ++ slice ≡ take new.count lines = lines_on old.count n to lines few ∙ ap (λ (k : ℕ). take k lines) (sym count) in
    let A : Bench → Type 0 = λ x. Run size c.at slice r.answers x in
    let L : List Line → Type 0 = λ ls. Run size b ls (c.answers ++ r.answers) r.bench in
    let S : List Line → Type 0 = λ ls. Resumes first.ledger new.going.ledger (lines_resume ls (c.answers ++ r.answers)) in
    let T : List Line → Type 0 = λ ls. RunTook size ls first.off.disk (own_disk new.going) in
    let serials : S (front ++ slice) =
    r.resumed ∙ ap (λ (xs : List Answer). old.going.ledger.resumed.items ++ lines_resume slice xs) (r.told calm) ∙ ap (λ (xs : List ℕ). xs ++ lines_resume slice r.answers) told.resumed
    ∙ append_assoc first.ledger.resumed.items (lines_resume front c.answers) (lines_resume slice r.answers)
    ∙ ap (λ (xs : List ℕ). first.ledger.resumed.items ++ xs) (sym (resumed_both size front slice b c.answers r.answers c.at c.run)) in record {
      came = record {
        few = omega (arith, count, few, long, rest, c.few);
        answers = c.answers ++ r.answers;
        at = r.bench;
        run = subst L all (run_both size front slice b c.answers r.answers c.at r.bench c.run (subst A (sym (r.calm calm)) r.run));
        runs = record { agrees = r.runs.agrees; same = r.runs.same; follows = r.runs.follows; calm = calm };
      };
      resumed = subst S all serials;
      took = subst T all (took_both size front slice first.off.disk (own_disk old.going) (own_disk new.going) told.took took);
    }

-- the moment's board is another that stands as it
pub came_again : (size : Size) (b : Bench) (lines : List Line) (first : Site) (old new : Moment) (told : CameTold size b lines first old) → new.count ≡ old.count → new.going.ledger ≡ old.going.ledger
    → RunsCalm size told.came.at new.going → ((d : SimDisk) → HasDisk old.going.bench.power d → HasDisk new.going.bench.power d) → CameTold size b lines first new
came_again size b lines first old new told count ledger runs same =
    let c = told.came in
    let N : ℕ → Type 0 = λ k. Run size b (take k lines) c.answers c.at in
    let S : ℕ → Type 0 = λ k. Resumes first.ledger old.going.ledger (lines_resume (take k lines) c.answers) in
    let L : RunLedger → Type 0 = λ l. Resumes first.ledger l (lines_resume (take new.count lines) c.answers) in
    let K : ℕ → Type 0 = λ k. RunTook size (take k lines) first.off.disk (own_disk old.going) in
    let D : SimDisk → Type 0 = λ d. RunTook size (take new.count lines) first.off.disk d in record {
      came = record { few = omega (arith, count, c.few); answers = c.answers; at = c.at; run = subst N (sym count) c.run; runs = runs };
      resumed = subst L (sym ledger) (subst S (sym count) told.resumed);
      took = subst D (disk_is new.going.bench.power (own_disk old.going) (same (own_disk old.going) (has_disk old.going.bench.power))) (subst K (sym count) told.took);
    }

-- ---- a row from there
pub along : (size : Size) (kind : BenchKind) (site : Site) (before : ℕ) (b : Bench) (lines ls : List Line) (moment : Moment) (told : CameTold size b lines site moment) (d : SimDisk) (caller : Caller) (made : ℕ)
    → HasDisk moment.going.bench.power d → MadeCalls site.off.disk d caller made → ls ≡ drop moment.count lines → (row : Row) → row.caller ≡ caller → RunsWith size kind (before + made) told.came.at ls row → RunsAlong size kind caller site before b lines row
along size kind site before b lines ls moment told d caller made has counts is row who runs =
    let c = told.came in
    let D : SimDisk → Type 0 = λ x. RunTook size (take moment.count lines) site.off.disk x in
    let R : List Line → Type 0 = λ xs. RunsWith size kind (before + made) c.at xs row in record {
      who = who;
      more = moment.count;
      answers = c.answers;
      at = c.at;
      along = c.run;
      disk = d;
      stands = (moment.going.bench.power, c.runs.agrees, has);
      took = subst D (sym (disk_is moment.going.bench.power d has)) told.took;
      made = made;
      counts = counts;
      runs = subst R is runs;
    }

-- ---- rows that are made and taken one after another
pub rows_more : {Row : Type 0} (is : ℕ → Row → Type 0) (first n : ℕ) (rows : List Row) (row : Row) → length rows ≡ n - first → first ≤ n → AreRows is first rows → is n row → AreRows is first (rows ++ row ∷ [])
rows_more is first n rows row long order are one =
    let I : ℕ → Type 0 = λ k. is k row in
    rows_both is first (length rows) rows (row ∷ []) refl are (subst I (let same : n ≡ first + length rows = omega (arith, long, order) in same) one, tt)

pub taken_more : {Row S : Type 0} (takes : S → Row → S → Type 0) (s t u : S) (rows : List Row) (i : ℕ) (row d : Row) → i < length rows → row ≡ get_or rows i d → TakesAll takes s (take i rows) t → takes t row u → TakesAll takes s (take (i + 1) rows) u
taken_more {Row} {S} takes s t u rows i row d less is all one =
    let X : List Row → Type 0 = λ xs. TakesAll takes s xs u in
    let Y : Row → Type 0 = λ r. takes t r u in
    subst X (sym (take_more rows i d less)) (taken_both takes s t u (take i rows) (get_or rows i d ∷ []) all (u, subst Y is one, refl))
