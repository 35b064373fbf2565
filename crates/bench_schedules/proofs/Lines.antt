-- The lines of a run, one after another.
use Rattle.std.proofs.Common.{◌≡◌, inl, inr, ◌∙◌, ℕ, suc, ◌+◌, ◌<◌, ◌≤◌, Bool, true, false, List, [], ◌∷◌, ◌++◌, length, take, drop, get_or, All, Option, Some, None, if◌then◌else◌, refl, sym, ap, subst, arith}
use Rattle.std.proofs.lemmas.List.{at_drop_all, take_all, take_more, drop_more, length-take-le, append-nil, take-append-drop}
use Rattle.board_model.specs.Shapes.{Size, IsSize}
use Rattle.script_lang.specs.{Lines.{FitsLine, IsLineInRange}, declared.line.Line.Line}
use Rattle.script_lang.specs.declared.line.Line.TheVariants as lines
use Rattle.bench_report.{specs.{Bench.{Bench, bench_with}, Steps.Run, Lives.Shows}, proofs.RunLines.run_snoc}
use Rattle.bench_report.specs.declared.live.LiveBench.{LiveBench}
use Rattle.report_lines.specs.declared.printed.Answer.{Answer}
use Rattle.bench_schedules.specs.{Orders.{IsOrderFor, is_other, other_count}, declared.runs.Difference.Difference}
use Rattle.bench_schedules.specs.Schedules.{other_answer, other_answers, Ran, RanLike, RanOwn, ToldLike}
use Rattle.bench_schedules.specs.{Compared.{IsDifference, IsNextPlace}, RunSoFar.{LineRan, RunSoFar, WentLike}}

-- a line, and those after it
here_is : (ls : List Line) (i : ℕ) (line : Line) → i < length ls → line ≡ get_or ls i line → drop i ls ≡ line ∷ drop (i + 1) ls
here_is ls i line less is = drop_more ls i line less ∙ ap (λ l. l ∷ drop (i + 1) ls) (sym is)

pub told_snoc : (size : Size) (ls : List Line) (b : Bench) (answers : List Answer) (mid : Bench) (line : Line) (a : Answer)
    → Run size b ls answers mid → other_answers (ls ++ line ∷ []) (answers ++ a ∷ []) ≡ other_answers ls answers ++ other_answer (is_other line) a
told_snoc size [] b [] mid line a run = by_case (is_other line)
  where
    by_case : (o : Bool) → (if o then (a ∷ []) else []) ≡ [] ++ other_answer o a
    by_case true = refl
    by_case false = refl
told_snoc size [] b (c ∷ answers) mid line a run = absurd run
told_snoc size (l ∷ ls) b [] mid line a run = absurd run
told_snoc size (l ∷ ls) b (c ∷ answers) mid line a run = by_case (is_other l) (told_snoc size ls run.0 answers mid line a run.2)
  where
    by_case : (o : Bool) → other_answers (ls ++ line ∷ []) (answers ++ a ∷ []) ≡ other_answers ls answers ++ other_answer (is_other line) a
        → (if o then (c ∷ other_answers (ls ++ line ∷ []) (answers ++ a ∷ [])) else other_answers (ls ++ line ∷ []) (answers ++ a ∷ []))
        ≡ (if o then (c ∷ other_answers ls answers) else other_answers ls answers) ++ other_answer (is_other line) a
    by_case true more = ap (λ x. c ∷ x) more
    by_case false more = more

told_length : (size : Size) (ls : List Line) (b : Bench) (answers : List Answer) (end : Bench) → Run size b ls answers end → length (other_answers ls answers) ≡ other_count ls
told_length size [] b [] end run = refl
told_length size [] b (c ∷ answers) end run = absurd run
told_length size (l ∷ ls) b [] end run = absurd run
told_length size (lines.Turn h n ∷ ls) b (c ∷ answers) end run = told_length size ls run.0 answers end run.2
told_length size (l ∷ ls) b (c ∷ answers) end run = ap suc (told_length size ls run.0 answers end run.2)

pub count_append : (xs ys : List Line) → other_count (xs ++ ys) ≡ other_count xs + other_count ys
count_append [] ys = omega arith
count_append (lines.Turn h n ∷ xs) ys = count_append xs ys
count_append (x ∷ xs) ys = omega (arith, count_append xs ys)

count_other : (line : Line) → is_other line ≡ true → other_count (line ∷ []) ≡ 1
count_other (lines.Turn h n) other = absurd (let never : ⊥ = cc in never)
count_other line other = refl

count_turn : (line : Line) → is_other line ≡ false → other_count (line ∷ []) ≡ 0
count_turn (lines.Turn h n) turn = refl
count_turn line turn = absurd (let never : ⊥ = cc in never)

count_here : (ls : List Line) (k : ℕ) (line : Line) → k < length ls → line ≡ get_or ls k line → other_count (drop k ls) ≡ other_count (line ∷ []) + other_count (drop (k + 1) ls)
count_here ls k line less is = ap other_count (here_is ls k line less is) ∙ count_append (line ∷ []) (drop (k + 1) ls)

-- before the first line
pub goes_begun : (size : Size) (start : List (List ℕ)) (live : LiveBench) → Shows size (bench_with start) live → RunSoFar size (bench_with start) [] [] live
goes_begun size start live shows = record { answers = []; bench = bench_with start; run = refl; shows = shows; memory = refl; told = refl }

-- one line more
abbrev pub goes_snoc : (size : Size) (from : Bench) (ls : List Line) (said : List Answer) (old new : LiveBench) (line : Line) (a : Answer) → RunSoFar size from ls said old → LineRan size line a old new
    → RunSoFar size from (ls ++ line ∷ []) (said ++ other_answer (is_other line) a) new
goes_snoc size from ls said old new line a so_far ran =
    let did = ran so_far.bench so_far.shows in record {
      answers = so_far.answers ++ a ∷ [];
      bench = did.0;
      run = run_snoc size ls from so_far.answers so_far.bench line a did.0 so_far.run did.1;
      shows = did.2;
      memory = did.3 ∙ so_far.memory;
      told = told_snoc size ls from so_far.answers so_far.bench line a so_far.run ∙ ap (λ x. x ++ other_answer (is_other line) a) so_far.told;
    }

-- one line more, by its place among lines
pub goes_more : (size : Size) (from : Bench) (ls : List Line) (k : ℕ) (said : List Answer) (old new : LiveBench) (line : Line) (a : Answer) → k < length ls → line ≡ get_or ls k line
    → RunSoFar size from (take k ls) said old → LineRan size line a old new → RunSoFar size from (take (k + 1) ls) (said ++ other_answer (is_other line) a) new
goes_more size from ls k said old new line a less is so_far ran =
    let P : List Line → Type 0 = λ xs. RunSoFar size from xs (said ++ other_answer (is_other line) a) new in
    subst P (ap (λ l. take k ls ++ l ∷ []) is ∙ sym (take_more ls k line less)) (goes_snoc size from (take k ls) said old new line a so_far ran)

-- ---- beside the script's own run
pub place_within : (ls : List Line) (k : ℕ) (line : Line) (own : List Answer) (place : ℕ) → k < length ls → line ≡ get_or ls k line → place + other_count (drop k ls) ≡ length own → is_other line ≡ true
    → place < length own
place_within ls k line own place less is few other = omega (arith, few, count_here ls k line less is, count_other line other)

pub few_next : (ls : List Line) (k : ℕ) (line : Line) (a : Answer) (own : List Answer) (place next : ℕ) → k < length ls → line ≡ get_or ls k line → place + other_count (drop k ls) ≡ length own
    → IsNextPlace own place line a next → next + other_count (drop (k + 1) ls) ≡ length own
few_next ls k line a own place next less is few (inl turn) = omega (arith, few, count_here ls k line less is, count_turn line turn.0, turn.1)
few_next ls k line a own place next less is few (inr same) = omega (arith, few, count_here ls k line less is, count_other line same.0, same.2)

told_next : (own : List Answer) (place next : ℕ) (line : Line) (a : Answer) → (is_other line ≡ true → place < length own) → IsNextPlace own place line a next
    → take place own ++ other_answer (is_other line) a ≡ take next own
told_next own place next line a within (inl turn) =
    ap (λ o. take place own ++ other_answer o a) turn.0 ∙ append-nil (take place own) ∙ ap (λ k. take k own) (sym turn.1)
told_next own place next line a within (inr same) =
    ap (λ o. take place own ++ other_answer o a) same.0 ∙ ap (λ x. take place own ++ x ∷ []) (sym same.1) ∙ sym (take_more own place a (within same.0)) ∙ ap (λ k. take k own) (sym same.2)

-- a line after which the run goes on
pub goes_alike : (size : Size) (from : Bench) (ls : List Line) (k : ℕ) (own : List Answer) (place next : ℕ) (old new : LiveBench) (line : Line) (a : Answer) → k < length ls → line ≡ get_or ls k line
    → (is_other line ≡ true → place < length own) → RunSoFar size from (take k ls) (take place own) old → LineRan size line a old new → IsNextPlace own place line a next
    → RunSoFar size from (take (k + 1) ls) (take next own) new
goes_alike size from ls k own place next old new line a less is within so_far ran alike =
    let P : List Answer → Type 0 = λ x. RunSoFar size from (take (k + 1) ls) x new in
    subst P (told_next own place next line a within alike) (goes_more size from ls k (take place own) old new line a less is so_far ran)

-- a line after which it does not
pub goes_apart : (size : Size) (start : List (List ℕ)) (ls : List Line) (k : ℕ) (own : List Answer) (place : ℕ) (old new : LiveBench) (line : Line) (a : Answer) (d : Difference) → k < length ls → line ≡ get_or ls k line
    → (is_other line ≡ true → place < length own) → RunSoFar size (bench_with start) (take k ls) (take place own) old → LineRan size line a old new → IsDifference own place line a d
    → WentLike size start ls own (Some d) new
goes_apart size start ls k own place old new line a d less is within so_far ran apart =
    let P : List Answer → Type 0 = λ x. RunSoFar size (bench_with start) (take (k + 1) ls) x new in
    let told : take place own ++ other_answer (is_other line) a ≡ take d.place own ++ d.answer ∷ [] =
    ap (λ o. take place own ++ other_answer o a) apart.0 ∙ ap (λ p. take p own ++ a ∷ []) (sym apart.1) ∙ ap (λ x. take d.place own ++ x ∷ []) (sym apart.3) in
    let less_own : d.place < length own = omega (arith, apart.1, within apart.0) in
    let own_is : d.own ≡ get_or own d.place d.own = apart.2 ∙ ap (λ p. get_or own p d.own) (sym apart.1) in
    let here : drop d.place own ≡ d.own ∷ drop (d.place + 1) own = drop_more own d.place d.own less_own ∙ ap (λ x. x ∷ drop (d.place + 1) own) (sym own_is) in
    record {
      n = k + 1;
      said = take d.place own ++ d.answer ∷ [];
      goes = subst P told (goes_more size (bench_with start) ls k (take place own) old new line a less is so_far ran);
      like = (
        take d.place own,
        drop (d.place + 1) own,
        sym (take-append-drop d.place own) ∙ ap (λ xs. take d.place own ++ xs) here,
        length-take-le d.place own (omega (arith, less_own)),
        λ e. apart.4 (e ∙ apart.3),
        refl,
      );
    }

-- all lines ran on, and each answered as the own run does
pub went_alike : (size : Size) (start : List (List ℕ)) (ls : List Line) (k : ℕ) (own : List Answer) (place : ℕ) (live : LiveBench) → length ls ≤ k → place + other_count (drop k ls) ≡ length own
    → RunSoFar size (bench_with start) (take k ls) (take place own) live → WentLike size start ls own None live
went_alike size start ls k own place live all count so_far =
    let none : other_count (drop k ls) ≡ 0 = at_drop_all other_count ls k all in
    let P : List Answer → Type 0 = λ x. RunSoFar size (bench_with start) (take k ls) x live in
    record { n = k; said = own; goes = subst P (take_all place own (omega (arith, none, count))) so_far; like = refl }

-- the disk had memory for its record too
pub ran_like : (size : Size) (start : List (List ℕ)) (ls : List Line) (own : List Answer) (differs : Option Difference) (live : LiveBench) → WentLike size start ls own differs live
    → ((b : Bench) → Shows size b live → b.fault_state.own ≡ 0) → RanLike size start ls own differs
ran_like size start ls own differs live went disk =
    let goes = went.goes in
    let P : List Answer → Type 0 = λ x. ToldLike own x differs in
    record {
      n = went.n;
      answers = goes.answers;
      end = goes.bench;
      ran = record { run = goes.run; memory = goes.memory; disk = disk goes.bench goes.shows };
      like = subst P (sym goes.told) went.like;
    }

-- ---- the own run, and what is drawn
pub ran_own : (size : Size) (start : List (List ℕ)) (ls : List Line) (own : List Answer) (going : LiveBench) → RunSoFar size (bench_with start) ls own going
    → ((b : Bench) → Shows size b going → b.fault_state.own ≡ 0) → RanOwn size start ls own × (length own ≡ other_count ls)
ran_own size start ls own going goes disk = (
  record {
    answers = goes.answers;
    end = goes.bench;
    ran = record { run = goes.run; memory = goes.memory; disk = disk goes.bench goes.shows };
    told = sym goes.told;
  },
  ap length (sym goes.told) ∙ told_length size ls (bench_with start) goes.answers goes.bench goes.run,
)

-- what ran was a schedule
pub ran_of : (size : Size) (start : List (List ℕ)) (those new : List Line) (own : List Answer) (differs : Option Difference) → IsSize size → IsOrderFor those new → length new ≤ 65535
    → All (IsLineInRange size) those → All FitsLine those → RanLike size start new own differs → Ran (record { size = size; lines = those }) start own differs
ran_of size start those new own differs sized order few ranges fits ran = record {
  schedule = record { size = size; lines = new };
  order = record { board = refl; lines = order.order };
  writable = record { size = sized; few = few; ranges = order.ranges size ranges; fits = order.fits fits };
  ran = ran;
}
