-- Lines that are run one after another, and the bench then.
use Rattle.std.proofs.Common.{◌≡◌, ◌<◌, ◌+◌, ◌∷◌, ◌++◌, [], ℕ, true, false, Bool, List, inl, inr, length, take, get_or, refl, sym, ◌∙◌, ap, subst, append_assoc, length-append, arith}
use Rattle.std.proofs.lemmas.List.{append-nil, take_more}
use Rattle.board_model.specs.Shapes.{Size}
use Rattle.bench_report.{proofs.RunLines.run_more, specs.{Agree.Agrees, Bench.Bench, Happens.{says, off, unpowered}, Steps.{Moves, Run}}}
use Rattle.bench_report.specs.declared.power.Power.{Power}
use Rattle.report_lines.specs.declared.printed.Answer.{Answer}
use Rattle.report_lines.specs.declared.printed.Printed.TheVariants as printed
use Rattle.script_lang.specs.declared.line.Line.{Line}
use Rattle.bench_sweep.specs.{declared.site.{Going.Going, Site.Site}, Lines.LineMoves, Resumes.{line_resumes, lines_resume, Resumes}}
use Rattle.bench_sweep.specs.Runs.{RunsAt, RunsCalm, RanTo, IsLife, StopsOff}

-- ---- serials of lines
lines_more : (ls : List Line) (ys : List Answer) (l : Line) (a : Answer) → length ys ≡ length ls → lines_resume (ls ++ l ∷ []) (ys ++ a ∷ []) ≡ lines_resume ls ys ++ line_resumes l a
lines_more [] [] l a e = append-nil (line_resumes l a)
lines_more [] (x ∷ ys) l a e = cc
lines_more (k ∷ ls) [] l a e = cc
lines_more (k ∷ ls) (x ∷ ys) l a e =
    ap (λ zs. line_resumes k x ++ zs) (lines_more ls ys l a (let f : length ys ≡ length ls = omega (arith, e) in f)) ∙ sym (append_assoc (line_resumes k x) (lines_resume ls ys) (line_resumes l a))

-- the lines so far were run to their end, and no armed cut has struck
pub record Runs_to (size : Size) (b : Bench) (lines : List Line) (first new : Going) : Type 0 where
  pub bench : Bench
  pub answers : List Answer
  pub run : Run size b lines answers bench
  pub runs : RunsCalm size bench new
  pub long : length answers ≡ length lines
  pub resumed : Resumes first.ledger new.ledger (lines_resume lines answers)

pub ran_none : (size : Size) (b : Bench) (first : Going) → RunsCalm size b first → Runs_to size b [] first first
ran_none size b first r = record { bench = b; answers = []; run = refl; runs = r; long = refl; resumed = sym (append-nil first.ledger.resumed.items) }

-- that is where they may end
pub ran_calm : (size : Size) (b : Bench) (lines : List Line) (first new : Going) → Runs_to size b lines first new → RanTo size b lines first new
ran_calm size b lines first new r = record {
  answers = r.answers;
  end = r.bench;
  run = r.run;
  bench = r.bench;
  runs = record { agrees = r.runs.agrees; same = r.runs.same; follows = r.runs.follows };
  calm = λ calm. refl;
  struck = λ hit. absurd (let no : true ≡ false = sym hit ∙ r.runs.calm in let never : ⊥ = cc in never);
  would = r.answers;
  told = λ calm. refl;
  lost = λ hit. absurd (let no : true ≡ false = sym hit ∙ r.runs.calm in let never : ⊥ = cc in never);
  resumed = r.resumed;
}

module _ (size : Size) (b : Bench) (lines : List Line) (i : ℕ) (line d : Line) (first old new : Going) (less : i < length lines) (is : line ≡ get_or lines i d) (so_far : Runs_to size b (take i lines) first old)
    (moves : LineMoves size line so_far.bench old new) where
  abbrev mid : Bench
  mid = so_far.bench

  snoc : (a : Answer) (new : Bench) → Moves size line mid a new → Run size b (take (i + 1) lines) (so_far.answers ++ a ∷ []) new
  snoc a new moved = let M : Line → Type 0 = λ l. Moves size l mid a new in run_more size lines i d b so_far.answers mid a new less so_far.run (subst M is moved)

  -- the lines with this one
  more : take i lines ++ line ∷ [] ≡ take (i + 1) lines
  more = ap (λ (l : Line). take i lines ++ l ∷ []) is ∙ sym (take_more lines i d less)

  resumed : Resumes first.ledger new.ledger (lines_resume (take (i + 1) lines) (so_far.answers ++ moves.does.0 ∷ []))
  resumed =
      moves.resumed ∙ ap (λ (xs : List ℕ). xs ++ line_resumes line moves.does.0) so_far.resumed
      ∙ append_assoc first.ledger.resumed.items (lines_resume (take i lines) so_far.answers) (line_resumes line moves.does.0)
      ∙ ap (λ (xs : List ℕ). first.ledger.resumed.items ++ xs) (sym (lines_more (take i lines) so_far.answers line moves.does.0 so_far.long) ∙ ap (λ (ls : List Line). lines_resume ls (so_far.answers ++ moves.does.0 ∷ [])) more)

  pub ran_more : moves.bench.fault_state.struck ≡ false → Runs_to size b (take (i + 1) lines) first new
  ran_more calm = record {
    bench = moves.bench;
    answers = so_far.answers ++ moves.does.0 ∷ [];
    run = snoc moves.does.0 moves.bench (inl (moves.does.1, calm));
    runs = record { agrees = moves.runs.agrees; same = moves.runs.same; follows = moves.runs.follows; calm = calm };
    long = length-append so_far.answers (moves.does.0 ∷ []) ∙ ap (λ (n : ℕ). n + 1) so_far.long ∙ sym (length-append (take i lines) (line ∷ [])) ∙ ap (λ (ls : List Line). length ls) more;
    resumed = resumed;
  }

  -- a cut struck in the last of them
  ran_struck : moves.bench.fault_state.struck ≡ true → RanTo size b (take (i + 1) lines) first new
  ran_struck hit = record {
    answers = so_far.answers ++ says printed.PowerLost ∷ [];
    end = unpowered moves.bench;
    run = snoc (says printed.PowerLost) (unpowered moves.bench) (inr (moves.does.0, moves.bench, moves.does.1, hit, refl, refl));
    bench = moves.bench;
    runs = moves.runs;
    calm = λ calm. absurd (let no : true ≡ false = sym hit ∙ calm in let never : ⊥ = cc in never);
    struck = λ again. (refl, (so_far.answers, refl));
    would = so_far.answers ++ moves.does.0 ∷ [];
    told = λ calm. absurd (let no : true ≡ false = sym hit ∙ calm in let never : ⊥ = cc in never);
    lost = λ again. record { front = take i lines; line = line; is = sym more; before = so_far.answers; mid = mid; run = so_far.run; last = moves.does.0; step = moves.does.1; said = refl; so = refl };
    resumed = resumed;
  }

  -- one or the other
  pub ran_line : RanTo size b (take (i + 1) lines) first new
  ran_line = by moves.bench.fault_state.struck refl
    where
      by : (struck : Bool) → moves.bench.fault_state.struck ≡ struck → RanTo size b (take (i + 1) lines) first new
      by true hit = ran_struck hit
      by false calm = ran_calm size b (take (i + 1) lines) first new (ran_more calm)

-- the board was turned off after lines in which nothing was armed
pub life_of : (size : Size) (b : Bench) (lines : List Line) (count : ℕ) (first new : Going) (site : Site) → (r : RanTo size (unpowered b) (take count lines) first new)
    → (r.bench.fault_state.struck ≡ false) × RunsAt size (off r.bench) site → (count < length lines → StopsOff new.bench.power) → IsLife size b lines count site
life_of size b lines count first new site r (calm, left) stops =
    let P : Bench → Type 0 = λ x. RunsAt size (off x) site in
    let same = r.calm calm in record {
      answers = r.answers;
      end = r.end;
      run = r.run;
      stops = λ less. ap (λ (x : Bench). x.power) (sym same) ∙ stops less size r.bench r.runs.agrees calm;
      left = subst P same left;
    }

-- ---- where a run stops

pub struck_stops : (power : Power) (struck : Bool) → struck ≡ true → ((size : Size) (b : Bench) → Agrees size b power → struck ≡ b.fault_state.struck) → StopsOff power
struck_stops power struck hit exact = λ size b agrees calm. absurd (let no : true ≡ false = sym hit ∙ exact size b agrees ∙ calm in let never : ⊥ = cc in never)
