-- Where a bench begins.
use Rattle.std.proofs.Common.{◌≡◌, ◌<◌, ◌+◌, ◌++◌, ◌∷◌, ℕ, length, take, get_or, inl, inr, List, [], Option, None, Some, sym, ◌∙◌, ap, subst}
use Rattle.board_model.specs.{Durable.{Change, CarriesWhole}, Kept.{Kept, nothing_kept}, Shapes.Size}
use Rattle.script_lang.specs.declared.line.Line.{Line}
use Rattle.script_lang.specs.declared.line.Line.TheVariants as lines
use Rattle.bench_report.specs.Bench.{DiskState, Blank, Unknown, Formatted, BenchLife, Bench, bench_with}
use Rattle.bench_report.specs.{Happens.{says, formatted_anew}, PowerOns.FormatsOn, Steps.{FormatStep, Step, Moves, Run}, Lives.Shows}
use Rattle.bench_report.{proofs.RunLines.run_more, specs.declared.live.LiveBench.LiveBench}
use Rattle.report_lines.specs.declared.printed.{Answer.Answer, Printed.Printed}
use Rattle.report_lines.specs.declared.printed.Printed.TheVariants as printed
use Rattle.bench_sweep.specs.{declared.ledgers.RunLedger.RunLedger, Ledgers.Tells, Made.IsFormatted}
use Rattle.bench_sweep.specs.Runs.{TellsWhole, Runs, Begins, Begun, Formats}

-- ---- the line that formats the disk
abbrev Fresh : Bench → Bench → Type 0
Fresh b new = (new.disk_state ≡ Formatted) × (new.kept ≡ nothing_kept)

anew : (b new : Bench) → new ≡ formatted_anew b → Fresh b new
anew b new e = (ap (λ (x : Bench). x.disk_state) e, ap (λ (x : Bench). x.kept) e)

other : {A : Type 0} (a : Answer) (line : Printed) → a ≡ says line → a.line ≡ printed.Formatted → (line ≡ printed.Formatted → ⊥) → A
other a line e is not = absurd (not (sym (ap (λ (x : Answer). x.line) e) ∙ is))

formats_on : (m : DiskState) (b : Bench) (a : Answer) (new : Bench) → a.line ≡ printed.Formatted → FormatsOn m b a new → Fresh b new
formats_on Blank b a new is (inl x) = anew b new x.1
formats_on Blank b a new is (inr x) = other a (printed.FormatRefused 5) x.0 is (λ e. let no : ⊥ = cc in no)
formats_on Unknown b a new is (inl x) = anew b new x.1
formats_on Unknown b a new is (inr (inl x)) = other a (printed.FormatRefused 5) x.0 is (λ e. let no : ⊥ = cc in no)
formats_on Unknown b a new is (inr (inr x)) = other a (printed.FormatRefused x.0) x.2 is (λ e. let no : ⊥ = cc in no)
formats_on Formatted b a new is (inl x) = other a (printed.FormatRefused 2) x.0 is (λ e. let no : ⊥ = cc in no)
formats_on Formatted b a new is (inr x) = other a (printed.FormatRefused 5) x.0 is (λ e. let no : ⊥ = cc in no)

formats : (p : Option BenchLife) (b : Bench) (a : Answer) (new : Bench) → a.line ≡ printed.Formatted → FormatStep p b a new → Fresh b new
formats None b a new is x = formats_on b.disk_state b a new is x
formats (Some life) b a new is x = other a printed.Busy x.0 is (λ e. let no : ⊥ = cc in no)

fresh_by : (size : Size) (line : Line) (b : Bench) (a : Answer) (new : Bench) → Formats line a → Step size line b a new → Fresh b new
fresh_by size lines.Format b a new is x = formats b.power b a new is x
fresh_by size line b a new is x = absurd is

said : (line : Line) (a : Answer) → Formats line a → a.line ≡ printed.Formatted
said lines.Format a is = is
said line a is = absurd is

-- a line within which a cut struck formatted nothing
moved_fresh : (size : Size) (line : Line) (b : Bench) (a : Answer) (new : Bench) → Formats line a → Moves size line b a new → Fresh b new
moved_fresh size line b a new is (inl x) = fresh_by size line b a new is x.0
moved_fresh size line b a new is (inr x) = absurd (let no : printed.Formatted ≡ printed.PowerLost = sym (said line a is) ∙ ap (λ (y : Answer). y.line) x.4 in let never : ⊥ = cc in never)

-- ---- a line before it
-- after the lines before it
pub begun_by : (size : Size) (start : List (List ℕ)) (lines : List Line) (i : ℕ) (line : Line) (d : Line) (live : LiveBench) (b new : Bench) (answers : List Answer) (a : Answer) → i < length lines → line ≡ get_or lines i d → Run size (bench_with start) (take i lines) answers b
    → Formats line a → Moves size line b a new → Shows size new live → new.growths ≡ 0 → Begun size start (take (i + 1) lines) live
begun_by size start lines i line d live b new answers a less is run did moves shows enough =
    let f = moved_fresh size line b a new did moves in
    let M : Line → Type 0 = λ l. Moves size l b a new in record {
      bench = new;
      before = answers;
      last = a;
      run = run_more size lines i d (bench_with start) answers b a new less run (subst M is moves);
      formats = said line a did;
      shows = shows;
      formatted = f.0;
      kept = f.1;
      enough = enough;
    }

-- one line more
pub begins_more : (size : Size) (start : List (List ℕ)) (lines : List Line) (i : ℕ) (line : Line) (d : Line) (live : LiveBench) (b new : Bench) (answers : List Answer) (a : Answer) → i < length lines → line ≡ get_or lines i d → Run size (bench_with start) (take i lines) answers b
    → Moves size line b a new → Shows size new live → new.growths ≡ 0 → Begins size start (take (i + 1) lines) live
begins_more size start lines i line d live b new answers a less is run moves shows enough =
    let M : Line → Type 0 = λ l. Moves size l b a new in record {
      bench = new;
      answers = answers ++ a ∷ [];
      run = run_more size lines i d (bench_with start) answers b a new less run (subst M is moves);
      shows = shows;
      enough = enough;
    }

-- ---- the run that begins with it
module _ (size : Size) (start : List (List ℕ)) (lines : List Line) (live : LiveBench) where
  pub formatted_by : (g : Begun size start lines live) → IsFormatted size start lines g.bench
  formatted_by g = record { before = g.before; last = g.last; run = g.run; formats = g.formats }

  pub begun_runs : (ledger : RunLedger) (g : Begun size start lines live) → Tells ledger nothing_kept → Runs size g.bench (record { bench = live; ledger = ledger })
  begun_runs ledger g tells =
      let P : Kept → Type 0 = λ k. TellsWhole size ledger k in
      let doubt : (c : Change) → None ≡ Some c → CarriesWhole size c = λ c e. absurd (let no : ⊥ = cc in no) in record {
        agrees = g.shows.0;
        same = g.shows.1;
        follows = record { formatted = g.formatted; kept = subst P (sym g.kept) (record { tells = tells; whole = tt; doubt = doubt }); enough = g.enough };
      }
