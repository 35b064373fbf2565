-- A script that is read from its text.
use Rattle.std.proofs.Common.{◌≡◌, ◌∙◌, ℕ, List, Result, Ok, sym, ap, subst}
use Rattle.board_model.specs.declared.refusal.Refusal.{Refusal}
use Rattle.disk.specs.Facts.{Facts}
use Rattle.script_lang.specs.{Scripts.{script_of, Script as Said}, Spellings.script_text}
use Rattle.report_lines.specs.declared.printed.Answer.{Answer}
use Rattle.bench_report.specs.Laws.{KeepsLaws}

one_said : (said other : Said) → ◌≡◌ {A = Result Said Refusal} (Ok said) (Ok other) → other ≡ said
one_said said other is = cc

-- what was written keeps the laws of what the text was written of
pub as_written : (script : List ℕ) (said other : Said) (answers : List Answer) (disk : Facts) → script_of (script_text said) ≡ Ok said → script ≡ script_text said → script_of script ≡ Ok other
    → KeepsLaws other answers disk → KeepsLaws said answers disk
as_written script said other answers disk read written is keeps =
    subst (λ (x : Said). KeepsLaws x answers disk) (one_said said other (sym read ∙ (ap script_of (sym written) ∙ is))) keeps
