use Rattle.std.proofs.Common.{◌≡◌, ◌≢◌, ◌∙◌, true, false, inr, refl, sym, subst, get_or, true≢false}
use Rattle.report_lines.specs.{declared.printed.Answer.Answer, contracts.printed.AnswerEq.TheImpl.Laws.laws-law}
use Rattle.report_lines.proofs.Alike.{equal-answer}
use Rattle.report_lines.specs.contracts.printed.AnswerPartialEq.TheImpl as equality
use Rattle.bench_schedules.proofs.runs.next_place.Goals as goal

-- what the comparison finds apart is not the same
apart : (a b : Answer) → equality.ghosts.eq a b ≡ false → a ≢ b
apart a b unlike same =
    let P : Answer → Type 0 = λ x. equality.ghosts.eq a x ≡ true in
    true≢false (sym (subst P same (laws-law.refl a)) ∙ unlike)

pub returns-then-eq-clause-alike : goal.returns-then-eq-clause-alike
returns-then-eq-clause-alike c =
    let same : c.index-own-place.result ≡ c.args.answer = equal-answer c.index-own-place.result c.args.answer (sym c.if-eq.ensures) in
    let P : Answer → Type 0 = λ a. get_or c.args.own.now c.args.place a ≡ a in
    inr (sym c.is_other.ensures ∙ c.if-not-is_other.false, subst P same (sym c.index-own-place.is), refl)

pub returns-clause-apart : goal.returns-clause-apart
returns-clause-apart c = (
  sym c.is_other.ensures ∙ c.if-not-is_other.false,
  refl,
  c.index-own-place.is,
  refl,
  apart c.index-own-place.result c.args.answer (sym c.if-eq.ensures),
)
