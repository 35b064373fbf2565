-- A report that goes on by one answer.
use Rattle.std.proofs.{Common.{◌≡◌, ℕ, ◌+◌, List, [], ◌∷◌, ◌++◌, Option, None, Some, refl, sym, ◌∙◌, ap, arith}, lemmas.List.append-nil}
use Rattle.std.{specs.Option.option_to_list, proofs.lemmas.{List.{Sums.sum_by-append, Elements.filter_map-append}, Grind.flat_map-append}}
use Rattle.board_model.{specs.declared.durable.Durable.Durable, proofs.Written.appended}
use Rattle.report_lines.specs.{declared.{printed.{Printed.Printed, Answer.Answer}, report.Report.Report}, Counts.{Adds, Reported}}
use Rattle.report_lines.specs.Texts.{found_count, answer_text, report_text, line_count, found_states}

text_more : (answers : List Answer) (a : Answer) → report_text (answers ++ a ∷ []) ≡ report_text answers ++ answer_text a
text_more answers a = flat_map-append answer_text answers (a ∷ []) ∙ ap (λ z. report_text answers ++ z) (append-nil (answer_text a))

count_more : (answers : List Answer) (a : Answer) → line_count (answers ++ a ∷ []) ≡ line_count answers + found_count a.found + 1
count_more answers a = omega (arith, sum_by-append (λ (x : Answer). found_count x.found + 1) answers (a ∷ []))

states_more : (answers : List Answer) (a : Answer) → found_states (answers ++ a ∷ []) ≡ found_states answers ++ found_states (a ∷ [])
states_more answers a = filter_map-append (λ (x : Answer). x.found) answers (a ∷ [])

one_state : (o : Option Durable) (line : Printed) → found_states (record { found = o; line = line } ∷ []) ≡ option_to_list o
one_state None line = refl
one_state (Some d) line = refl

pub reported_more : (start mid now : Option (List ℕ)) (before after : Report) (answers : List Answer) (a : Answer)
    → Reported start mid before answers → Adds mid now before after a → Reported start now after (answers ++ a ∷ [])
reported_more start mid now before after answers a was adds = record {
  text = rw (text_more answers a) (appended start mid now (report_text answers) (answer_text a) was.text adds.text);
  lines = adds.lines ∙ ap (λ n. n + found_count a.found + 1) was.lines ∙ sym (count_more answers a);
  found = adds.found ∙ ap (λ xs. xs ++ option_to_list a.found) was.found ∙ ap (λ xs. found_states answers ++ xs) (sym (one_state a.found a.line)) ∙ sym (states_more answers a);
}
