-- What the derived comparisons of an answer and of its line find equal is the same.
use Rattle.std.proofs.Common.{◌≡◌, ◌∙◌, ◌&&◌, Bool, Option, Some, None, true, false, ap, refl, rules}
use Rattle.board_model.{proofs.Console.equal-console, specs.declared.durable.Durable.Durable}
use Rattle.board_model.specs.contracts.durable.DurablePartialEq.TheImpl as durable
use Rattle.machine.proofs.Alike.{equal-line}
use Rattle.report_lines.specs.declared.printed.{Answer.Answer, Printed.Printed}
use Rattle.report_lines.specs.declared.printed.Printed.TheVariants as printed
use Rattle.report_lines.specs.contracts.printed.PrintedPartialEq.TheImpl as line
use Rattle.report_lines.specs.contracts.printed.AnswerPartialEq.TheImpl as answer

never : {X : Type 0} → false ≡ true → X
never e = absurd (let no : ⊥ = cc in no)

both : (x y : Bool) → (x && y) ≡ true → (x ≡ true) × (y ≡ true)
both true y e = (refl, e)
both false y e = never e

equal-printed : (a b : Printed) → line.ghosts.eq a b ≡ true → a ≡ b
equal-printed (printed.Board h p l n) (printed.Board i q m k) same = search (rules, same)
equal-printed printed.Formatted printed.Formatted same = refl
equal-printed (printed.FormatRefused n) (printed.FormatRefused m) same = search (rules, same)
equal-printed (printed.On m) (printed.On n) same = search (rules, same)
equal-printed (printed.OnRefused n) (printed.OnRefused m) same = search (rules, same)
equal-printed (printed.Acknowledged c n) (printed.Acknowledged d m) same = search (rules, same, equal-console c d)
equal-printed (printed.CommandRefused c n) (printed.CommandRefused d m) same = search (rules, same, equal-console c d)
equal-printed printed.Cut printed.Cut same = refl
equal-printed printed.Armed printed.Armed same = refl
equal-printed printed.PowerLost printed.PowerLost same = refl
equal-printed printed.Busy printed.Busy same = refl
equal-printed printed.Off printed.Off same = refl
equal-printed (printed.Shown x) (printed.Shown y) same = search (rules, same, equal-line x y)
equal-printed printed.Poked printed.Poked same = refl
equal-printed (printed.Inspected x) (printed.Inspected y) same = search (rules, same)
equal-printed (printed.InspectRefused n) (printed.InspectRefused m) same = search (rules, same)
equal-printed printed.Woken printed.Woken same = refl
equal-printed (printed.WakeRefused n) (printed.WakeRefused m) same = search (rules, same)
equal-printed a b same = never same

durable_same : (a b : Durable) → durable.ghosts.eq a b ≡ true → a ≡ b
durable_same a b same = search (rules, same)

found_same : (f g : Option Durable) (l m : Printed) → answer.ghosts.eq (record { found = f; line = l }) (record { found = g; line = m }) ≡ true → f ≡ g
found_same None None l m same = refl
found_same (Some d) (Some e) l m same = ap Some (durable_same d e (both _ _ same).0)
found_same f g l m same = never same

pub equal-answer : (a b : Answer) → answer.ghosts.eq a b ≡ true → a ≡ b
equal-answer a b same =
    let line : a.line ≡ b.line = equal-printed a.line b.line (both _ _ same).1 in
    ap (λ f. let r : Answer = record { found = f; line = a.line } in r) (found_same a.found b.found a.line b.line same) ∙ ap (λ l. let r : Answer = record { found = b.found; line = l } in r) line
