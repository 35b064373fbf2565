use Rattle.std.proofs.Common.{◌≡◌, ◌∙◌, Bool, Some, true, ap, codes}
use Rattle.clap.specs.{Words.{Rule, new_rule, rule_of}, declared.builder.{action.ArgAction.TheVariants.Set, arg.Arg.Arg}}
use Rattle.board_session.proofs.examiner_usage.path.Goals as goal

abbrev is_global : Arg → Bool
is_global a = a.global

pub returns-clause-rule : goal.returns-clause-rule
returns-clause-rule c =
    let m1 : rule_of c.required.result ≡ record (new_rule (codes "PATH")) { required = true } =
    ap rule_of c.required.ensures ∙ ap (λ (r : Rule). record r { required = true }) c.new.ensures.rule in
    let m2 = ap rule_of c.action.ensures ∙ ap (λ (r : Rule). record r { action = Some Set }) m1 in
    ap rule_of c.help.ensures ∙ m2

pub returns-clause-local : goal.returns-clause-local
returns-clause-local c = ap is_global c.help.ensures ∙ ap is_global c.action.ensures ∙ ap is_global c.required.ensures ∙ c.new.ensures.optional.1
