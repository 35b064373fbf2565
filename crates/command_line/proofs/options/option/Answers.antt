use Rattle.std.proofs.Common.{◌≡◌, ◌∙◌, Bool, Some, ap}
use Rattle.clap.specs.{Words.{Rule, new_rule, rule_of}, declared.builder.{action.ArgAction.TheVariants.Set, arg.Arg.Arg}}
use Rattle.command_line.proofs.options.option.Goals as goal

abbrev is_global : Arg → Bool
is_global a = a.global

pub returns-clause-rule : goal.returns-clause-rule
returns-clause-rule c =
    let m1 : rule_of c.long.result ≡ record (new_rule c.args.id.now) { long = Some c.args.id.now } =
    ap rule_of c.long.ensures ∙ ap (λ (r : Rule). record r { long = Some c.args.id.now }) c.new.ensures.rule in
    let m2 = ap rule_of c.value_name.ensures ∙ ap (λ (r : Rule). record r { value_names = 1 }) m1 in
    let m3 = ap rule_of c.action.ensures ∙ ap (λ (r : Rule). record r { action = Some Set }) m2 in
    ap rule_of c.help.ensures ∙ m3

pub returns-clause-local : goal.returns-clause-local
returns-clause-local c =
    ap is_global c.help.ensures ∙ ap is_global c.action.ensures ∙ ap is_global c.value_name.ensures ∙ ap is_global c.long.ensures ∙ c.new.ensures.optional.1
