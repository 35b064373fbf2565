use Rattle.std.proofs.Common.{◌∙◌, Bool, Some, ap}
use Rattle.clap.specs.{Words.{Rule, rule_of}, declared.builder.{action.ArgAction.TheVariants.Append, arg.Arg.Arg}}
use Rattle.kernel_check.proofs.help.several.Goals as goal

abbrev is_global : Arg → Bool
is_global a = a.global

pub returns-clause-rule : goal.returns-clause-rule
returns-clause-rule c = ap rule_of c.action.ensures ∙ ap (λ (r : Rule). record r { action = Some Append }) c.option.ensures.rule

pub returns-clause-local : goal.returns-clause-local
returns-clause-local c = ap is_global c.action.ensures ∙ c.option.ensures.local
