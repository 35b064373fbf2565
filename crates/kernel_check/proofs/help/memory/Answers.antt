use Rattle.std.proofs.Common.{◌∙◌, Bool, [], ◌∷◌, ap, codes}
use Rattle.clap.specs.{Words.{Rule, rule_of}, declared.builder.arg.Arg.Arg}
use Rattle.kernel_check.proofs.help.memory.Goals as goal

abbrev is_global : Arg → Bool
is_global a = a.global

pub returns-clause-rule : goal.returns-clause-rule
returns-clause-rule c =
    ap rule_of c.default_value.ensures ∙ ap (λ (r : Rule). record r { defaults = codes "4G" ∷ [] }) c.option.ensures.rule

pub returns-clause-local : goal.returns-clause-local
returns-clause-local c = ap is_global c.default_value.ensures ∙ c.option.ensures.local
