use Rattle.std.proofs.Common.{◌∙◌, Bool, ap, ap₂, Option}
use Rattle.clap.specs.{Words.{Rule, rule_of}, declared.builder.{arg.Arg.Arg, value_parser.ValueParser.ValueParser}}
use Rattle.command_line.specs.Options.{value_rule}
use Rattle.bench_program.proofs.usage.count.Goals as goal

abbrev is_global : Arg → Bool
is_global a = a.global

pub returns-clause-rule : goal.returns-clause-rule
returns-clause-rule c =
    ap rule_of c.value_parser.ensures.others ∙ ap₂ (λ (r : Rule) (p : Option ValueParser). record r { parser = p }) c.option.ensures.rule c.value_parser.ensures.given.1
    ∙ ap (value_rule c.args.id.now) (c.value_parser.ensures.given.2 ∙ c.unsigned.ensures)

pub returns-clause-local : goal.returns-clause-local
returns-clause-local c = ap is_global c.value_parser.ensures.others ∙ c.option.ensures.local
