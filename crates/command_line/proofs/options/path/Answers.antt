use Rattle.std.proofs.Common.{◌≡◌, ◌∙◌, Bool, ap, ap₂, Option}
use Rattle.clap.specs.{Words.{Rule, rule_of}, declared.builder.{arg.Arg.Arg, value_parser.ValueParser.ValueParser}}
use Rattle.command_line.specs.Options.{value_rule}
use Rattle.command_line.proofs.options.path.Goals as goal

abbrev is_global : Arg → Bool
is_global a = a.global

pub returns-clause-rule : goal.returns-clause-rule
returns-clause-rule c =
    let p1 : rule_of c.value_parser.result ≡ value_rule c.args.id.now c.value_parser.ensures.given.0 =
    ap rule_of c.value_parser.ensures.others ∙ ap₂ (λ (r : Rule) (p : Option ValueParser). record r { parser = p }) c.option.ensures.rule c.value_parser.ensures.given.1 in
    p1 ∙ ap (value_rule c.args.id.now) c.value_parser.ensures.given.2

pub returns-clause-local : goal.returns-clause-local
returns-clause-local c = ap is_global c.value_parser.ensures.others ∙ c.option.ensures.local
