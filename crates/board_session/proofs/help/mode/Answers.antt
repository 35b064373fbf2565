use Rattle.std.proofs.Common.{◌≡◌, ◌∙◌, Bool, Option, ap, ap₂, codes, refl}
use Rattle.clap.specs.{Words.{Rule, rule_of}, declared.builder.{arg.Arg.Arg, value_parser.ValueParser.ValueParser}}
use Rattle.command_line.specs.Options.{value_rule}
use Rattle.board_session.specs.Usage.{required}
use Rattle.board_session.proofs.help.mode.Goals as goal

abbrev is_global : Arg → Bool
is_global a = a.global

pub returns-clause-rule : goal.returns-clause-rule
returns-clause-rule c =
    let modes = c.value_parser.ensures.given.0 in
    let m1 : rule_of c.value_parser.result ≡ value_rule (codes "mode") modes =
    ap rule_of c.value_parser.ensures.others ∙ ap₂ (λ (r : Rule) (p : Option ValueParser). record r { parser = p }) c.option.ensures.rule c.value_parser.ensures.given.1 in
    (modes, rw c.value_parser.ensures.given.2 (rw c.as_slice.ensures refl), ap rule_of c.required.ensures ∙ ap required m1)

pub returns-clause-local : goal.returns-clause-local
returns-clause-local c = ap is_global c.required.ensures ∙ ap is_global c.value_parser.ensures.others ∙ c.option.ensures.local
