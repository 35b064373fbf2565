use Rattle.std.proofs.Common.{◌≡◌, ◌∙◌, [], ◌∷◌, Option, Some, ap, ap₂, codes}
use Rattle.clap.specs.{Words.{Rule, new_rule, rule_of}, declared.builder.action.ArgAction.TheVariants.Set}
use Rattle.clap.specs.declared.builder.value_parser.ValueParser.{ValueParser}
use Rattle.bench_program.proofs.usage.crew.Goals as goal

pub returns-clause-rule : goal.returns-clause-rule
returns-clause-rule c =
    let crews = c.value_parser.ensures.given.0 in
    let m1 : rule_of c.long.result ≡ record (new_rule (codes "crew")) { long = Some (codes "crew") } =
    ap rule_of c.long.ensures ∙ ap (λ (r : Rule). record r { long = Some (codes "crew") }) c.new.ensures.rule in
    let m2 = ap rule_of c.value_name.ensures ∙ ap (λ (r : Rule). record r { value_names = 1 }) m1 in
    let m3 = ap rule_of c.value_parser.ensures.others ∙ ap₂ (λ (r : Rule) (p : Option ValueParser). record r { parser = p }) m2 c.value_parser.ensures.given.1 in
    let m4 = ap rule_of c.default_value.ensures ∙ ap (λ (r : Rule). record r { defaults = codes "turns" ∷ [] }) m3 in
    let m5 = ap rule_of c.action.ensures ∙ ap (λ (r : Rule). record r { action = Some Set }) m4 in
    (crews, ap rule_of c.help.ensures ∙ m5)
