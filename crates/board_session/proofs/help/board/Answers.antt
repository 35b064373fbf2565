use Rattle.std.proofs.{Common.{◌≡◌, ◌∙◌, Bool, false, ap, ap₂, codes}, lemmas.Result.IfOk-weaker}
use Rattle.clap.specs.{Words.{rule_of, with_rule}, declared.builder.arg.Arg.Arg}
use Rattle.command_line.specs.Options.{path_rule}
use Rattle.board_session.specs.Usage.{required}
use Rattle.board_session.proofs.help.board.Goals as goal

abbrev is_global : Arg → Bool
is_global a = a.global

pub returns : goal.returns
returns c =
    let disk_is : rule_of c.required.result ≡ required (path_rule (codes "disk")) = ap rule_of c.required.ensures ∙ ap required c.path.ensures.rule in
    let disk_local : c.required.result.global ≡ false = ap is_global c.required.ensures ∙ c.path.ensures.local in
    let one = c.in_ok-arg.ensures.shape disk_local ∙ ap₂ with_rule c.program.ensures disk_is in
    let two = c.in_ok-arg-2.ensures.shape c.mode.ensures.local ∙ ap₂ with_rule one c.mode.ensures.rule.2 in
    let three = c.in_ok-arg-3.ensures.shape c.flag.ensures.local ∙ ap₂ with_rule two c.flag.ensures.rule in
    IfOk-weaker c.arg-4.result _ _ (λ r h. (c.mode.ensures.rule.0, c.mode.ensures.rule.1, h.shape c.flag-2.ensures.local ∙ ap₂ with_rule three c.flag-2.ensures.rule)) c.arg-4.ensures
