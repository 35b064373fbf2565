use Rattle.std.proofs.Common.{◌≡◌, ◌∙◌, true, ap}
use Rattle.clap.specs.{Simple.app_of_fields, Words.{App, app_of}}
use Rattle.command_line.specs.Programs.{named_app}
use Rattle.command_line.proofs.programs.program.Goals as goal

abbrev with_version : App → App
with_version a = record a { top = record a.top { has_version = true } }

pub returns : goal.returns
returns c =
    let named = named_app c.args.name.now in
    let a1 : app_of c.version.result ≡ named = ap app_of_fields c.version.ensures ∙ ap with_version c.new.ensures.app in
    let a2 : app_of c.override_usage.result ≡ named = ap app_of_fields c.override_usage.ensures ∙ a1 in
    let a3 : app_of c.about.result ≡ named = ap app_of_fields c.about.ensures ∙ a2 in
    ap app_of_fields c.after_help.ensures ∙ a3
