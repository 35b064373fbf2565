use Rattle.std.proofs.Common.{◌≡◌, ◌∙◌, ◌++◌, ◌∷◌, [], List, true, sym, ap, subst}
use Rattle.board_model.specs.declared.durable.{Command.Command, Entry.Entry}
use Rattle.board_model.specs.declared.durable.Entry.TheVariants as entries
use Rattle.store.specs.{Entries.are_plain, Journals.{command_in, entries_in}, declared.journals.Kept.Kept}
use Rattle.store.proofs.Entering.{command_more, suspension_more}
use Rattle.store.proofs.journals.Journal.push.Goals as goal

pub returns-in-Command : goal.returns-in-Command
returns-in-Command c =
    let j = c.self.inside in
    let plain = subst (λ (es : List Entry). are_plain es ≡ true) (sym c.self.view_is) c.requires.plain in
    let entry : entries.Command c.in-Command.command ≡ c.args.entry = sym c.in-Command.is in
    ap (λ (ks : List Kept). entries_in ks j.suspended) c.push_reserved.ensures.items
    ∙ command_more j.commands.items c.packed.result j.suspended plain
    ∙ ap (λ (es : List Entry). es ++ entries.Command (command_in c.packed.result) ∷ []) c.self.view_is
    ∙ ap (λ (x : Command). c.args.self.now ++ entries.Command x ∷ []) c.packed.ensures
    ∙ ap (λ (e : Entry). c.args.self.now ++ e ∷ []) entry

pub returns-in-Suspend : goal.returns-in-Suspend
returns-in-Suspend c =
    let j = c.self.inside in
    let plain = subst (λ (es : List Entry). are_plain es ≡ true) (sym c.self.view_is) c.requires.plain in
    suspension_more j.commands.items j.suspended (record { hart = c.in-Suspend.hart; address = c.in-Suspend.address; opaque = c.in-Suspend.opaque }) plain
    ∙ ap (λ (es : List Entry). es ++ entries.Suspend c.in-Suspend.hart c.in-Suspend.address c.in-Suspend.opaque ∷ []) c.self.view_is
    ∙ ap (λ (e : Entry). c.args.self.now ++ e ∷ []) (sym c.in-Suspend.is)
