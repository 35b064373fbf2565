use Rattle.std.proofs.Common.{◌≡◌, ◌∙◌, [], ap, subst}
use Rattle.board_model.specs.{Durable.ends_life, Views.change_of, declared.durable.Command.Command}
use Rattle.planned_store.specs.{Stores.PlansCommand, declared.stores.OpenStore.OpenStore}
use Rattle.sbistore.{specs.Ends.flag_number, proofs.{Packed.some_is, Ended.{begun_command, kept_ends}}}
use Rattle.sbistore.proofs.sbistore_command.Goals as goal

pub returns-in-Ok-clause-begins : goal.returns-in-Ok-clause-begins
returns-in-Ok-clause-begins c life command kept is =
    let same = some_is _ _ (c.in-Some-store_of.ensures.exact life kept) in
    let which = some_is _ _ (c.in-Some.ensures.exact command is) in
    let plans : PlansCommand life command c.in-Ok.plan =
    subst (λ (o : OpenStore). PlansCommand o command c.in-Ok.plan) same
    (subst (λ (k : Command). PlansCommand c.in-Some-store_of.open k c.in-Ok.plan) which c.in-Ok.ensures.ok) in
    let ends : c.flag-store.result ≡ flag_number (ends_life (change_of command)) =
    c.flag-store.ensures ∙ ap flag_number (c.ends_life.ensures [] ∙ ap (λ (k : Command). ends_life (change_of k)) which) in
    begun_command life command _ c.args.store.now c.begin.new.store (kept_ends life c.args.store.now kept c.flag-store.result) c.in-Ok.plan plans c.begin.ensures ends
