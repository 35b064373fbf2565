use Rattle.std.proofs.Common.{◌≡◌, ◌∙◌, ◌+◌, [], All, length, sym, ap, subst}
use Rattle.board_model.specs.declared.durable.Entry.{Entry}
use Rattle.tallies.specs.declared.book_views.BookView.{BookView}
use Rattle.hart_threads.proofs.UntoldParts.{all_rest, first_told, one_off}
use Rattle.hart_threads.proofs.unshared.Unshared.hand_out.Goals as goal

pub returns-clause-rest : goal.returns-clause-rest
returns-clause-rest g c =
    let old = c.args.self.now.keeper in
    ap (λ (v : BookView Entry). length v.parts + 1) c.hand_out.ensures.keeper ∙ one_off old.parts c.requires.some

pub returns-clause-fresh : goal.returns-clause-fresh
returns-clause-fresh g c =
    let old = c.args.self.now.keeper in
    subst (λ (v : BookView Entry). All (λ d. d.told ≡ []) v.parts) (sym c.hand_out.ensures.keeper) (all_rest old.parts c.requires.fresh)

pub returns-clause-told : goal.returns-clause-told
returns-clause-told g c =
    let old = c.args.self.now.keeper in
    ap (λ d. d.told) c.hand_out.ensures.part ∙ first_told old.parts c.requires.fresh
