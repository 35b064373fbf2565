use Rattle.std.proofs.Common.{List, sym, subst}
use Rattle.board_model.specs.declared.durable.Entry.{Entry}
use Rattle.store.specs.Views.{life_of}
use Rattle.tallies.specs.Closed.{AreStanding}
use Rattle.hart_threads.proofs.Overs.{all_last}
use Rattle.hart_threads.proofs.unshared.Unshared.gather_told.Goals as goal

pub returns-clause-last : goal.returns-clause-last
returns-clause-last g c =
    let old = c.args.self.now in
    all_last g.J.Threaded.over old.ender (life_of old.store) c.args.part.told old.marked
    (subst (λ (es : List Entry). AreStanding es c.args.part.told) (sym old.tied) c.recall-part.ensures.stands)
