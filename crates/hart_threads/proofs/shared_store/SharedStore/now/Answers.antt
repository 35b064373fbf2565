use Rattle.std.proofs.Common.{List, rules, sym, subst}
use Rattle.board_model.specs.declared.durable.Entry.{Entry}
use Rattle.tallies.specs.Closed.{AreStanding}
use Rattle.store.specs.Views.{journal_of, now_state}
use Rattle.hart_threads.proofs.Naming.{shown_as}
use Rattle.hart_threads.proofs.shared_store.SharedStore.now.Goals as goal

pub returns-clause-may : goal.returns-clause-may
returns-clause-may g c =
    let old = c.args.self.now in
    let life = old.named.life in (
      journal_of old.store,
      life.taken,
      old.issued,
      subst (λ (es : List Entry). AreStanding es c.args.part.told) (sym old.tied) c.recall-part.ensures.stands,
      shown_as _ (now_state old.store) _ (search rules) life.now,
    )
