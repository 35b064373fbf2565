use Rattle.store.specs.Views.{journal_of}
use Rattle.hart_threads.proofs.Overs.{if_there, last_is_end}
use Rattle.hart_threads.proofs.unshared.Unshared.ended_by.Goals as goal

pub is_used-requires : goal.is_used-requires
is_used-requires g c = let old = c.args.self.now in if_there _ old.ender (λ w e. let is = old.marked.going w e in (is.0, is.1))

pub returns-clause-end : goal.returns-clause-end
returns-clause-end g c =
    let old = c.args.self.now in
    last_is_end (journal_of old.store) old.count _ (old.marked.ended c.is_used.ensures.0).1 c.in-Some.ensures.some
