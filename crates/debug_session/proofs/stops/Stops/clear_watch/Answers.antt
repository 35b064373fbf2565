use Rattle.std.proofs.{Common.rules, lemmas.Fn.filter_same}
use Rattle.debug_session.proofs.stops.Stops.clear_watch.Goals as goal

pub returns-clause-watches : goal.returns-clause-watches
returns-clause-watches c = filter_same _ _ _ (λ x b f' k. search rules) _ _ c.retain.ensures.filtered
