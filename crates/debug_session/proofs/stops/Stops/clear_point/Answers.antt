use Rattle.std.proofs.{Common.rules, lemmas.Fn.filter_same}
use Rattle.debug_session.proofs.stops.Stops.clear_point.Goals as goal

pub returns-clause-points : goal.returns-clause-points
returns-clause-points c = filter_same _ _ _ (λ x b f' k. search rules) _ _ c.retain.ensures.filtered
