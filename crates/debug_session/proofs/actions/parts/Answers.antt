use Rattle.std.proofs.{Common.{rules, tests}, lemmas.Iterator.{Consumers.map_from_collect, Splits.YieldsList-from_slice_split}}
use Rattle.std.specs.Prelude.{◌==◌}
use Rattle.debug_session.proofs.actions.parts.Goals as goal

pub returns : goal.returns
returns c = map_from_collect _ c.collect.ensures.ran (YieldsList-from_slice_split _ (λ b. b == 59) c.args.word.now c.split.ensures.rest c.split.ensures.done c.split.ensures.closure (λ x b q k. search (rules, tests)))
