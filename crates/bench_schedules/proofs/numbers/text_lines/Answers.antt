use Rattle.std.proofs.{Common.{rules, tests}, lemmas.Iterator.{Consumers.map_from_collect, Splits.YieldsList-from_slice_split}}
use Rattle.std.specs.Prelude.{◌==◌}
use Rattle.bench_schedules.proofs.numbers.text_lines.Goals as goal

pub returns : goal.returns
returns c = map_from_collect _ c.collect.ensures.ran (YieldsList-from_slice_split _ (λ b. b == 10) c.args.text.now c.split.ensures.rest c.split.ensures.done c.split.ensures.closure (λ x b q k. search (rules, tests)))
