use Rattle.std.{proofs.{Common.{rules, tests}, lemmas.Iterator.{YieldsList-from_take, Consumers.map_from_collect}}, specs.Prelude.{◌==◌}}
use Rattle.std.proofs.lemmas.Iterator.Splits.{YieldsList-from_slice_split}
use Rattle.script_lang.proofs.scripts.first_parts.Goals as goal

pub returns : goal.returns
returns c =
    let source = c.take.ensures.source in
    let rest = c.split.ensures.rest in
    let done = c.split.ensures.done in
    let closure = c.split.ensures.closure in
    map_from_collect _ c.collect.ensures.ran (YieldsList-from_take 65538 (YieldsList-from_slice_split _ (λ b. b == 10) c.args.script.now (cc) (cc) (cc) (λ x b q k. search (rules, tests))) c.take.ensures.count)
