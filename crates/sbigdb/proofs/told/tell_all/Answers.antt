use Rattle.std.{proofs.Common.{subst, sym}, specs.Prelude.All}
use Rattle.script_lang.specs.Lines.{IsLineInRange}
use Rattle.sbigdb.proofs.Ranges.{both_ranged, none_ranged}
use Rattle.sbigdb.proofs.told.tell_all.Goals as goal

pub returns-clause-ranges : goal.returns-clause-ranges
returns-clause-ranges c = λ size all.
    let none = subst (All (IsLineInRange size)) (sym c.requires.none) (none_ranged size) in
    let one = c.in_ok-tell.ensures.ranges size none in
    let two = c.in_ok-tell-2.ensures.ranges size one in
    let three = c.in_ok-tell-3.ensures.ranges size two in
    let four = c.in_ok-tell-4.ensures.ranges size three in
    subst (All (IsLineInRange size)) (sym c.in_ok-append.ensures.items) (both_ranged size _ c.args.lines.now.items four all)
