use Rattle.std.proofs.Common.{◌≡◌, ◌≤◌, ◌<◌, ◌-◌, ◌∷◌, [], ◌++◌, true, false}
use Rattle.script_lang.specs.declared.line.Line.TheVariants as lines
use Rattle.debug_session.specs.Pasts.{some_turns}
use Rattle.sbigdb.specs.Strikes.{ArmedAfter}
use Rattle.sbigdb.proofs.strikes.struck_turn.Given as goal

abbrev pub invariant-loop-low : goal.invariant-loop-low
invariant-loop-low g l = record {
  less : l.low < l.high;
  few : l.high ≤ l.count;
  same : l.front.items ≡ l.fn.front.items;
  armed : ArmedAfter true l.setting.shape.now l.payloads (l.fn.front.items ++ some_turns l.hart l.low);
  struck : ArmedAfter false l.setting.shape.now l.payloads (l.fn.front.items ++ lines.Turn l.hart l.high ∷ []);
}

abbrev pub decreases-loop-low : goal.decreases-loop-low
decreases-loop-low g l = l.high - l.low
