use Rattle.std.proofs.Common.{◌≤◌, ◌<◌, ◌-◌, true, false, length, take}
use Rattle.sbigdb.specs.Strikes.{ArmedAfter}
use Rattle.sbigdb.proofs.strikes.struck_line.Given as goal

abbrev pub invariant-loop-low : goal.invariant-loop-low
invariant-loop-low g l = record {
  less : l.low < l.high;
  few : l.high ≤ length l.lines;
  armed : ArmedAfter true l.setting.shape.now l.payloads (take l.low l.lines);
  struck : ArmedAfter false l.setting.shape.now l.payloads (take l.high l.lines);
}

abbrev pub decreases-loop-low : goal.decreases-loop-low
decreases-loop-low g l = l.high - l.low
