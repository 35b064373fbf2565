use Rattle.debug_session.proofs.Timelines.{line_at, line_moves}
use Rattle.std.proofs.Common.{refl}
use Rattle.debug_session.proofs.timeline.Timeline.whole_line.Goals as goal

pub returns-in-Ok-clause-at : goal.returns-in-Ok-clause-at
returns-in-Ok-clause-at g c =
    let ran = c.in-Ok.ensures in
    let noted = c.noted.ensures in
    line_at c.args.setting.now.shape.now c.args.line c.in-Ok.answer c.noted.result c.args.self.now c.noted.new.self c.run.new.self c.requires.at c.requires.range ran.reported ran.sound ran.fill noted.bench noted.begins noted.grew noted.apart

pub returns-in-Ok-clause-moves : goal.returns-in-Ok-clause-moves
returns-in-Ok-clause-moves g c =
    let noted = c.noted.ensures in
    line_moves c.args.setting.now.shape.now c.args.line c.in-Ok.answer c.noted.result c.args.self.now c.noted.new.self c.run.new.self c.in-Ok.ensures.reported noted.bench noted.begins noted.answer noted.grew noted.apart

pub returns-in-Ok-clause-grew : goal.returns-in-Ok-clause-grew
returns-in-Ok-clause-grew g c = c.noted.ensures.grew

pub returns-in-Ok-clause-begins : goal.returns-in-Ok-clause-begins
returns-in-Ok-clause-begins g c = c.noted.ensures.begins

pub returns-in-Err-clause-at : goal.returns-in-Err-clause-at
returns-in-Err-clause-at g c = tt

pub returns-in-Err-clause-moves : goal.returns-in-Err-clause-moves
returns-in-Err-clause-moves g c = tt

pub returns-in-Err-clause-grew : goal.returns-in-Err-clause-grew
returns-in-Err-clause-grew g c = tt

pub returns-in-Err-clause-begins : goal.returns-in-Err-clause-begins
returns-in-Err-clause-begins g c = refl

pub run-requires-clause-range : goal.run-requires-clause-range
run-requires-clause-range g c κs within = c.requires.range

pub run-requires-clause-sound : goal.run-requires-clause-sound
run-requires-clause-sound g c κs within = c.requires.at.sound
