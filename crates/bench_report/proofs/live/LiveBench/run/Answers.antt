use Rattle.std.proofs.{Common.{◌∙◌, ap, length, sym}, lemmas.Result.IfOk-from_err}
use Rattle.bench_report.{specs.Happens.unpowered, proofs.{CutLines.{did_lost, did_whole, ran_lost, ran_whole}, Lives.{did_from, no_row}, RunLines.on_err}}
use Rattle.bench_report.proofs.live.LiveBench.run.Goals as goal

-- a row of turns
pub returns-in-Turn-clause-reported : goal.returns-in-Turn-clause-reported
returns-in-Turn-clause-reported g c = λ b shows. (let row = c.turns-row.ensures.reported c.args.setting.now.shape.now b shows in rw c.in-Turn.is (rw c.answer.ensures (row.0, row.2, row.3)))

pub returns-in-Turn-clause-well : goal.returns-in-Turn-clause-well
returns-in-Turn-clause-well g c = λ enough b shows. (let row = c.turns-row.ensures.well enough c.args.setting.now.shape.now b shows in rw c.in-Turn.is (rw c.answer.ensures (row.0, row.2, row.3, row.4)))

pub returns-in-Turn-clause-slots : goal.returns-in-Turn-clause-slots
returns-in-Turn-clause-slots g c = ap length c.turns-row.ensures.payloads

pub returns-in-Turn-clause-does : goal.returns-in-Turn-clause-does
returns-in-Turn-clause-does g c = λ b shows. rw c.in-Turn.is (rw c.answer.ensures (c.turns-row.ensures.does c.args.setting.now.shape.now b shows))

-- any other line
pub alone-requires-clause-other : goal.alone-requires-clause-other
alone-requires-clause-other g c κs within = no_row c.args.line.now c.in_default.not-Turn

-- it was refused
pub returns-in_err-answer-in_default-clause-reported : goal.returns-in_err-answer-in_default-clause-reported
returns-in_err-answer-in_default-clause-reported g c = IfOk-from_err c.from_residual.result _ c.from_residual.ensures.0

pub returns-in_err-answer-in_default-clause-well : goal.returns-in_err-answer-in_default-clause-well
returns-in_err-answer-in_default-clause-well g c = λ enough. IfOk-from_err c.from_residual.result _ c.from_residual.ensures.0

pub returns-in_err-answer-in_default-clause-does : goal.returns-in_err-answer-in_default-clause-does
returns-in_err-answer-in_default-clause-does g c = IfOk-from_err c.from_residual.result _ c.from_residual.ensures.0

pub returns-in_err-answer-in_default-clause-stopped : goal.returns-in_err-answer-in_default-clause-stopped
returns-in_err-answer-in_default-clause-stopped g c = on_err c.from_residual.result _ c.in_err-answer-in_default.ensures.stopped

pub returns-in_err-answer-in_default-clause-refused : goal.returns-in_err-answer-in_default-clause-refused
returns-in_err-answer-in_default-clause-refused g c = on_err c.from_residual.result _ c.in_err-answer-in_default.ensures.refused.0

pub returns-in_err-answer-in_default-clause-sound : goal.returns-in_err-answer-in_default-clause-sound
returns-in_err-answer-in_default-clause-sound g c = c.in_err-answer-in_default.ensures.refused.1

-- an armed cut struck within it
pub returns-then-strike-clause-reported : goal.returns-then-strike-clause-reported
returns-then-strike-clause-reported g c = λ b shows.
    let did = c.in_ok-answer-in_default.ensures.said b shows in
    let ran = ran_lost c.args.setting.now.shape.now c.args.line.now b c.in_ok-answer-in_default.answer c.alone.new.self.power c.strike.new.self.power c.alone.new.self.payloads c.strike.new.self.payloads c.strike.ensures.payloads
    c.says.result c.says.ensures (λ x at. sym (c.strike.ensures.told c.args.setting.now.shape.now x at) ∙ c.if-strike.true)
    (λ x at. c.strike.ensures.lost c.if-strike.true c.args.setting.now.shape.now x at) did.0 did.1 did.3 in
    (unpowered did.0, ran.0, ran.1)

pub returns-then-strike-clause-well : goal.returns-then-strike-clause-well
returns-then-strike-clause-well g c = λ enough b shows.
    let did = c.in_ok-answer-in_default.ensures.well (sym c.strike.ensures.memory ∙ enough) b shows in
    let ran = ran_lost c.args.setting.now.shape.now c.args.line.now b c.in_ok-answer-in_default.answer c.alone.new.self.power c.strike.new.self.power c.alone.new.self.payloads c.strike.new.self.payloads c.strike.ensures.payloads
    c.says.result c.says.ensures (λ x at. sym (c.strike.ensures.told c.args.setting.now.shape.now x at) ∙ c.if-strike.true)
    (λ x at. c.strike.ensures.lost c.if-strike.true c.args.setting.now.shape.now x at) did.0 did.1 did.3 in
    (unpowered did.0, ran.0, ran.1, did.4)

pub returns-then-strike-clause-does : goal.returns-then-strike-clause-does
returns-then-strike-clause-does g c = λ b shows.
    let did = c.in_ok-answer-in_default.ensures.said b shows in
    let cut = c.strike.ensures.exact c.if-strike.true in
    did_from c.args.setting.now.shape.now c.args.line.now c.alone.new.self.fill _ b _ c.args.self.now.power c.strike.new.self.power c.strike.ensures.fill
    (did_lost c.args.setting.now.shape.now c.args.line.now b c.in_ok-answer-in_default.answer c.alone.new.self.power c.strike.new.self.power c.alone.new.self.payloads c.strike.new.self.payloads c.strike.ensures.payloads
    c.says.result c.says.ensures (λ x at. sym (c.strike.ensures.told c.args.setting.now.shape.now x at) ∙ c.if-strike.true)
    c.alone.new.self.fill c.args.self.now.power cut.0 cut.1 cut.2 shows.2 did.0 did.1 did.3)

pub returns-then-strike-clause-sound : goal.returns-then-strike-clause-sound
returns-then-strike-clause-sound g c = c.strike.ensures.sound

pub returns-then-strike-clause-fill : goal.returns-then-strike-clause-fill
returns-then-strike-clause-fill g c = c.strike.ensures.fill ∙ c.alone.ensures.fill

pub returns-then-strike-clause-slots : goal.returns-then-strike-clause-slots
returns-then-strike-clause-slots g c = ap length c.strike.ensures.payloads ∙ c.alone.ensures.slots

-- none did
pub returns-else-strike-clause-reported : goal.returns-else-strike-clause-reported
returns-else-strike-clause-reported g c = λ b shows.
    let did = c.in_ok-answer-in_default.ensures.said b shows in
    let ran = ran_whole c.args.setting.now.shape.now c.args.line.now b c.in_ok-answer-in_default.answer c.alone.new.self.power c.strike.new.self.power c.alone.new.self.payloads c.strike.new.self.payloads c.strike.ensures.payloads
    (c.strike.ensures.kept c.if-strike.false) (λ x at. sym (c.strike.ensures.told c.args.setting.now.shape.now x at) ∙ c.if-strike.false) did.0 did.1 did.3 in
    (did.0, ran.0, ran.1)

pub returns-else-strike-clause-well : goal.returns-else-strike-clause-well
returns-else-strike-clause-well g c = λ enough b shows.
    let did = c.in_ok-answer-in_default.ensures.well (sym c.strike.ensures.memory ∙ enough) b shows in
    let ran = ran_whole c.args.setting.now.shape.now c.args.line.now b c.in_ok-answer-in_default.answer c.alone.new.self.power c.strike.new.self.power c.alone.new.self.payloads c.strike.new.self.payloads c.strike.ensures.payloads
    (c.strike.ensures.kept c.if-strike.false) (λ x at. sym (c.strike.ensures.told c.args.setting.now.shape.now x at) ∙ c.if-strike.false) did.0 did.1 did.3 in
    (did.0, ran.0, ran.1, did.4)

pub returns-else-strike-clause-does : goal.returns-else-strike-clause-does
returns-else-strike-clause-does g c = λ b shows.
    let did = c.in_ok-answer-in_default.ensures.said b shows in
    did_whole c.args.setting.now.shape.now c.args.line.now b c.in_ok-answer-in_default.answer c.alone.new.self.power c.strike.new.self.power c.alone.new.self.payloads c.strike.new.self.payloads c.strike.ensures.payloads
    (c.strike.ensures.kept c.if-strike.false) (λ x at. sym (c.strike.ensures.told c.args.setting.now.shape.now x at) ∙ c.if-strike.false)
    c.strike.new.self.fill c.args.self.now.power c.in_ok-answer-in_default.ensures.does did.0 did.1 did.3

pub returns-else-strike-clause-sound : goal.returns-else-strike-clause-sound
returns-else-strike-clause-sound g c = c.strike.ensures.sound

pub returns-else-strike-clause-fill : goal.returns-else-strike-clause-fill
returns-else-strike-clause-fill g c = c.strike.ensures.fill ∙ c.alone.ensures.fill

pub returns-else-strike-clause-slots : goal.returns-else-strike-clause-slots
returns-else-strike-clause-slots g c = ap length c.strike.ensures.payloads ∙ c.alone.ensures.slots
