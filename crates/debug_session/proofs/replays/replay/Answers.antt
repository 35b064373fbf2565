use Rattle.std.proofs.{Common.{nat_eq, sym, ◌∙◌, subst, true≢false}, lemmas.Bool.eqb-true}
use Rattle.report_lines.specs.declared.printed.Answer.{Answer}
use Rattle.bench_report.specs.{Bench.Bench, Steps.Moves, Rows.row_answer, Lives.Shows}
use Rattle.script_lang.specs.declared.line.Line.{Line}
use Rattle.debug_session.{specs.Ats.GoesOnBy, proofs.Timelines.goes_by}
use Rattle.debug_session.proofs.replays.replay.Goals as goal

pub returns-then-goes_on-clause-moves : goal.returns-then-goes_on-clause-moves
returns-then-goes_on-clause-moves g c = λ b shows.
    let size = c.args.setting.now.shape.now in
    let row = c.turns-row in
    let h = c.in-Turn.hart in
    let n = c.in-Turn.count in
    let did = row.ensures.reported size b shows in
    let goes = goes_by size h n row.result b did.0 (nat_eq c.made.result n) (λ e. sym c.goes_on.ensures ∙ c.if-goes_on.true) (λ e. sym c.made.ensures ∙ eqb-true c.made.result n e) did.1 in
    let P : Line → Type 0 = λ line. (x : Answer) × (x' : Bench) × Moves size line b x x' × Shows size x' row.new.self × GoesOnBy size (nat_eq c.made.result n) line b x' in
    subst P (sym c.in-Turn.is) (row_answer h row.result, did.0, did.2, did.3, goes)

pub returns-else-goes_on-clause-moves : goal.returns-else-goes_on-clause-moves
returns-else-goes_on-clause-moves g c = λ b shows.
    let size = c.args.setting.now.shape.now in
    let row = c.turns-row in
    let h = c.in-Turn.hart in
    let n = c.in-Turn.count in
    let did = row.ensures.reported size b shows in
    let goes = goes_by size h n row.result b did.0 c.goes_on.result (λ e. sym c.goes_on.ensures ∙ e) (λ e. absurd (true≢false (sym e ∙ c.if-goes_on.false))) did.1 in
    let P : Line → Type 0 = λ line. (x : Answer) × (x' : Bench) × Moves size line b x x' × Shows size x' row.new.self × GoesOnBy size c.goes_on.result line b x' in
    subst P (sym c.in-Turn.is) (row_answer h row.result, did.0, did.2, did.3, goes)

pub turns-row-requires-clause-sound : goal.turns-row-requires-clause-sound
turns-row-requires-clause-sound g c κs within = c.requires.sound

pub run-requires-clause-range : goal.run-requires-clause-range
run-requires-clause-range g c κs within = c.requires.range

pub run-requires-clause-sound : goal.run-requires-clause-sound
run-requires-clause-sound g c κs within = c.requires.sound

pub returns-then-goes_on-clause-sound : goal.returns-then-goes_on-clause-sound
returns-then-goes_on-clause-sound g c = c.turns-row.ensures.sound

pub returns-else-goes_on-clause-sound : goal.returns-else-goes_on-clause-sound
returns-else-goes_on-clause-sound g c = c.turns-row.ensures.sound

pub returns-in_ok-run-in_default : goal.returns-in_ok-run-in_default
returns-in_ok-run-in_default g c =
    let did = c.in_ok-run-in_default in
    record {
      moves = λ b shows. (let moved = did.ensures.reported b shows in (did.field-0, moved.0, moved.1, moved.2, tt));
      sound = did.ensures.sound;
      fill = did.ensures.fill;
    }
