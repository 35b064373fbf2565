use Rattle.std.proofs.{lemmas.Result.IfOk-weaker, Common.arith}
use Rattle.bench_sweep.proofs.chunks.RunsAtCalls.next_rows.Goals as goal

pub run_to-requires-clause-sits : goal.run_to-requires-clause-sits
run_to-requires-clause-sits g c κs within = let sits = c.requires.sits in (sits.0, c.args.self.now.site.now, sits.1)

pub rows_at-requires-clause-sits : goal.rows_at-requires-clause-sits
rows_at-requires-clause-sits g c κs within =
    let sits = c.requires.sits in
    (sits.0, c.in_ok-run_to.ensures.came sits.0 c.args.self.now.site.now sits.1)

pub returns-clause-came : goal.returns-clause-came
returns-clause-came g c = IfOk-weaker c.rows_at.result _ _ (λ rows did b told. c.rows_at.ensures.stays b (c.in_ok-run_to.ensures.came b c.args.self.now.site.now told)) c.rows_at.ensures.judged

pub returns-clause-judged : goal.returns-clause-judged
returns-clause-judged g c = IfOk-weaker c.rows_at.result _ _ (λ rows did b told. did b (c.in_ok-run_to.ensures.came b c.args.self.now.site.now told)) c.rows_at.ensures.judged

pub rows_at-requires-clause-few : goal.rows_at-requires-clause-few
rows_at-requires-clause-few g c κs within = c.requires.few

pub rows_at-requires-clause-lines : goal.rows_at-requires-clause-lines
rows_at-requires-clause-lines g c κs within = c.requires.lines

pub rows_at-requires-clause-room : goal.rows_at-requires-clause-room
rows_at-requires-clause-room g c κs within = c.requires.room

pub run_to-requires-clause-lines : goal.run_to-requires-clause-lines
run_to-requires-clause-lines g c κs within = c.requires.lines

pub returns-clause-few : goal.returns-clause-few
returns-clause-few g c = IfOk-weaker c.rows_at.result _ _ (λ rows did. omega (arith, c.rows_at.ensures.count, c.in_ok-run_to.ensures.few, c.line_of-next.ensures.few)) c.rows_at.ensures.judged
