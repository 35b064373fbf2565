use Rattle.std.proofs.Common.{arith}
use Rattle.bench_report.specs.Bench.{bench_with}
use Rattle.bench_schedules.proofs.Lines.{few_next, goes_alike, goes_apart, goes_begun, place_within, went_alike}
use Rattle.bench_schedules.proofs.runs.run_lines.Goals as goal

pub loop-line-init : goal.loop-line-init
loop-line-init g c = record {
  sound = c.requires.sound;
  count = omega (arith, c.requires.count);
  goes = λ start shows. goes_begun c.args.setting.now.shape.now start c.args.live.now shows;
}

pub next_place-requires : goal.next_place-requires
next_place-requires g c = place_within c.args.lines.now c.loop-line.line-index c.line-item.result c.args.own.now c.loop-line.place c.loop-line-test.true c.line-item.is c.loop-line.invariant.count

pub loop-line-preserved : goal.loop-line-preserved
loop-line-preserved g c =
    let size = c.args.setting.now.shape.now in
    let ls = c.args.lines.now in
    let k = c.loop-line.line-index in
    let line = c.line-item.result in
    let i = c.loop-line.invariant in
    let answer = c.in_ok-answer.answer in
    let within = place_within ls k line c.args.own.now c.loop-line.place c.loop-line-test.true c.line-item.is i.count in
    record {
      sound = c.in_ok-answer.ensures.sound;
      count = few_next ls k line answer c.args.own.now c.loop-line.place c.in-Ok.next c.loop-line-test.true c.line-item.is i.count c.in-Ok.ensures.alike;
      goes = λ start shows.
          goes_alike size (bench_with start) ls k c.args.own.now c.loop-line.place c.in-Ok.next c.loop-line.live c.run_line.new.live line answer c.loop-line-test.true c.line-item.is within (i.goes start shows)
          c.in_ok-answer.ensures.stepped c.in-Ok.ensures.alike;
    }

pub returns-in-Err-clause-went : goal.returns-in-Err-clause-went
returns-in-Err-clause-went g c =
    let ls = c.args.lines.now in
    let k = c.loop-line.line-index in
    let line = c.line-item.result in
    let i = c.loop-line.invariant in
    let within = place_within ls k line c.args.own.now c.loop-line.place c.loop-line-test.true c.line-item.is i.count in
    λ start shows.
    goes_apart c.args.setting.now.shape.now start ls k c.args.own.now c.loop-line.place c.loop-line.live c.run_line.new.live line c.in_ok-answer.answer c.in-Err.difference c.loop-line-test.true c.line-item.is within
    (i.goes start shows) c.in_ok-answer.ensures.stepped c.in-Err.ensures.apart

pub returns-clause-went : goal.returns-clause-went
returns-clause-went g c = λ start shows.
    let i = c.loop-line.invariant in
    went_alike c.args.setting.now.shape.now start c.args.lines.now c.loop-line.line-index c.args.own.now c.loop-line.place c.loop-line.live (omega (arith, c.loop-line-test.false)) i.count (i.goes start shows)
