use Rattle.std.{proofs.{Common.{◌≡◌, ℕ, List, take, subst}, lemmas.Result.IfOk-from_err}, specs.Prelude.{All, IfSome}}
use Rattle.bench_report.specs.{Bench.bench_with, Lives.Shows}
use Rattle.script_lang.specs.declared.line.Line.{Line}
use Rattle.debug_session.{specs.{Ats.IsPlace, Backs.IsEnd, Steps.MakesNone}, proofs.Backs.{end_first, end_found, some_more}}
use Rattle.debug_session.specs.declared.halts.HaltReason.TheVariants as halts
use Rattle.debug_session.proofs.back.place_back.Goals as goal

pub returns-in-Some-clause-end : goal.returns-in-Some-clause-end
returns-in-Some-clause-end g c =
    let size = c.args.setting.now.shape.now in
    let stops = c.args.stops.now in
    let past = c.args.timeline.now.history in
    let begin = bench_with c.args.timeline.now.begins in
    let had = rw c.in-Some.is at (rw c.in-Ended.is at (rw c.in_ok-found.was at c.last_halt_along-way.ensures.found)) in
    end_found size stops c.in-Some.place past begin had.0 had.1

pub returns-in-None-clause-end : goal.returns-in-None-clause-end
returns-in-None-clause-end g c =
    let size = c.args.setting.now.shape.now in
    let stops = c.args.stops.now in
    let past = c.args.timeline.now.history in
    let begin = bench_with c.args.timeline.now.begins in
    let had = rw c.in-None.is at (rw c.in-Ended.is at (rw c.in_ok-found.was at c.last_halt_along-way.ensures.found)) in
    let P : List Line → Type 0 = λ lines. IfSome c.first_turn.result (λ place. IsPlace place.stop.hart place.line place.turns lines) in
    let Q : List Line → Type 0 = λ lines. IfSome c.first_turn.result (λ place. (place.turns ≡ 0) × (place.stop.halt ≡ halts.Begin) × All MakesNone (take place.line lines)) in
    let same = c.lines.ensures in
    some_more c.first_turn.result (λ place. IsPlace place.stop.hart place.line place.turns past) (λ place. (place.turns ≡ 0) × (place.stop.halt ≡ halts.Begin) × All MakesNone (take place.line past)) (λ place. IsEnd size stops place past begin)
    (subst P same c.first_turn.ensures.some) (subst Q same c.first_turn.ensures.first) (λ place at first. end_first size stops place past begin had.0 at first.0 first.1 first.2 had.1)

pub last_halt_along-way-requires-clause-shows : goal.last_halt_along-way-requires-clause-shows
last_halt_along-way-requires-clause-shows g c = λ ks lives.
    let P : List (List ℕ) → Type 0 = λ begins. Shows c.args.setting.now.shape.now (bench_with begins) c.in_ok-bench.bench in
    subst P c.begins.ensures c.in_ok-bench.ensures.shows

pub last_halt_along-way-requires-clause-ranges : goal.last_halt_along-way-requires-clause-ranges
last_halt_along-way-requires-clause-ranges g c κs within = c.requires.ranges

pub last_halt_along-way-requires-clause-sound : goal.last_halt_along-way-requires-clause-sound
last_halt_along-way-requires-clause-sound g c κs within = c.in_ok-bench.ensures.sound

pub returns-in_default-clause-place : goal.returns-in_default-clause-place
returns-in_default-clause-place g c = tt

pub returns-in_default-clause-end : goal.returns-in_default-clause-end
returns-in_default-clause-end g c = tt

pub returns-in_default-clause-none : goal.returns-in_default-clause-none
returns-in_default-clause-none g c = tt

pub returns-in-Some-clause-none : goal.returns-in-Some-clause-none
returns-in-Some-clause-none g c = tt

pub returns-in_err-found-clause-place : goal.returns-in_err-found-clause-place
returns-in_err-found-clause-place g c = IfOk-from_err c.from_residual-in_err-found.result _ c.from_residual-in_err-found.ensures.0

pub returns-in_err-found-clause-end : goal.returns-in_err-found-clause-end
returns-in_err-found-clause-end g c = IfOk-from_err c.from_residual-in_err-found.result _ c.from_residual-in_err-found.ensures.0

pub returns-in_err-found-clause-none : goal.returns-in_err-found-clause-none
returns-in_err-found-clause-none g c = IfOk-from_err c.from_residual-in_err-found.result _ c.from_residual-in_err-found.ensures.0

pub returns-in_err-bench-clause-place : goal.returns-in_err-bench-clause-place
returns-in_err-bench-clause-place g c = IfOk-from_err c.from_residual.result _ c.from_residual.ensures.0

pub returns-in_err-bench-clause-end : goal.returns-in_err-bench-clause-end
returns-in_err-bench-clause-end g c = IfOk-from_err c.from_residual.result _ c.from_residual.ensures.0

pub returns-in_err-bench-clause-none : goal.returns-in_err-bench-clause-none
returns-in_err-bench-clause-none g c = IfOk-from_err c.from_residual.result _ c.from_residual.ensures.0
