use Rattle.std.{proofs.{Common.{◌+◌, List, Option, take, refl, sym, subst}, lemmas.List.take_all}, specs.Prelude.IfSome}
use Rattle.std.proofs.lemmas.{List.Elements.All-get_or, Result.IfOk-from_err}
use Rattle.debug_session.specs.{Pasts.{moments, singles}, Notes.AreInRange, Ats.IsPlace, declared.back.TurnPlace.TurnPlace}
use Rattle.debug_session.{specs.Backs.{FoundIn, FoundOf, IsRowPast}, proofs.Backs.{found_line, later_at}}
use Rattle.bench_report.specs.Bench.{bench_with}
use Rattle.script_lang.specs.{Lines.IsLineInRange, declared.line.Line.Line}
use Rattle.debug_session.proofs.back.last_halt_along.Goals as goal

pub loop-number-init : goal.loop-number-init
loop-number-init g c = record { place = tt; found = (bench_with c.args.timeline.now.begins, refl, c.requires.shows); sound = c.requires.sound }

pub last_halt_of-requires-clause-range : goal.last_halt_of-requires-clause-range
last_halt_of-requires-clause-range g c = λ ks lives.
    let size = c.args.setting.now.shape.now in
    let lines = c.lines-lines.result.now in
    let P : Line → Type 0 = λ line. IsLineInRange size line in
    let all : AreInRange size lines = subst (AreInRange size) (sym c.lines-lines.ensures) c.requires.ranges in
    subst P (sym c.index-lines-number.is) (All-get_or (IsLineInRange size) lines c.loop-number.number c.index-lines-number.result c.loop-number-test.true all)

pub loop-number-preserved : goal.loop-number-preserved
loop-number-preserved g c =
    let size = c.args.setting.now.shape.now in
    let stops = c.args.stops.now in
    let was = c.loop-number.invariant in
    let lines = c.lines-lines.result.now in
    let i = c.loop-number.number in
    let d = c.index-lines-number.result in
    let last = c.in_ok-last.last in
    let seen = c.in_ok-last.ensures in
    let same = sym c.later_place-found.ensures in
    let P : Option TurnPlace → Type 0 = λ found. IfSome found (λ place. IsPlace place.stop.hart place.line place.turns lines) in
    let R : Line → Type 0 = λ line. IfSome last (IsRowPast line) in
    let had = was.found in
    let did = seen.found had.0 had.2 in
    let S : Line → Type 0 = λ line. FoundIn size stops last (singles line) had.0 did.0 in
    let Q : Option TurnPlace → Type 0 = λ found. FoundOf size stops found lines (moments (take (i + 1) lines)) (bench_with c.args.timeline.now.begins) did.0 in
    record {
      place = subst P same (later_at c.loop-number.found last lines i d c.loop-number-test.true was.place (subst R c.index-lines-number.is seen.row));
      found = (did.0, subst Q same (found_line size stops c.loop-number.found last lines i d (bench_with c.args.timeline.now.begins) had.0 did.0 c.loop-number-test.true had.1 (subst S c.index-lines-number.is did.1)), did.2);
      sound = seen.sound;
    }

pub returns-clause-place : goal.returns-clause-place
returns-clause-place g c =
    let P : List Line → Type 0 = λ lines. IfSome c.loop-number.found (λ place. IsPlace place.stop.hart place.line place.turns lines) in
    subst P c.lines-lines.ensures c.loop-number.invariant.place

pub returns-clause-found : goal.returns-clause-found
returns-clause-found g c =
    let size = c.args.setting.now.shape.now in
    let stops = c.args.stops.now in
    let begin = bench_with c.args.timeline.now.begins in
    let had = c.loop-number.invariant.found in
    let lines = c.lines-lines.result.now in
    let P : List Line → Type 0 = λ xs. FoundOf size stops c.loop-number.found lines (moments xs) begin had.0 in
    let Q : List Line → Type 0 = λ xs. FoundOf size stops c.loop-number.found xs (moments xs) begin had.0 in
    (had.0, subst Q c.lines-lines.ensures (subst P (take_all c.loop-number.number lines c.loop-number-test.false) had.1))

pub returns-then-swap-clause-place : goal.returns-then-swap-clause-place
returns-then-swap-clause-place g c = tt

pub returns-then-swap-clause-found : goal.returns-then-swap-clause-found
returns-then-swap-clause-found g c = tt

pub returns-in_err-last-clause-place : goal.returns-in_err-last-clause-place
returns-in_err-last-clause-place g c = IfOk-from_err c.from_residual.result _ c.from_residual.ensures.0

pub returns-in_err-last-clause-found : goal.returns-in_err-last-clause-found
returns-in_err-last-clause-found g c = IfOk-from_err c.from_residual.result _ c.from_residual.ensures.0
