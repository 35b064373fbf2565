use Rattle.std.proofs.Common.{◌≡◌, ◌∙◌, ◌<◌, ◌+◌, ◌++◌, ◌∷◌, [], List, Some, true, false, ap, get_or, length, subst, sym, take}
use Rattle.script_lang.specs.declared.line.Line.{Line}
use Rattle.script_lang.specs.declared.line.Line.TheVariants as lines
use Rattle.debug_session.specs.Pasts.{some_turns}
use Rattle.sbigdb.{specs.Strikes.{ArmedAfter, count_in, hart_in}, proofs.Struck.{stop_ranged, stops_line, stops_turn}}
use Rattle.sbigdb.proofs.strikes.lines_before.Goals as goal

pub returns-in-None-clause-stops : goal.returns-in-None-clause-stops
returns-in-None-clause-stops g c =
    let size = c.args.setting.now.shape.now in
    let start = c.args.payloads.now in
    let all : List Line = c.args.lines.items in
    let p = c.in_ok-place.place in
    let next = c.index-next.result.now in
    let same : c.deref.result.now ≡ all = c.deref.ensures.value in
    let within : p < length all = subst (λ (xs : List Line). p < length xs) same c.in_ok-place.ensures.within in
    let is : next ≡ get_or all p next = c.index-next.ensures in
    let armed = subst (λ (xs : List Line). ArmedAfter true size start (take p xs)) same c.in_ok-place.ensures.armed in
    let struck = subst (λ (xs : List Line). ArmedAfter false size start (take (p + 1) xs)) same c.in_ok-place.ensures.struck in
    stops_line size start all c.truncate.new.self.items p next within is (sym c.hart_in-hart.ensures ∙ c.in-None.is) c.truncate.ensures.items armed struck

pub returns-in_ok-add_turns-in-Some-clause-stops : goal.returns-in_ok-add_turns-in-Some-clause-stops
returns-in_ok-add_turns-in-Some-clause-stops g c =
    let size = c.args.setting.now.shape.now in
    let start = c.args.payloads.now in
    let all : List Line = c.args.lines.items in
    let p = c.in_ok-place.place in
    let next = c.index-next.result.now in
    let same : c.deref.result.now ≡ all = c.deref.ensures.value in
    let within : p < length all = subst (λ (xs : List Line). p < length xs) same c.in_ok-place.ensures.within in
    let is : next ≡ get_or all p next = c.index-next.ensures in
    let h = c.in-Some.hart in
    let n = c.count_in-count.result in
    let k = c.in_ok-turns-in-Some.turns in
    let turn = c.in_ok-turns-in-Some.ensures in
    let row : hart_in next ≡ Some h = sym c.hart_in-hart.ensures ∙ c.in-Some.is in
    let many : n ≡ count_in next = c.count_in-count.ensures in
    let front : c.truncate.new.self.items ≡ take p all = c.truncate.ensures.items in
    let stands : c.add_turns.new.lines.items ≡ take p all ++ some_turns h k =
    c.in_ok-add_turns-in-Some.ensures.added ∙ ap (λ (xs : List Line). xs ++ some_turns h k) (turn.same ∙ front) in
    let armed = subst (λ (xs : List Line). ArmedAfter true size start (xs ++ some_turns h k)) front turn.armed in
    let struck = subst (λ (xs : List Line). ArmedAfter false size start (xs ++ lines.Turn h (k + 1) ∷ [])) front turn.struck in
    stops_turn size start all c.add_turns.new.lines.items p next h n k within is row many turn.within stands armed struck

pub returns-in_ok-add_turns-in-Some-clause-ranges : goal.returns-in_ok-add_turns-in-Some-clause-ranges
returns-in_ok-add_turns-in-Some-clause-ranges g c =
    let size = c.args.setting.now.shape.now in
    let start = c.args.payloads.now in
    let all : List Line = c.args.lines.items in
    let p = c.in_ok-place.place in
    let next = c.index-next.result.now in
    let same : c.deref.result.now ≡ all = c.deref.ensures.value in
    let within : p < length all = subst (λ (xs : List Line). p < length xs) same c.in_ok-place.ensures.within in
    let is : next ≡ get_or all p next = c.index-next.ensures in
    let h = c.in-Some.hart in
    let n = c.count_in-count.result in
    let k = c.in_ok-turns-in-Some.turns in
    let turn = c.in_ok-turns-in-Some.ensures in
    let row : hart_in next ≡ Some h = sym c.hart_in-hart.ensures ∙ c.in-Some.is in
    let many : n ≡ count_in next = c.count_in-count.ensures in
    let front : c.truncate.new.self.items ≡ take p all = c.truncate.ensures.items in
    let stands : c.add_turns.new.lines.items ≡ take p all ++ some_turns h k =
    c.in_ok-add_turns-in-Some.ensures.added ∙ ap (λ (xs : List Line). xs ++ some_turns h k) (turn.same ∙ front) in
    stop_ranged size all c.add_turns.new.lines.items p next h n k within is row many turn.within stands c.requires.ranges
