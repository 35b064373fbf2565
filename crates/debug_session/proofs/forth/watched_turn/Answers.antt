use Rattle.std.proofs.{Common.{◌∙◌, List, ℕ, ap, subst, sym}, lemmas.Result.IfOk-from_err}
use Rattle.debug_session.specs.{Ats.IsAt, Lives.machine_of, Firsts.{Stretched, seen_in}, declared.timeline.Timeline.Timeline}
use Rattle.debug_session.proofs.{Firsts.{tells_on, untouched, watched_halts}, Wents.{few_of, went_of}, Withins.made_one}
use Rattle.debug_session.proofs.forth.watched_turn.Goals as goal

pub returns-clause-went : goal.returns-clause-went
returns-clause-went g c =
    let part = c.in_ok-part.part in
    let same = c.load_among-load.ensures.same in
    let T : Timeline → Type 0 = λ t. Stretched c.args.setting.now.shape.now c.args.hart 1 c.points.result.now part.made part.rests part.halt t c.stretch.new.timeline in
    let made = subst T same c.in_ok-part.ensures.made in
    went_of c.args.setting.now.shape.now c.args.hart 1 part.made c.points.result.now part.rests part.halt c.args.timeline.now c.stretch.new.timeline c.in_ok-part.ensures.at (c.stretch.ensures.begins ∙ ap (λ (t : Timeline). t.begins) same) made

pub returns-clause-one : goal.returns-clause-one
returns-clause-one g c =
    let part = c.in_ok-part.part in
    few_of c.args.setting.now.shape.now c.args.hart 1 part.made c.points.result.now part.rests part.halt c.load_among-load.new.self c.stretch.new.timeline c.in_ok-part.ensures.made

pub returns-clause-first : goal.returns-clause-first
returns-clause-first g c =
    let stops = c.args.stops.now in
    let part = c.in_ok-part.part in
    let told = c.touched_behind-touched.ensures in
    let same = c.load_among-load.ensures.same in
    let T : Timeline → Type 0 = λ t. Stretched c.args.setting.now.shape.now c.args.hart 1 c.points.result.now part.made part.rests part.halt t c.stretch.new.timeline in
    let made = subst T same c.in_ok-part.ensures.made in
    let P : List ℕ → Type 0 = λ points. Stretched c.args.setting.now.shape.now c.args.hart 1 points part.made part.rests part.halt c.args.timeline.now c.stretch.new.timeline in
    watched_halts c.args.setting.now.shape.now stops c.args.hart part.made part.rests part.halt c.halt_seen-halt.result c.load_among-load.result c.touched_behind-touched.result (seen_in c.args.before.now.items) c.args.timeline.now c.stretch.new.timeline c.load_among-load.ensures.reads (subst P c.points.ensures made) c.halt_seen-halt.ensures told.none c.requires.tells told.told

pub returns-clause-made : goal.returns-clause-made
returns-clause-made g c =
    let part = c.in_ok-part.part in
    let told = c.touched_behind-touched.ensures in
    let same = c.load_among-load.ensures.same in
    let T : Timeline → Type 0 = λ t. Stretched c.args.setting.now.shape.now c.args.hart 1 c.points.result.now part.made part.rests part.halt t c.stretch.new.timeline in
    let made = subst T same c.in_ok-part.ensures.made in
    let P : List ℕ → Type 0 = λ points. Stretched c.args.setting.now.shape.now c.args.hart 1 points part.made part.rests part.halt c.args.timeline.now c.stretch.new.timeline in
    made_one c.args.setting.now.shape.now c.args.hart part.made c.args.stops.now.points.items part.rests part.halt c.halt_seen-halt.result c.touched_behind-touched.result c.args.timeline.now c.stretch.new.timeline (subst P c.points.ensures made) c.halt_seen-halt.ensures told.none

pub returns-clause-tells : goal.returns-clause-tells
returns-clause-tells g c = λ some none.
    let told = c.touched_behind-touched.ensures in
    tells_on (machine_of c.args.timeline.now.bench) (machine_of c.stretch.new.timeline.bench) c.load_among-load.result c.args.stops.now.watches.items (seen_in c.args.before.now.items) c.requires.tells
    (sym (told.told some) ∙ untouched c.in_ok-part.part.halt c.touched_behind-touched.result (sym c.halt_seen-halt.ensures ∙ none))

pub stretch-requires-clause-at : goal.stretch-requires-clause-at
stretch-requires-clause-at g c κs within = subst (IsAt c.args.setting.now.shape.now) (sym c.load_among-load.ensures.same) c.requires.at

pub stretch-requires-clause-hart : goal.stretch-requires-clause-hart
stretch-requires-clause-hart g c κs within = c.requires.hart

pub returns-clause-at : goal.returns-clause-at
returns-clause-at g c = c.in_ok-part.ensures.at

pub returns-clause-begins : goal.returns-clause-begins
returns-clause-begins g c = c.stretch.ensures.begins ∙ ap (λ (t : Timeline). t.begins) c.load_among-load.ensures.same

pub returns-in_err-part-clause-begins : goal.returns-in_err-part-clause-begins
returns-in_err-part-clause-begins g c = c.stretch.ensures.begins ∙ ap (λ (t : Timeline). t.begins) c.load_among-load.ensures.same

pub returns-in_err-part-clause-at : goal.returns-in_err-part-clause-at
returns-in_err-part-clause-at g c = IfOk-from_err c.from_residual.result _ c.from_residual.ensures.0

pub returns-in_err-part-clause-went : goal.returns-in_err-part-clause-went
returns-in_err-part-clause-went g c = IfOk-from_err c.from_residual.result _ c.from_residual.ensures.0

pub returns-in_err-part-clause-first : goal.returns-in_err-part-clause-first
returns-in_err-part-clause-first g c = IfOk-from_err c.from_residual.result _ c.from_residual.ensures.0

pub returns-in_err-part-clause-one : goal.returns-in_err-part-clause-one
returns-in_err-part-clause-one g c = IfOk-from_err c.from_residual.result _ c.from_residual.ensures.0

pub returns-in_err-part-clause-made : goal.returns-in_err-part-clause-made
returns-in_err-part-clause-made g c = IfOk-from_err c.from_residual.result _ c.from_residual.ensures.0

pub returns-in_err-part-clause-tells : goal.returns-in_err-part-clause-tells
returns-in_err-part-clause-tells g c = IfOk-from_err c.from_residual.result _ c.from_residual.ensures.0
