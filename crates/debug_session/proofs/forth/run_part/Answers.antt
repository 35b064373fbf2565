use Rattle.std.proofs.Common.{List, ℕ, subst}
use Rattle.debug_session.{specs.{declared.forth.RoundPart.RoundPart, Firsts.{Stretched, ToHalt}}, proofs.Firsts.{ok_more, stretch_halts}}
use Rattle.debug_session.proofs.Wents.{went_of, few_of}
use Rattle.board_model.proofs.Exits.{ok_with}
use Rattle.debug_session.proofs.forth.run_part.Goals as goal

pub returns-else-watch-clause-first : goal.returns-else-watch-clause-first
returns-else-watch-clause-first g c =
    let size = c.args.setting.now.shape.now in
    let old = c.args.timeline.now in
    let new = c.stretch.new.timeline in
    let Was : RoundPart → Type 0 = λ part. Stretched size c.args.hart c.args.most c.points.result.now part.made part.rests part.halt old new in
    let Is : RoundPart → Type 0 = λ part. ToHalt size c.args.stops.now c.args.hart part.halt old new in
    ok_more c.stretch.result Was Is (λ part made. (let P : List ℕ → Type 0 = λ points. Stretched size c.args.hart c.args.most points part.made part.rests part.halt old new in stretch_halts size c.args.stops.now c.args.hart c.args.most part.made part.rests part.halt old new (c.watch.ensures c.if-watch.false) (subst P c.points.ensures made))) c.stretch.ensures.made

pub watched_part-requires-clause-at : goal.watched_part-requires-clause-at
watched_part-requires-clause-at g c κs within = c.requires.at

pub watched_part-requires-clause-hart : goal.watched_part-requires-clause-hart
watched_part-requires-clause-hart g c κs within = c.requires.hart

pub stretch-requires-clause-at : goal.stretch-requires-clause-at
stretch-requires-clause-at g c κs within = c.requires.at

pub stretch-requires-clause-hart : goal.stretch-requires-clause-hart
stretch-requires-clause-hart g c κs within = c.requires.hart

pub stretch-requires-clause-most : goal.stretch-requires-clause-most
stretch-requires-clause-most g c κs within = c.requires.most

pub returns-then-watch-clause-went : goal.returns-then-watch-clause-went
returns-then-watch-clause-went g c = c.watched_part.ensures.went

pub returns-then-watch-clause-first : goal.returns-then-watch-clause-first
returns-then-watch-clause-first g c = c.watched_part.ensures.first

pub returns-then-watch-clause-few : goal.returns-then-watch-clause-few
returns-then-watch-clause-few g c = c.watched_part.ensures.few

pub returns-else-watch-clause-went : goal.returns-else-watch-clause-went
returns-else-watch-clause-went g c = ok_with c.stretch.result _ (λ part. Stretched c.args.setting.now.shape.now c.args.hart c.args.most c.points.result.now part.made part.rests part.halt c.args.timeline.now c.stretch.new.timeline) _ (λ at part made. went_of c.args.setting.now.shape.now c.args.hart c.args.most part.made c.points.result.now part.rests part.halt c.args.timeline.now c.stretch.new.timeline at c.stretch.ensures.begins made) c.stretch.ensures.at c.stretch.ensures.made

pub returns-else-watch-clause-few : goal.returns-else-watch-clause-few
returns-else-watch-clause-few g c = ok_more c.stretch.result (λ part. Stretched c.args.setting.now.shape.now c.args.hart c.args.most c.points.result.now part.made part.rests part.halt c.args.timeline.now c.stretch.new.timeline) _ (λ part made. few_of c.args.setting.now.shape.now c.args.hart c.args.most part.made c.points.result.now part.rests part.halt c.args.timeline.now c.stretch.new.timeline made) c.stretch.ensures.made
