use Rattle.std.proofs.{Common.{ℕ, List, [], ◌∷◌, Vec, Global, ap, map, ◌∙◌}, lemmas.List.map-append}
use Rattle.sbigdb.proofs.talk.Talk.answer_move.Goals as goal

pub returns-clause-moved : goal.returns-clause-moved
returns-clause-moved g c =
    let items : Vec ℕ Global → List ℕ = λ v. v.items in
    let told = c.act.new.out.items in
    let answer = c.in_ok-answer.answer in
    (map items told, answer.items, ap (map items) c.in_ok-push.ensures.items ∙ map-append items told (answer ∷ []), c.in_ok-answer.ensures.moved)
