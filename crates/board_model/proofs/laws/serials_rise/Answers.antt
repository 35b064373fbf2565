use Rattle.std.{proofs.Common.{◌<◌, ◌≤◌, List, [], ◌∷◌, arith}, specs.Prelude.IfSome}
use Rattle.board_model.{proofs.Steps.{by_image, image_after}, specs.Durable.{DurableState, Change, after, fold, IsOrdered}}
use Rattle.board_model.proofs.laws.serials_rise.Goals as goal

rises : (s : DurableState) (cs : List Change) → IsOrdered s → (s.next ≤ (fold s cs).next) × IsOrdered (fold s cs)
rises s [] ordered = (omega arith, ordered)
rises s (c ∷ cs) ordered =
    let one = image_after (λ n i. (s.next ≤ n) × IfSome i (λ i. i.serial < n)) s c (by_image c) (λ i is. (omega arith, omega arith)) (omega arith, tt) (omega arith, ordered) in
    let more = rises (after s c) cs one.1 in
    (omega (arith, one.0, more.0), more.1)

pub returns : goal.returns
returns c = rises
