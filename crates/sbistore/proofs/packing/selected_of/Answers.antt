use Rattle.std.proofs.Common.{◌≡◌, ◌∙◌, ℕ, Some, sym, ap, subst}
use Rattle.board_model.specs.Shapes.{Size}
use Rattle.layout.specs.{Records.IsInRange, declared.records.Record.Record}
use Rattle.sbistore.proofs.Packed.{some_is}
use Rattle.sbistore.proofs.packing.selected_of.Goals as goal

pub returns-in_err-live-clause-exact : goal.returns-in_err-live-clause-exact
returns-in_err-live-clause-exact c found has =
    let shape : c.in_ok-shape.shape ≡ found.shape = some_is _ _ (c.in_ok-shape.ensures.exact found.shape has.shape) in
    let there = c.record_in.ensures.exact found.live (subst (λ (z : Size). IsInRange z found.live) (sym shape) has.range, has.live) in
    let none = c.in_err-live.was in
    cc

pub returns-clause-exact : goal.returns-clause-exact
returns-clause-exact c found has =
    let shape : c.in_ok-shape.shape ≡ found.shape = some_is _ _ (c.in_ok-shape.ensures.exact found.shape has.shape) in
    let live : c.in_ok-live.live ≡ found.live = some_is _ _ (c.in_ok-live.ensures.exact found.live (subst (λ (z : Size). IsInRange z found.live) (sym shape) has.range, has.live)) in
    let side : c.in_ok-side.side ≡ found.side = c.in_ok-side.ensures.some.0 ∙ has.side in
    ap (λ (z : Size). Some (record { shape = z; side = c.in_ok-side.side; live = c.in_ok-live.live })) shape
    ∙ ap (λ (k : ℕ). Some (record { shape = found.shape; side = k; live = c.in_ok-live.live })) side
    ∙ ap (λ (r : Record). Some (record { shape = found.shape; side = found.side; live = r })) live
