use Rattle.std.proofs.Common.{ℕ, IsTrue, refl, subst, inl, inr}
use Rattle.model_board.{specs.Masks.map_of, proofs.ByMap.keeps_by}
use Rattle.model_board.proofs.alone.step_keeps.Goals.{then-footprint+in_ok-check_call, else-footprint}
use Rattle.model_board.proofs.alone.step_keeps.Goals as goal

pub returns-clause-keeps : goal.returns-clause-keeps
returns-clause-keeps c = λ _. keeps_by (map_of c.args.map.now) c.args.hart.now.id c.args.shape.now c.args.pending c.args.hart.now c.args.ram.now c.footprint_of-footprint.result c.footprint_of-footprint.ensures.covers
    (λ k e. subst (λ (h : ℕ). IsTrue ((map_of c.args.map.now).reads h k)) c.id.ensures (c.in_ok-check_read.ensures refl k e))
    (λ k e. subst (λ (h : ℕ). IsTrue ((map_of c.args.map.now).reads h k)) c.id-2.ensures (c.in_ok-check_read-2.ensures refl k e))
    (λ k e. subst (λ (h : ℕ). IsTrue ((map_of c.args.map.now).writes h k)) c.id-3.ensures (c.in_ok-check_write.ensures refl k e))
    (elim c.if-footprint.branch [ then-footprint+in_ok-check_call w ↦ inr (w.in_ok-check_call.ensures refl) | else-footprint w ↦ inl w.if-footprint.false ])
