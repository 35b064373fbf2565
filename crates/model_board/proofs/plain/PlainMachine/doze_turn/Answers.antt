use Rattle.std.proofs.Common.{ℕ, ap, ◌∙◌}
use Rattle.hart.specs.State.{started}
use Rattle.model_board.proofs.Kept.{doze_plain, doze_done}
use Rattle.model_board.proofs.plain.PlainMachine.doze_turn.Goals as goal

pub invariant_of-self : goal.invariant_of-self
invariant_of-self c = doze_plain _ _ _ _ _ _ _ c.args.doze _ _ _ c.self.view_is c.self.invariant c.index-place.ensures.value c.requires (c.fresh.ensures ∙ ap (λ (a : ℕ). started c.args.hart a c.args.doze.at.opaque) c.value.ensures.value) c.take.ensures

pub returns-clause-turn : goal.returns-clause-turn
returns-clause-turn c = doze_done _ _ _ _ _ _ _ c.args.doze _ _ _ c.self.view_is c.self.invariant c.index-place.ensures.value c.requires (c.fresh.ensures ∙ ap (λ (a : ℕ). started c.args.hart a c.args.doze.at.opaque) c.value.ensures.value) c.take.ensures c.if-not-doze.false
