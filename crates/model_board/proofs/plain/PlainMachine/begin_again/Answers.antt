use Rattle.std.proofs.Common.{arith}
use Rattle.model_board.proofs.Begins.{again_low, again_plain}
use Rattle.model_board.proofs.plain.PlainMachine.begin_again.Goals as goal

pub index_mut-requires : goal.index_mut-requires
index_mut-requires c =
    let low = again_low _ _ _ _ _ _ _ _ _ c.self.view_is c.requires c.self.invariant c.stop_all.ensures c.index.ensures.value in
    omega (arith, low, c.stop_all.new.harts.ok.0)

pub invariant_of-self : goal.invariant_of-self
invariant_of-self c = again_plain _ _ _ _ _ _ _ _ _ _ _ _ _ c.self.view_is c.requires c.self.invariant c.stop_all.ensures c.index.ensures.value c.fresh.ensures c.reset.ensures.states
