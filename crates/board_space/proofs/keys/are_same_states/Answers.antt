use Rattle.std.proofs.{Common.{sym, ◌∙◌, arith}, lemmas.List.ext_get_or}
use Rattle.hsm.specs.declared.standings.Standing.TheVariants.{Stopped}
use Rattle.board_space.proofs.keys.are_same_states.Goals as goal

pub returns : goal.returns
returns c is = ext_get_or Stopped c.args.others.now c.args.states.now (c.type_inv.others ∙ sym c.type_inv.states) (λ k low. c.loop-place.invariant k (omega (arith, c.type_inv.others)))
