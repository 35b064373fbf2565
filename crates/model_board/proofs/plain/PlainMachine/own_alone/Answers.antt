use Rattle.std.proofs.Common.{refl, ap}
use Rattle.hart.specs.State.{ArchState}
use Rattle.model_board.{specs.Masks.map_of, proofs.{ByMap.{machine_moves, machine_steps, alone_stays}, Kept.plain_with}}
use Rattle.model_board.proofs.plain.PlainMachine.own_alone.Goals as goal

pub invariant_of-self : goal.invariant_of-self
invariant_of-self c =
    let k = alone_stays (map_of c.args.map.now) _ _ _ _ _ _ _ c.step_alone.ensures.alone c.step_alone.ensures.stays in
    plain_with _ _ _ _ _ _ _ _ _ _ _ _ c.self.view_is c.self.invariant c.index.ensures.value c.requires.known c.index_mut-own.ensures.value k.number refl k.memory

pub returns-clause-local : goal.returns-clause-local
returns-clause-local c = λ e. machine_moves (map_of c.args.map.now) _ _ _ _ _ _ _ c.self.view_is c.self.invariant c.requires.known _ _ _ _ _ c.index.ensures.value c.index_mut-own.ensures.value c.requires.awake (c.is_started.ensures.0 c.if-not-is_started.false) c.is_pending-pending.ensures (c.step_alone.ensures.alone e) (λ is. c.step_alone.ensures.moves e (ap (λ (s : ArchState). s.pc) is))

pub returns-clause-moves : goal.returns-clause-moves
returns-clause-moves c = λ e. machine_steps (map_of c.args.map.now) _ _ _ _ _ _ _ c.self.view_is c.self.invariant c.requires.known _ _ _ c.step_alone.new.ram c.index.ensures.value c.index_mut-own.ensures.value (c.step_alone.ensures.moves e)
