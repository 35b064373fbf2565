use Rattle.std.proofs.Common.{List, ℕ, [], false, sym, subst}
use Rattle.model_board.specs.{Boards.Board, Events.{TurnOn, RefusedOn}, Maps.TurnKeeps}
use Rattle.board_space.{specs.{Mapped.map_in, Rows.Stands}, proofs.{Ready.based_outside, Skipped.none_refused}}
use Rattle.board_space.proofs.space.BoardSpace.turn_at.Goals as goal

pub put_after-requires-clause-from : goal.put_after-requires-clause-from
put_after-requires-clause-from c =
    subst (λ (r : List ℕ). Stands c.args.self.now.rows r c.args.self.now.board.board) (sym c.deref.ensures.value) c.requires.at

pub invariant_of-self-clause-based : goal.invariant_of-self-clause-based
invariant_of-self-clause-based c = based_outside c.args.self.now.rows.layout (map_in c.args.self.now.map) c.put_after.new.board c.turn.new.self c.args.self.now.tracks c.put_after.ensures.based c.turn.ensures.raw
    (c.turn.ensures.outside (map_in c.args.self.now.map) (subst (λ (b : Board). TurnKeeps (map_in c.args.self.now.map) c.args.hart b) (sym (c.put_after.ensures.stands c.requires.known.0 c.requires.known.1)) (c.requires.keeps c.requires.known.0 c.requires.known.1)))

pub put-requires-clause-based : goal.put-requires-clause-based
put-requires-clause-based c = based_outside c.args.self.now.rows.layout (map_in c.args.self.now.map) c.put_after.new.board c.refused.new.self c.args.self.now.tracks c.put_after.ensures.based c.refused.ensures.raw
    (c.refused.ensures.outside (map_in c.args.self.now.map) (subst (λ (b : Board). TurnKeeps (map_in c.args.self.now.map) c.args.hart b) (sym (c.put_after.ensures.stands c.requires.known.0 c.requires.known.1)) (c.requires.keeps c.requires.known.0 c.requires.known.1)))

pub invariant_of-self-then-not-refused-clause-based : goal.invariant_of-self-then-not-refused-clause-based
invariant_of-self-then-not-refused-clause-based c = based_outside c.args.self.now.rows.layout (map_in c.args.self.now.map) c.put_after.new.board c.refused.new.self c.args.self.now.tracks c.put_after.ensures.based c.refused.ensures.raw
    (c.refused.ensures.outside (map_in c.args.self.now.map) (subst (λ (b : Board). TurnKeeps (map_in c.args.self.now.map) c.args.hart b) (sym (c.put_after.ensures.stands c.requires.known.0 c.requires.known.1)) (c.requires.keeps c.requires.known.0 c.requires.known.1)))

pub invariant_of-self-2-clause-based : goal.invariant_of-self-2-clause-based
invariant_of-self-2-clause-based c = based_outside c.args.self.now.rows.layout (map_in c.args.self.now.map) c.put.new.board c.turn-2.new.self c.args.self.now.tracks c.put.ensures.based c.turn-2.ensures.raw
    (c.turn-2.ensures.outside (map_in c.args.self.now.map) (subst (λ (b : Board). TurnKeeps (map_in c.args.self.now.map) c.args.hart b) (sym (c.put.ensures.stands c.requires.known.0 c.requires.known.1)) (c.requires.keeps c.requires.known.0 c.requires.known.1)))

pub returns-then-not-self-clause-turn : goal.returns-then-not-self-clause-turn
returns-then-not-self-clause-turn c b stands =
    subst (λ (e : Board). TurnOn c.args.hart e c.turn.new.self.board) (c.put_after.ensures.stands b stands) (c.turn.ensures.turns [])

pub returns-then-not-self-clause-asks : goal.returns-then-not-self-clause-asks
returns-then-not-self-clause-asks c is b stands down d happens = cc (happens.0.1, c.if-not-self.true)

pub returns-then-not-refused-clause-turn : goal.returns-then-not-refused-clause-turn
returns-then-not-refused-clause-turn c b stands =
    subst (λ (e : Board). TurnOn c.args.hart e c.refused.new.self.board) (c.put_after.ensures.stands b stands) (c.refused.ensures.turns c.if-not-refused.true [])

pub returns-then-not-refused-clause-asks : goal.returns-then-not-refused-clause-asks
returns-then-not-refused-clause-asks c is b stands down d happens =
    none_refused c.args.hart b
    (λ e did. c.refused.ensures.never c.if-not-refused.true [] e (subst (λ (a : Board). RefusedOn c.args.hart false a e) (sym (c.put_after.ensures.stands b stands)) did))
    down d happens.1

pub returns-clause-turn : goal.returns-clause-turn
returns-clause-turn c b stands =
    subst (λ (e : Board). TurnOn c.args.hart e c.turn-2.new.self.board) (c.put.ensures.stands b stands) (c.turn-2.ensures.turns [])
