use Rattle.std.proofs.Common.{rules, ℕ, List, [], ◌≡◌, sym, subst}
use Rattle.model_board.specs.{Boards.Board, Events.TurnOn, Maps.TurnKeeps}
use Rattle.board_space.{specs.{Mapped.map_in, OneBoard.one_board, Rows.Stands}, proofs.{Covered.change_for, Ready.based_outside}}
use Rattle.board_space.proofs.space.BoardSpace.changes.Goals as goal

pub differs-requires-clause-based : goal.differs-requires-clause-based
differs-requires-clause-based c =
    based_outside c.args.self.now.rows.layout (map_in c.args.self.now.map) c.put.new.board c.turn.new.self c.args.self.now.tracks c.put.ensures.based c.turn.ensures.raw
    (c.turn.ensures.outside (map_in c.args.self.now.map) (subst (λ (b : Board). TurnKeeps (map_in c.args.self.now.map) c.args.hart b) (sym (c.put.ensures.stands c.requires.known.0 c.requires.known.1)) (c.requires.keeps c.requires.known.0 c.requires.known.1).0))

pub row_of-requires : goal.row_of-requires
row_of-requires c =
    based_outside c.args.self.now.rows.layout (map_in c.args.self.now.map) c.put.new.board c.turn.new.self c.args.self.now.tracks c.put.ensures.based c.turn.ensures.raw
    (c.turn.ensures.outside (map_in c.args.self.now.map) (subst (λ (b : Board). TurnKeeps (map_in c.args.self.now.map) c.args.hart b) (sym (c.put.ensures.stands c.requires.known.0 c.requires.known.1)) (c.requires.keeps c.requires.known.0 c.requires.known.1).0))

pub invariant_of-self-2 : goal.invariant_of-self-2
invariant_of-self-2 c = rw c.row_of.ensures.layout (record {
  fits = c.args.self.now.fits;
  size = c.args.self.now.size;
  base = c.args.self.now.base;
  tracks = c.args.self.now.tracks;
  based = based_outside c.args.self.now.rows.layout (map_in c.args.self.now.map) c.put.new.board c.turn.new.self c.args.self.now.tracks c.put.ensures.based c.turn.ensures.raw
      (c.turn.ensures.outside (map_in c.args.self.now.map) (subst (λ (b : Board). TurnKeeps (map_in c.args.self.now.map) c.args.hart b) (sym (c.put.ensures.stands c.requires.known.0 c.requires.known.1)) (c.requires.keeps c.requires.known.0 c.requires.known.1).0));
})

pub invariant_of-self-in-Break-1 : goal.invariant_of-self-in-Break-1
invariant_of-self-in-Break-1 c = rw c.row_of.ensures.layout (record {
  fits = c.args.self.now.fits;
  size = c.args.self.now.size;
  base = c.args.self.now.base;
  tracks = c.args.self.now.tracks;
  based = based_outside c.args.self.now.rows.layout (map_in c.args.self.now.map) c.put.new.board c.turn.new.self c.args.self.now.tracks c.put.ensures.based c.turn.ensures.raw
      (c.turn.ensures.outside (map_in c.args.self.now.map) (subst (λ (b : Board). TurnKeeps (map_in c.args.self.now.map) c.args.hart b) (sym (c.put.ensures.stands c.requires.known.0 c.requires.known.1)) (c.requires.keeps c.requires.known.0 c.requires.known.1).0));
})

pub invariant_of-self-then-eq : goal.invariant_of-self-then-eq
invariant_of-self-then-eq c = rw c.row_of.ensures.layout (record {
  fits = c.args.self.now.fits;
  size = c.args.self.now.size;
  base = c.args.self.now.base;
  tracks = c.args.self.now.tracks;
  based = based_outside c.args.self.now.rows.layout (map_in c.args.self.now.map) c.put.new.board c.turn.new.self c.args.self.now.tracks c.put.ensures.based c.turn.ensures.raw
      (c.turn.ensures.outside (map_in c.args.self.now.map) (subst (λ (b : Board). TurnKeeps (map_in c.args.self.now.map) c.args.hart b) (sym (c.put.ensures.stands c.requires.known.0 c.requires.known.1)) (c.requires.keeps c.requires.known.0 c.requires.known.1).0));
})

pub invariant_of-self : goal.invariant_of-self
invariant_of-self c = record {
  fits = c.args.self.now.fits;
  size = c.args.self.now.size;
  base = c.args.self.now.base;
  tracks = c.args.self.now.tracks;
  based = based_outside c.args.self.now.rows.layout (map_in c.args.self.now.map) c.put.new.board c.turn.new.self c.args.self.now.tracks c.put.ensures.based c.turn.ensures.raw
      (c.turn.ensures.outside (map_in c.args.self.now.map) (subst (λ (b : Board). TurnKeeps (map_in c.args.self.now.map) c.args.hart b) (sym (c.put.ensures.stands c.requires.known.0 c.requires.known.1)) (c.requires.keeps c.requires.known.0 c.requires.known.1).0));
}

pub returns-then-differs-clause-changes : goal.returns-then-differs-clause-changes
returns-then-differs-clause-changes c is b d stands for all =
    let after = c.turn.new.self.board in
    let turned : TurnOn c.args.hart b c.turn.new.self.board = subst (λ (e : Board). TurnOn c.args.hart e c.turn.new.self.board) (c.put.ensures.stands b stands) (c.turn.ensures.turns []) in
    change_for c.boards_stand.ensures c.args.self.now.leaves c.args.hart b after d for (c.requires.keeps b stands).1 turned
    (λ a first second. c.differs.ensures c.if-differs.true b a stands first second)
    all

pub returns-then-eq-clause-stays : goal.returns-then-eq-clause-stays
returns-then-eq-clause-stays c is b stands =
    let after = c.turn.new.self.board in
    let turned : TurnOn c.args.hart b after = subst (λ (e : Board). TurnOn c.args.hart e after) (c.put.ensures.stands b stands) (c.turn.ensures.turns []) in
    let row : c.row_of.new.row.items ≡ c.args.row.now = search rules in
    let there : Stands c.row_of.new.self c.args.row.now after = subst (λ (r : List ℕ). Stands c.row_of.new.self r after) row c.in_ok-row_of.ensures.stands in
    let same : after ≡ b = one_board c.row_of.new.self c.args.row.now after b there (c.in_ok-row_of.ensures.stay c.args.row.now b stands) in
    subst (λ (e : Board). TurnOn c.args.hart b e) same turned
