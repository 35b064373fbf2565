use Rattle.std.proofs.Common.{◌≡◌, ◌∙◌, true, [], refl, ap, sym, subst}
use Rattle.model_board.specs.{Boards.Board, Events.{Turn, TurnOn}, LeftOut.{IsLeftOut, PROBE}, Maps.TurnKeeps, Registers.board_holding}
use Rattle.board_space.{specs.{Mapped.map_in, Space.KeepsSure}, proofs.Ready.{based_outside, based_same}}
use Rattle.board_space.proofs.space.BoardSpace.is_probed.Goals as goal

pub returns-then-not-put_probe-clause-probed : goal.returns-then-not-put_probe-clause-probed
returns-then-not-put_probe-clause-probed c is b stands left =
    absurd (c.put_probe.ensures.other c.if-not-put_probe.true (subst (λ (d : Board). IsLeftOut c.args.hart c.args.number d) (sym (c.put.ensures.stands b stands)) left))

pub returns-clause-probed : goal.returns-clause-probed
returns-clause-probed c is b stands left =
    let at : c.put_probe.new.board.board ≡ board_holding c.args.hart c.args.number PROBE b = c.put_probe.ensures.probed c.if-not-put_probe.false ∙ ap (λ (d : Board). board_holding c.args.hart c.args.number PROBE d) (c.put.ensures.stands b stands) in
    (c.turn.new.self.board, subst (λ (d : Board). TurnOn c.args.hart d c.turn.new.self.board) at (c.turn.ensures.turns []), c.holds_probe.ensures is)

pub invariant_of-self-2 : goal.invariant_of-self-2
invariant_of-self-2 c =
    let map = map_in c.args.self.now.map in
    let known = c.requires.known in
    let b0 = c.put.new.board.board in
    let at : known.0 ≡ c.put.new.board.board = sym (c.put.ensures.stands known.0 known.1) in
    let sure : KeepsSure (map_in c.args.self.now.map) true c.args.hart c.put.new.board.board = subst (λ (d : Board). KeepsSure (map_in c.args.self.now.map) true c.args.hart d) at (c.requires.keeps known.0 known.1) in
    let left : IsLeftOut c.args.hart c.args.number c.put.new.board.board = c.put_probe.ensures.left c.if-not-put_probe.false in
    let kept : TurnKeeps (map_in c.args.self.now.map) c.args.hart (board_holding c.args.hart c.args.number PROBE c.put.new.board.board) = c.boards_stand.ensures.keeps map 1 (Turn c.args.hart) b0 (board_holding c.args.hart c.args.number PROBE b0) (c.args.hart, c.args.number, PROBE, left, refl) sure.1 sure.0 in
    let keeps : TurnKeeps (map_in c.args.self.now.map) c.args.hart c.put_probe.new.board.board = subst (λ (d : Board). TurnKeeps (map_in c.args.self.now.map) c.args.hart d) (sym (c.put_probe.ensures.probed c.if-not-put_probe.false)) kept in
    record {
      fits = c.args.self.now.fits;
      size = c.args.self.now.size;
      base = c.args.self.now.base;
      tracks = c.args.self.now.tracks;
      based = based_outside c.args.self.now.rows.layout map c.put_probe.new.board c.turn.new.self c.args.self.now.tracks
          (based_same c.args.self.now.rows.layout c.put.new.board c.put_probe.new.board c.put.ensures.based c.put_probe.ensures.raw c.put_probe.ensures.memory)
          c.turn.ensures.raw (c.turn.ensures.outside map keeps);
    }
