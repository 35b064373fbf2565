use Rattle.std.proofs.Common.{List, ℕ, ◌≡◌, ◌∙◌, sym, subst}
use Rattle.board_model.specs.Shapes.{Size}
use Rattle.model_board.specs.Boards.{Board}
use Rattle.board_space.{specs.{Covering.StandsAll, Mapped.map_in, Space.SettlesSure}, proofs.Ready.{based_outside, based_same}}
use Rattle.board_space.proofs.space.BoardSpace.tell.Goals as goal

pub row_of-requires : goal.row_of-requires
row_of-requires c =
    based_same c.args.self.now.rows.layout c.settle.new.board c.leave_all-self.new.board
    (based_outside c.args.self.now.rows.layout (map_in c.args.self.now.map) c.args.self.now.board c.settle.new.board c.args.self.now.tracks c.args.self.now.based c.settle.ensures.raw c.settle.ensures.memory)
    c.leave_all-self.ensures.raw c.leave_all-self.ensures.memory

pub invariant_of-self : goal.invariant_of-self
invariant_of-self c = rw c.row_of.ensures.layout (record {
  fits = c.args.self.now.fits;
  size = c.args.self.now.size;
  base = c.args.self.now.base;
  tracks = c.args.self.now.tracks;
  based = based_same c.args.self.now.rows.layout c.settle.new.board c.leave_all-self.new.board
      (based_outside c.args.self.now.rows.layout (map_in c.args.self.now.map) c.args.self.now.board c.settle.new.board c.args.self.now.tracks c.args.self.now.based c.settle.ensures.raw c.settle.ensures.memory)
      c.leave_all-self.ensures.raw c.leave_all-self.ensures.memory;
})

pub returns-clause-pushed : goal.returns-clause-pushed
returns-clause-pushed c =
    let sized : c.args.self.now.board.size ≡ c.args.self.now.shape = cc in
    let to : Board = c.settle.new.board.board in
    record {
      to = to;
      settles = subst (λ (s : Size). SettlesSure s (map_in c.args.self.now.map) c.args.self.now.leaves c.args.self.now.board.board c.settle.new.board.board) sized c.settle.ensures.settles;
      has = subst (λ (r : List ℕ). StandsAll c.args.self.now.leaves c.row_of.new.self r c.settle.new.board.board) (sym (c.in_ok-push.ensures.row ∙ c.deref.ensures.value))
          (c.leave_all-self.new.board.board, c.in_ok-row_of.ensures.stands, c.leave_all-self.ensures.stands);
      counted = c.in_ok-push.ensures.counted;
      event = c.in_ok-push.ensures.event;
      events = c.in_ok-push.ensures.events_stay;
      rows = c.in_ok-push.ensures.rows_stay;
    }
