use Rattle.std.proofs.{Common.{◌≡◌, sym}, lemmas.Result.IfOk-weaker}
use Rattle.model_board.specs.Boards.{Board}
use Rattle.board_space.specs.{Covering.StandsAll, Happenings.event_of, Mapped.map_in, Settings.asked_of, Space.Happens}
use Rattle.board_space.proofs.{Ready.{based_happened, does_at}, Moves.{teller_none, teller_by}}
use Rattle.board_space.proofs.space.BoardSpace.add.Goals as goal

pub invariant_of-self-clause-based : goal.invariant_of-self-clause-based
invariant_of-self-clause-based c =
    based_happened c.args.self.now.rows.layout (map_in c.args.self.now.map) c.args.self.now.shape c.as_slice.result.now c.args.self.now.payload.items (event_of c.args.happening.now) c.requires.known.0 c.put.new.board c.happen.new.board c.args.self.now.tracks c.args.self.now.size c.args.self.now.base c.as_slice.ensures.value c.put.ensures.based (c.put.ensures.stands c.requires.known.0 c.requires.known.1) (c.requires.keeps c.requires.known.0 c.requires.known.1 (event_of c.args.happening.now) c.requires.one) c.happen.ensures.raw c.happen.ensures.memory

pub returns-then-not-happen-clause-teller : goal.returns-then-not-happen-clause-teller
returns-then-not-happen-clause-teller c b stands =
    let sized : c.put.new.board.size ≡ c.args.self.now.shape = cc in
    teller_none (asked_of c.args.self.now) (map_in c.args.self.now.map) c.args.self.now.leaves (StandsAll c.args.self.now.leaves c.args.self.now.rows) c.args.found.now b (event_of c.args.happening.now)
    (λ d happens. c.happen.ensures.never c.if-not-happen.true d
    (does_at c.args.self.now.payload.items c.as_slice.result.now c.args.self.now.shape c.put.new.board.size (event_of c.args.happening.now) b c.put.new.board.board d (sym c.as_slice.ensures.value) (sym sized) (sym (c.put.ensures.stands b stands)) happens.1))

pub returns-clause-teller : goal.returns-clause-teller
returns-clause-teller c =
    let sized : c.put.new.board.size ≡ c.args.self.now.shape = cc in
    let mid : Board = c.happen.new.board.board in
    IfOk-weaker c.tell.result _ _
    (λ x pushed b stands.
    let did : Happens (asked_of c.args.self.now) (event_of c.args.happening.now) b c.happen.new.board.board = (
      c.requires.one,
      does_at c.as_slice.result.now c.args.self.now.payload.items c.put.new.board.size c.args.self.now.shape (event_of c.args.happening.now) c.put.new.board.board b c.happen.new.board.board c.as_slice.ensures.value sized (c.put.ensures.stands b stands) (c.happen.ensures.happens c.if-not-happen.false),
    ) in
    teller_by (asked_of c.args.self.now) (map_in c.args.self.now.map) c.args.self.now.leaves (StandsAll c.args.self.now.leaves c.tell.new.self.rows) c.args.found.now c.tell.new.found b mid (event_of c.args.happening.now) c.number-number.result
    pushed
    c.number-number.ensures.number
    did
    (λ d happens. c.event_determines_board.ensures c.args.self.now.payload.items c.args.self.now.shape (event_of c.args.happening.now) b d mid happens.1 did.1))
    c.tell.ensures.pushed
