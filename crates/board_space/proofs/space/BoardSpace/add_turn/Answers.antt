use Rattle.std.proofs.Common.{ℕ, ◌<◌, refl, sym, subst}
use Rattle.board_model.specs.Shapes.{Size}
use Rattle.model_board.specs.{Boards.Board, Events.{Turn, TurnOn}}
use Rattle.board_space.specs.{Covering.StandsAll, Expanding.IsPushed, Mapped.map_in, Rows.Stands, Settings.{Setting, asked_of}}
use Rattle.board_space.{specs.{Space.Happens, declared.board_rows.BoardRows.BoardRows}, proofs.{Covered.change_for, Moves.teller_by}}
use Rattle.board_space.proofs.Seen.{moved_goes}
use Rattle.board_space.proofs.space.BoardSpace.add_turn.Goals as goal

pub is_away-moves-requires-clause-known : goal.is_away-moves-requires-clause-known
is_away-moves-requires-clause-known c =
    (c.requires.known.0, subst (λ (r : BoardRows). Stands r c.args.row.now c.requires.known.0) (sym c.turn_at-asks.ensures.rows) c.requires.known.1)

pub returns-clause-teller : goal.returns-clause-teller
returns-clause-teller c b stands =
    let asked = asked_of c.args.self.now in
    let mid : Board = c.turn_at-asks.new.self.board.board in
    let turned : TurnOn c.args.hart b c.turn_at-asks.new.self.board.board = c.turn_at-asks.ensures.turn b stands in
    let did : Happens asked (Turn c.args.hart) b c.turn_at-asks.new.self.board.board = ((c.requires.hart, tt), turned) in
    let pushed : IsPushed asked (map_in c.args.self.now.map) c.args.self.now.leaves (StandsAll c.args.self.now.leaves c.tell.new.self.rows) c.args.found.now c.tell.new.found c.turn_at-asks.new.self.board.board c.args.hart =
    subst (λ (t : Setting). IsPushed t.asked t.map t.leaves (StandsAll t.leaves c.tell.new.self.rows) c.args.found.now c.tell.new.found c.turn_at-asks.new.self.board.board c.args.hart) c.turn_at-asks.ensures.setting
    (subst (λ (n : ℕ). IsPushed (asked_of c.turn_at-asks.new.self) (map_in c.turn_at-asks.new.self.map) c.turn_at-asks.new.self.leaves (StandsAll c.turn_at-asks.new.self.leaves c.tell.new.self.rows) c.args.found.now c.tell.new.found c.turn_at-asks.new.self.board.board n) c.number.ensures.value c.in_ok-tell.ensures.pushed) in
    teller_by asked (map_in c.args.self.now.map) c.args.self.now.leaves (StandsAll c.args.self.now.leaves c.tell.new.self.rows) c.args.found.now c.tell.new.found b mid (Turn c.args.hart) c.args.hart pushed refl did
    (λ d happens. c.event_determines_board.ensures c.args.self.now.payload.items c.args.self.now.shape (Turn c.args.hart) b d mid happens.1 turned)

pub returns-clause-moves : goal.returns-clause-moves
returns-clause-moves c is b d stands for end =
    let after = c.turn_at-asks.new.self.board.board in
    let there : Stands c.turn_at-asks.new.self.rows c.args.row.now b = subst (λ (r : BoardRows). Stands r c.args.row.now b) (sym c.turn_at-asks.ensures.rows) stands in
    moved_goes c.args.self.now.rows c.args.row.now c.args.self.now.leaves c.args.hart b d stands for
    (subst (λ (s : Size). c.args.hart < s.harts) (sym c.args.self.now.size) c.requires.hart)
    (λ all. change_for c.boards_stand.ensures c.args.self.now.leaves c.args.hart b after d for (c.requires.keeps b stands).1 (c.turn_at-asks.ensures.turn b stands)
    (λ a first second. c.is_away-moves.ensures is b a there first second)
    all)
    end

pub returns-clause-stay : goal.returns-clause-stay
returns-clause-stay c r b stands =
    c.tell.ensures.stay r b (subst (λ (x : BoardRows). Stands x r b) (sym c.turn_at-asks.ensures.rows) stands)
