use Rattle.std.proofs.Common.{rules, ℕ, List, [], ◌≡◌, ◌∙◌, ◌<◌, refl, sym, subst}
use Rattle.model_board.{specs.{Events.TurnOn, Maps.TurnKeeps, Plain.Sized}, proofs.Filling.stands_one}
use Rattle.board_space.specs.{Mapped.map_in, OneBoard.one_board, Rows.Stands, Settings.Setting, declared.board_rows.BoardRows.BoardRows}
use Rattle.board_space.proofs.Ready.{based_outside}
use Rattle.board_space.proofs.space.BoardSpace.turns_back.Goals as goal

pub differs-requires-clause-based : goal.differs-requires-clause-based
differs-requires-clause-based c =
    let was = c.in_default.ensures in
    let at : c.from.result ≡ c.args.hart = c.from.ensures ∙ c.number.ensures.value in
    let own = was.keeps (subst (λ (n : ℕ). n < c.args.self.now.shape.harts) (sym at) c.requires.hart) in
    let one : TurnKeeps (map_in c.args.self.now.map) c.args.hart c.args.self.now.board.board = subst (λ (n : ℕ). TurnKeeps (map_in c.args.self.now.map) n c.args.self.now.board.board) at own.0 in
    let two : TurnKeeps (map_in c.args.self.now.map) c.args.hart c.break_of.new.self.board.board = subst (λ (s : Sized). TurnKeeps (map_in c.args.self.now.map) c.args.hart s.board) (sym was.board) one in
    let keeps : TurnKeeps (map_in c.break_of.new.self.map) c.args.hart c.break_of.new.self.board.board = subst (λ (t : Setting). TurnKeeps t.map c.args.hart c.break_of.new.self.board.board) (sym was.setting) two in
    based_outside c.break_of.new.self.rows.layout (map_in c.break_of.new.self.map) c.break_of.new.self.board c.turn.new.self c.break_of.new.self.tracks c.break_of.new.self.based c.turn.ensures.raw (c.turn.ensures.outside (map_in c.break_of.new.self.map) keeps)

pub invariant_of-self-then-differs : goal.invariant_of-self-then-differs
invariant_of-self-then-differs c =
    let was = c.in_default.ensures in
    let at : c.from.result ≡ c.args.hart = c.from.ensures ∙ c.number.ensures.value in
    let own = was.keeps (subst (λ (n : ℕ). n < c.args.self.now.shape.harts) (sym at) c.requires.hart) in
    let one : TurnKeeps (map_in c.args.self.now.map) c.args.hart c.args.self.now.board.board = subst (λ (n : ℕ). TurnKeeps (map_in c.args.self.now.map) n c.args.self.now.board.board) at own.0 in
    let two : TurnKeeps (map_in c.args.self.now.map) c.args.hart c.break_of.new.self.board.board = subst (λ (s : Sized). TurnKeeps (map_in c.args.self.now.map) c.args.hart s.board) (sym was.board) one in
    let keeps : TurnKeeps (map_in c.break_of.new.self.map) c.args.hart c.break_of.new.self.board.board = subst (λ (t : Setting). TurnKeeps t.map c.args.hart c.break_of.new.self.board.board) (sym was.setting) two in
    record {
      fits = c.break_of.new.self.fits;
      size = c.break_of.new.self.size;
      base = c.break_of.new.self.base;
      tracks = c.break_of.new.self.tracks;
      based = based_outside c.break_of.new.self.rows.layout (map_in c.break_of.new.self.map) c.break_of.new.self.board c.turn.new.self c.break_of.new.self.tracks c.break_of.new.self.based c.turn.ensures.raw (c.turn.ensures.outside (map_in c.break_of.new.self.map) keeps);
    }

pub row_of-requires : goal.row_of-requires
row_of-requires c =
    let was = c.in_default.ensures in
    let at : c.from.result ≡ c.args.hart = c.from.ensures ∙ c.number.ensures.value in
    let own = was.keeps (subst (λ (n : ℕ). n < c.args.self.now.shape.harts) (sym at) c.requires.hart) in
    let one : TurnKeeps (map_in c.args.self.now.map) c.args.hart c.args.self.now.board.board = subst (λ (n : ℕ). TurnKeeps (map_in c.args.self.now.map) n c.args.self.now.board.board) at own.0 in
    let two : TurnKeeps (map_in c.args.self.now.map) c.args.hart c.break_of.new.self.board.board = subst (λ (s : Sized). TurnKeeps (map_in c.args.self.now.map) c.args.hart s.board) (sym was.board) one in
    let keeps : TurnKeeps (map_in c.break_of.new.self.map) c.args.hart c.break_of.new.self.board.board = subst (λ (t : Setting). TurnKeeps t.map c.args.hart c.break_of.new.self.board.board) (sym was.setting) two in
    based_outside c.break_of.new.self.rows.layout (map_in c.break_of.new.self.map) c.break_of.new.self.board c.turn.new.self c.break_of.new.self.tracks c.break_of.new.self.based c.turn.ensures.raw (c.turn.ensures.outside (map_in c.break_of.new.self.map) keeps)

pub invariant_of-self-2 : goal.invariant_of-self-2
invariant_of-self-2 c =
    let was = c.in_default.ensures in
    let at : c.from.result ≡ c.args.hart = c.from.ensures ∙ c.number.ensures.value in
    let own = was.keeps (subst (λ (n : ℕ). n < c.args.self.now.shape.harts) (sym at) c.requires.hart) in
    let one : TurnKeeps (map_in c.args.self.now.map) c.args.hart c.args.self.now.board.board = subst (λ (n : ℕ). TurnKeeps (map_in c.args.self.now.map) n c.args.self.now.board.board) at own.0 in
    let two : TurnKeeps (map_in c.args.self.now.map) c.args.hart c.break_of.new.self.board.board = subst (λ (s : Sized). TurnKeeps (map_in c.args.self.now.map) c.args.hart s.board) (sym was.board) one in
    let keeps : TurnKeeps (map_in c.break_of.new.self.map) c.args.hart c.break_of.new.self.board.board = subst (λ (t : Setting). TurnKeeps t.map c.args.hart c.break_of.new.self.board.board) (sym was.setting) two in
    rw c.row_of.ensures.layout (record {
      fits = c.break_of.new.self.fits;
      size = c.break_of.new.self.size;
      base = c.break_of.new.self.base;
      tracks = c.break_of.new.self.tracks;
      based = based_outside c.break_of.new.self.rows.layout (map_in c.break_of.new.self.map) c.break_of.new.self.board c.turn.new.self c.break_of.new.self.tracks c.break_of.new.self.based c.turn.ensures.raw (c.turn.ensures.outside (map_in c.break_of.new.self.map) keeps);
    })

pub returns-then-differs-clause-turns : goal.returns-then-differs-clause-turns
returns-then-differs-clause-turns c = subst (λ (s : Sized). TurnOn c.args.hart s.board c.turn.new.self.board) c.in_default.ensures.board (c.turn.ensures.turns [])

pub returns-then-eq-clause-turns : goal.returns-then-eq-clause-turns
returns-then-eq-clause-turns c = subst (λ (s : Sized). TurnOn c.args.hart s.board c.turn.new.self.board) c.in_default.ensures.board (c.turn.ensures.turns [])

pub returns-then-eq-clause-back : goal.returns-then-eq-clause-back
returns-then-eq-clause-back c is b stands =
    let row : c.row_of.new.row.items ≡ c.args.row.now = search rules in
    let there : Stands c.row_of.new.self c.args.row.now c.turn.new.self.board = subst (λ (r : List ℕ). Stands c.row_of.new.self r c.turn.new.self.board) row c.in_ok-row_of.ensures.stands in
    let own : Stands c.break_of.new.self.rows c.args.row.now b = subst (λ (r : BoardRows). Stands r c.args.row.now b) (sym c.in_default.ensures.rows) stands in
    one_board c.row_of.new.self c.args.row.now c.turn.new.self.board b there (c.in_ok-row_of.ensures.stay c.args.row.now b own)

pub returns-then-differs-clause-away : goal.returns-then-differs-clause-away
returns-then-differs-clause-away c is b stands same =
    let own : Stands c.break_of.new.self.rows c.args.row.now b = subst (λ (r : BoardRows). Stands r c.args.row.now b) (sym c.in_default.ensures.rows) stands in
    c.differs.ensures c.if-differs.true b b own (stands_one b b refl) (stands_one c.turn.new.self.board b same)
