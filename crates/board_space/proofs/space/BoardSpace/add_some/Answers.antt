use Rattle.std.proofs.Common.{◌≡◌, ◌∙◌, ℕ, sym, subst, arith}
use Rattle.model_board.specs.Boards.{Board}
use Rattle.board_space.specs.{Covering.StandsAll, Expanding.{IsTeller, AreTold}, Happenings.event_of, Mapped.map_in, OneBoard.one_board}
use Rattle.board_space.{specs.{Settings.{Setting, asked_of}, Space.{IsOne, KeepsEach}}, proofs.Moves.{told_more, told_other}}
use Rattle.board_space.proofs.space.BoardSpace.add_some.Goals.{in-Some+in_ok-add, in_default}
use Rattle.board_space.proofs.space.BoardSpace.add_some.Goals as goal

pub loop-number-preserved : goal.loop-number-preserved
loop-number-preserved c =
    let until = c.loop-number.invariant in
    let asked = asked_of c.args.self.now in
    let map = map_in c.args.self.now.map in
    let leaves = c.args.self.now.leaves in
    elim c.match-happening.branch [
      | in-Some+in_ok-add w ↦
          rw (w.self-is, w.found-is) (record {
            stay = λ r b stands. w.in_ok-add.ensures.stay r b (until.stay r b stands);
            setting = w.in_ok-add.ensures.setting ∙ until.setting;
            width = w.in_ok-add.ensures.width ∙ until.width;
            told = λ b stands. told_more asked map leaves (StandsAll leaves c.loop-number.self.rows) (StandsAll leaves w.add.new.self.rows) c.loop-number.found w.add.new.found b c.loop-number.number (event_of w.in-Some.happening) (λ r d x. (x.0, w.in_ok-add.ensures.stay r x.0 x.1, x.2))
                (λ f one is. w.in-Some.ensures.only f (subst (λ (t : Setting). IsOne t.asked f) (sym until.setting) one) is)
                (until.told b stands)
                (subst (λ (t : Setting). IsTeller t.asked t.map t.leaves (StandsAll t.leaves w.add.new.self.rows) c.loop-number.found w.add.new.found b (event_of w.in-Some.happening)) until.setting (w.in_ok-add.ensures.teller b (until.stay c.args.row.now b stands)));
          })
      | in_default w ↦
          rw (w.self-is, w.found-is) (record {
            stay = until.stay;
            setting = until.setting;
            width = until.width;
            told = λ b stands. told_other asked map leaves (StandsAll leaves c.loop-number.self.rows) (StandsAll leaves c.loop-number.self.rows) c.loop-number.found b c.loop-number.number (λ r d x. x)
                (λ f one is. w.in_default.ensures.none f (subst (λ (t : Setting). IsOne t.asked f) (sym until.setting) one) is)
                (until.told b stands);
          })
    ]

pub add-requires-clause-keeps : goal.add-requires-clause-keeps
add-requires-clause-keeps c b stands e =
    let until = c.loop-number.invariant in
    let known = c.requires.known in
    let is : known.0 ≡ b = one_board c.loop-number.self.rows c.args.row.now known.0 b (until.stay c.args.row.now known.0 known.1) stands in
    subst (λ (t : Setting). KeepsEach t.asked t.map e b) (sym until.setting)
    (subst (λ (d : Board). KeepsEach (asked_of c.args.self.now) (map_in c.args.self.now.map) e d) is (c.requires.keeps known.0 known.1 e))

pub returns-clause-told : goal.returns-clause-told
returns-clause-told c b stands =
    let all : c.loop-number.number ≡ c.args.to = omega arith in
    subst (λ (n : ℕ). AreTold (asked_of c.args.self.now) (map_in c.args.self.now.map) c.args.self.now.leaves (StandsAll c.args.self.now.leaves c.loop-number.self.rows) c.loop-number.found b n) all (c.loop-number.invariant.told b stands)
