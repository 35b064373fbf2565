use Rattle.std.proofs.Common.{◌<◌, ℕ, subst, arith}
use Rattle.model_board.specs.{Boards.Board, LeftOut.AreProbed}
use Rattle.board_space.{specs.Rows.Stands, proofs.Answered.ok_on}
use Rattle.board_space.proofs.space.BoardSpace.are_probed_by.Goals as goal

pub returns-in-Some-clause-probed : goal.returns-in-Some-clause-probed
returns-in-Some-clause-probed c =
    ok_on c.are_probed.result (λ _. (b : Board) → Stands c.args.self.now.rows c.args.row.now b → AreProbed c.in-Some.hart b) (λ _. c.args.number < c.args.self.now.shape.harts → (b : Board) → Stands c.args.self.now.rows c.args.row.now b → AreProbed c.args.number b)
    (λ _ probed lt b stands. subst (λ (n : ℕ). AreProbed n b) c.in-Some.ensures.some.0 (probed b stands))
    c.are_probed.ensures.probed

pub are_probed-requires-clause-keeps : goal.are_probed-requires-clause-keeps
are_probed-requires-clause-keeps c b stands =
    let known : c.in-Some.hart < c.args.self.now.shape.harts = omega (arith, c.in-Some.ensures.some.0, c.in-Some.ensures.some.1) in
    c.requires.keeps b stands c.in-Some.hart known
