use Rattle.std.proofs.Common.{◌≡◌, ◌∙◌, ◌<◌, true, sym, subst, arith}
use Rattle.model_board.specs.{Boards.Board, LeftOut.{IsLeftOut, IsProbed}}
use Rattle.board_space.specs.{Rows.Stands, Settings.Setting, Space.KeepsSure, declared.board_rows.BoardRows.BoardRows}
use Rattle.board_space.proofs.{Covered.left_small, Searching.each_below}
use Rattle.board_space.proofs.space.BoardSpace.are_probed.Goals as goal

pub is_probed-requires-clause-known : goal.is_probed-requires-clause-known
is_probed-requires-clause-known c =
    let known = c.requires.known in
    (known.0, subst (λ (r : BoardRows). Stands r c.args.row.now known.0) (sym c.loop-register.invariant.rows) known.1)

pub is_probed-requires-clause-keeps : goal.is_probed-requires-clause-keeps
is_probed-requires-clause-keeps c b stands =
    let until = c.loop-register.invariant in
    subst (λ (t : Setting). KeepsSure t.map true c.args.hart b) (sym until.setting)
    (c.requires.keeps b (subst (λ (r : BoardRows). Stands r c.args.row.now b) until.rows stands))

pub is_probed-requires-clause-hart : goal.is_probed-requires-clause-hart
is_probed-requires-clause-hart c = subst (λ (t : Setting). c.args.hart < t.asked.size.harts) (sym c.loop-register.invariant.setting) c.requires.hart

pub loop-register-preserved : goal.loop-register-preserved
loop-register-preserved c =
    let until = c.loop-register.invariant in
    record {
      rows = c.is_probed.ensures.rows ∙ until.rows;
      setting = c.is_probed.ensures.setting ∙ until.setting;
      probed = each_below (λ k. (b : Board) → Stands c.args.self.now.rows c.args.row.now b → IsLeftOut c.args.hart k b → IsProbed c.args.hart k b) c.loop-register.register until.probed
          (λ b stands. c.is_probed.ensures.probed c.if-not-is_probed.false b (subst (λ (r : BoardRows). Stands r c.args.row.now b) (sym until.rows) stands));
    }

pub returns-clause-probed : goal.returns-clause-probed
returns-clause-probed c b stands k left =
    let all : c.loop-register.register ≡ 32 = omega arith in
    c.loop-register.invariant.probed k (omega (arith, all, left_small c.args.hart k b left)) b stands left
