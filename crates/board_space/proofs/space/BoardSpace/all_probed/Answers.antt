use Rattle.std.proofs.Common.{◌≡◌, ◌∙◌, ◌<◌, ◌≤◌, Bool, true, sym, subst, arith}
use Rattle.model_board.specs.{Boards.Board, LeftOut.AreProbed}
use Rattle.board_space.specs.{Mapped.map_in, Rows.Stands, Settings.Setting, Space.KeepsSure, declared.board_rows.BoardRows.BoardRows}
use Rattle.board_space.proofs.Searching.{each_below}
use Rattle.board_space.proofs.space.BoardSpace.all_probed.Goals as goal

pub are_probed_by-requires-clause-known : goal.are_probed_by-requires-clause-known
are_probed_by-requires-clause-known c =
    let known = c.requires.known in
    (known.0, subst (λ (r : BoardRows). Stands r c.args.row.now known.0) (sym c.loop-number.invariant.rows) known.1)

pub are_probed_by-requires-clause-keeps : goal.are_probed_by-requires-clause-keeps
are_probed_by-requires-clause-keeps c b stands h lt =
    let until = c.loop-number.invariant in
    let keeps = c.requires.keeps b (subst (λ (r : BoardRows). Stands r c.args.row.now b) until.rows stands) h (subst (λ (t : Setting). h < t.asked.size.harts) until.setting lt) in
    subst (λ (t : Setting). KeepsSure t.map true h b) (sym until.setting)
    (subst (λ (l : Bool). KeepsSure (map_in c.args.self.now.map) l h b) c.if-not-self.false keeps)

pub loop-number-preserved : goal.loop-number-preserved
loop-number-preserved c =
    let until = c.loop-number.invariant in
    record {
      rows = c.are_probed_by.ensures.rows ∙ until.rows;
      setting = c.are_probed_by.ensures.setting ∙ until.setting;
      probed = each_below (λ h. h < c.args.self.now.shape.harts → (b : Board) → Stands c.args.self.now.rows c.args.row.now b → AreProbed h b) c.loop-number.number until.probed
          (λ lt b stands. c.in_ok-are_probed_by.ensures.probed (subst (λ (t : Setting). c.loop-number.number < t.asked.size.harts) (sym until.setting) lt) b (subst (λ (r : BoardRows). Stands r c.args.row.now b) (sym until.rows) stands));
    }

pub returns-clause-probed : goal.returns-clause-probed
returns-clause-probed c is b stands h lt =
    let eight : c.loop-number.number ≡ 8 = omega arith in
    let few : c.args.self.now.shape.harts ≤ 8 = omega (arith, c.harts-harts.ensures.value, c.harts-harts.ensures.range.1) in
    c.loop-number.invariant.probed h (omega (arith, eight, few, lt)) lt b stands
