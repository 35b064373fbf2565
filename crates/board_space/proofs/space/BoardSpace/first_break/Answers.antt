use Rattle.std.proofs.Common.{◌≡◌, ◌∙◌, ◌<◌, ◌≤◌, ℕ, sym, subst, arith}
use Rattle.model_board.specs.Plain.{Sized}
use Rattle.board_space.{specs.{Mapped.map_in, Settings.Setting, Space.KeepsSure}, proofs.Searching.each_below}
use Rattle.board_space.proofs.space.BoardSpace.first_break.Goals as goal

pub loop-number-preserved : goal.loop-number-preserved
loop-number-preserved c =
    let until = c.loop-number.invariant in
    let n : ℕ = c.loop-number.number in
    record {
      board = c.break_of.ensures.board ∙ until.board;
      rows = c.break_of.ensures.rows ∙ until.rows;
      setting = c.break_of.ensures.setting ∙ until.setting;
      keeps = each_below (λ h. h < c.args.self.now.shape.harts → KeepsSure (map_in c.args.self.now.map) c.args.self.now.leaves h c.args.self.now.board.board) n until.keeps
          (λ lt.
          subst (λ (s : Sized). KeepsSure (map_in c.args.self.now.map) c.args.self.now.leaves c.loop-number.number s.board) until.board
          (subst (λ (t : Setting). KeepsSure t.map t.leaves c.loop-number.number c.loop-number.self.board.board) until.setting
          (c.in_default.ensures.keeps (subst (λ (t : Setting). c.loop-number.number < t.asked.size.harts) (sym until.setting) lt))));
    }

pub returns-clause-keeps : goal.returns-clause-keeps
returns-clause-keeps c h lt =
    let eight : c.loop-number.number ≡ 8 = omega arith in
    let few : c.args.self.now.shape.harts ≤ 8 = omega (arith, c.harts-harts.ensures.value, c.harts-harts.ensures.range.1) in
    c.loop-number.invariant.keeps h (omega (arith, eight, few, lt)) lt
