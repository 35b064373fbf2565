use Rattle.std.proofs.Common.{◌∙◌, ℕ, Bool, List, false, get_or, ap, sym, subst, arith}
use Rattle.model_board.specs.Boards.{Board}
use Rattle.state_space.{specs.Graphs.row_at, proofs.Dead.marked_more}
use Rattle.board_space.specs.{Covering.StandsAll, Few.IsLastBy, Searches.StandsBy}
use Rattle.board_space.proofs.followed.last_rows.Goals as goal

pub loop-row-preserved : goal.loop-row-preserved
loop-row-preserved c =
    let until = c.loop-row.invariant in
    let Is : ℕ → Type 0 = λ k. (b : Board) → StandsBy c.args.bound (StandsAll c.args.space.now.leaves c.args.space.now.rows) (row_at c.args.graph.now k) b → IsLastBy c.args.bound b in
    record {
      each = omega (arith, c.in_ok-push.ensures.len, until.each, c.loop-row.marks.ok.0, c.push.new.self.ok.0);
      lasts = λ k marked. marked_more Is c.loop-row.marks.items c.is_last.result until.lasts
          (λ is. subst Is (sym until.each) (c.is_last.ensures is))
          k (ap (λ (l : List Bool). get_or l k false) (sym c.in_ok-push.ensures.items) ∙ marked);
    }
