use Rattle.std.proofs.Common.{ℕ, List, true, false, ◌≡◌, ◌∙◌, ◌<◌, Option, IfSome, sym, subst, arith}
use Rattle.model_board.specs.Boards.{Board}
use Rattle.state_space.specs.Graphs.{count_of, expanded_of}
use Rattle.board_space.specs.{Covering.StandsAll, Settings.Setting, Searches.StandsBy, Shown.Shows, declared.outcomes.Outcome.Outcome}
use Rattle.board_space.{specs.declared.board_rows.BoardRows.BoardRows, proofs.AllShown.{show_other, show_next, show_all}}
use Rattle.board_space.proofs.showing.shown_by_all.Goals.{then-is_end+in_ok-outcome+in-Some+else-not-agrees, else-is_end}
use Rattle.board_space.proofs.showing.shown_by_all.Goals as goal

pub shown_at-requires-clause-known : goal.shown_at-requires-clause-known
shown_at-requires-clause-known c =
    let low : c.loop-row.row < count_of c.args.graph.now = omega (arith, c.loop-row-test.true, c.expanded-row-end.ensures, c.requires.searched.most) in
    let known = c.requires.searched.known c.loop-row.row low in
    let at = subst (λ (r : BoardRows). StandsBy c.args.bound (StandsAll c.args.space.now.leaves r) c.row.result.now known.0) (sym c.loop-row.invariant.rows) (subst (λ (l : List ℕ). StandsBy c.args.bound (StandsAll c.args.space.now.leaves c.args.space.now.rows) l known.0) (sym c.row.ensures.row) known.1) in
    (known.0, subst (λ (t : Setting). StandsBy c.args.bound (StandsAll t.leaves c.loop-row.space.rows) c.row.result.now known.0) (sym c.loop-row.invariant.setting) at)

pub loop-row-preserved : goal.loop-row-preserved
loop-row-preserved c =
    let until = c.loop-row.invariant in
    elim c.if-is_end.branch [
      | then-is_end+in_ok-outcome+in-Some+else-not-agrees w ↦
          rw (w.space-is, w.all-is) (record {
            rows = w.in_ok-outcome.ensures.rows ∙ until.rows;
            setting = w.in_ok-outcome.ensures.setting ∙ until.setting;
            all = show_next c.args.from c.args.to (StandsBy c.args.bound (StandsAll c.args.space.now.leaves c.args.space.now.rows)) c.args.graph.now c.loop-row.row c.loop-row.all w.in-Some.outcome (w.agrees.ensures w.if-not-agrees.false)
                (λ b stands. (subst (λ (o : Option Outcome). IfSome o (λ outcome. (b : Board) → StandsBy c.args.bound (StandsAll c.loop-row.space.leaves c.loop-row.space.rows) w.row.result.now b → Shows c.args.from c.args.to outcome b)) w.in-Some.is w.in_ok-outcome.ensures.shows) b (subst (λ (t : Setting). StandsBy c.args.bound (StandsAll t.leaves c.loop-row.space.rows) w.row.result.now b) (sym until.setting) (subst (λ (r : BoardRows). StandsBy c.args.bound (StandsAll c.args.space.now.leaves r) w.row.result.now b) (sym until.rows) (subst (λ (l : List ℕ). StandsBy c.args.bound (StandsAll c.args.space.now.leaves c.args.space.now.rows) l b) (sym w.row.ensures.row) stands))))
                until.all;
          })
      | else-is_end w ↦
          rw (w.space-is, w.all-is) (record {
            rows = until.rows;
            setting = until.setting;
            all = show_other c.args.from c.args.to (StandsBy c.args.bound (StandsAll c.args.space.now.leaves c.args.space.now.rows)) c.args.graph.now c.loop-row.row c.loop-row.all (λ end. let e : true ≡ false = sym end.1 ∙ (sym c.is_end.ensures ∙ w.if-is_end.false) in cc) until.all;
          })
    ]

pub returns-clause-all : goal.returns-clause-all
returns-clause-all c =
    show_all c.args.from c.args.to (StandsBy c.args.bound (StandsAll c.args.space.now.leaves c.args.space.now.rows)) c.args.graph.now c.loop-row.row (expanded_of c.args.graph.now) c.loop-row.all (omega (arith, c.loop-row-test.false, c.loop-row.auto.row-end, c.expanded-row-end.ensures)) c.loop-row.invariant.all
