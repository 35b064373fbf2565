use Rattle.std.{proofs.Common.{◌≡◌, ◌+◌, ℕ, Bool, List, true, false, length, refl, sym, subst, arith}, specs.Prelude.not}
use Rattle.state_space.specs.Deads.{IsMarked}
use Rattle.board_space.{specs.{Covering.StandsAll, Searches.IsFollowed}, proofs.Searching.others_more}
use Rattle.board_space.proofs.followed.open_rows.Goals as goal

of_not : (x : Bool) → not x ≡ false → x ≡ true
of_not true is = refl
of_not false is = absurd (cc)

pub loop-row-preserved : goal.loop-row-preserved
loop-row-preserved c =
    let until = c.loop-row.invariant in
    let followed = c.is_followed.result in
    let Is : ℕ → Type 0 = IsFollowed c.args.space.now.shape.harts c.args.bound (StandsAll c.args.space.now.leaves c.args.space.now.rows) c.args.graph.now in
    let each : length c.push.new.self.items ≡ c.loop-row.row + 1 = omega (arith, c.in_ok-push.ensures.len, until.each, c.loop-row.marks.ok.0, c.push.new.self.ok.0) in
    record {
      each = each;
      others = λ k lt other. others_more Is c.loop-row.marks.items (not followed) until.others
          (λ is. subst Is (sym until.each) (c.is_followed.ensures (of_not followed is)))
          k (omega (arith, lt, each, until.each)) (λ marked. other (subst (λ (l : List Bool). IsMarked l k) (sym c.in_ok-push.ensures.items) marked));
    }
