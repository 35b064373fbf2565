use Rattle.std.proofs.Common.{◌≡◌, ◌∙◌, ℕ, subst, arith}
use Rattle.state_space.{specs.{Counted.{AreCounted, Spends, row_counted}, Successors.found_count}, proofs.Listing.listed_more}
use Rattle.state_space.proofs.counted.Counting.add_all.Goals as goal

pub loop-index-preserved : goal.loop-index-preserved
loop-index-preserved g c =
    let until = c.loop-index.invariant in
    record {
      system = until.system;
      most = until.most;
      width = c.add.ensures.width ∙ until.width;
      listed = listed_more (λ event. Spends (g.S.Counts.is_counted event) c.args.left) row_counted c.args.successors.now c.loop-index.found c.add.new.found c.loop-index.index until.listed c.in_ok-add.ensures.told;
    }

pub returns-clause-listed : goal.returns-clause-listed
returns-clause-listed g c =
    let is : c.loop-index.index ≡ found_count c.args.successors.now = omega (arith, c.loop-index-test.false, c.loop-index.auto.index-end, c.count-index-end.ensures) in
    subst (λ (n : ℕ). AreCounted g.S.Counts.is_counted c.args.left c.args.successors.now c.loop-index.found n) is c.loop-index.invariant.listed
