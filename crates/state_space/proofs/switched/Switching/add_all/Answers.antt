use Rattle.std.proofs.Common.{◌≡◌, ◌∙◌, ℕ, subst, arith}
use Rattle.state_space.{specs.{Successors.found_count, Switched.{AreListed, IsPriced, row_within}}, proofs.Listing.listed_more}
use Rattle.state_space.proofs.switched.Switching.add_all.Goals as goal

pub loop-index-preserved : goal.loop-index-preserved
loop-index-preserved g c =
    let until = c.loop-index.invariant in
    record {
      system = until.system;
      switches = until.switches;
      width = c.add.ensures.width ∙ until.width;
      listed = λ w last left.
          listed_more (λ event u. IsPriced c.args.is_free w (g.S.Preempted.by event) u) row_within c.args.successors.now c.loop-index.found c.add.new.found c.loop-index.index (until.listed w last left)
          (c.in_ok-add.ensures.told w last left);
    }

pub returns-clause-listed : goal.returns-clause-listed
returns-clause-listed g c w last left =
    let is : c.loop-index.index ≡ found_count c.args.successors.now = omega (arith, c.loop-index-test.false, c.loop-index.auto.index-end, c.count-index-end.ensures) in
    subst (λ (n : ℕ). AreListed g.S.Preempted.by c.args.is_free w c.args.successors.now c.loop-index.found n) is (c.loop-index.invariant.listed w last left)
