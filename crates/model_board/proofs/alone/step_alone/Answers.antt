use Rattle.std.proofs.Common.{ℕ, List, subst}
use Rattle.hart.specs.{Means.Steps, declared.Outcome.TheVariants.Next}
use Rattle.model_board.{specs.Masks.{map_of, IsAloneBy}, proofs.ByMap.alone_by}
use Rattle.model_board.proofs.alone.step_alone.Goals as goal

pub returns-clause-alone : goal.returns-clause-alone
returns-clause-alone c = λ e. alone_by (map_of c.args.map.now) c.args.hart.now.id c.args.pending c.args.hart.now c.step_on.new.hart c.args.ram.now c.step_on.new.ram c.footprint_of-footprint.result c.footprint_of-footprint.ensures.covers
    (subst (λ (h : ℕ). IsAloneBy (map_of c.args.map.now) h c.footprint_of-footprint.result) c.id.ensures (c.is_local.ensures c.if-not-is_local.false))
    (subst (λ (m : List ℕ). Steps c.args.pending c.args.hart.now m c.step_on.new.hart c.step_on.new.ram Next) c.footprint_of-footprint.ensures.same (c.step_on.ensures.steps e))
