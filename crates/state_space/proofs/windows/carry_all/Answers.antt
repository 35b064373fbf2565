use Rattle.std.proofs.Common.{◌∙◌, List, ℕ, subst, sym, arith}
use Rattle.state_space.{specs.{Carried.IsPushed, Successors.found_row}, proofs.{Carrying.carried_more, Priced.stays_on}}
use Rattle.state_space.proofs.windows.carry_all.Goals as goal

pub carry_one-requires-clause-stands : goal.carry_one-requires-clause-stands
carry_one-requires-clause-stands g c κs within =
    let known = c.requires.known c.loop-index.index (omega (arith, c.loop-index-test.true, c.count-index-end.ensures)) in
    (known.0, subst (λ r. g.S.System.stands c.args.from.now r known.0) (sym c.row.ensures.row) known.1)

pub loop-index-preserved : goal.loop-index-preserved
loop-index-preserved g c =
    let s = g.S.System in
    let until = c.loop-index.invariant in
    let pushed = subst (λ (e : ℕ). IsPushed (s.stands c.args.from.now) (s.stands c.carry_one.new.system) c.loop-index.found c.carry_one.new.found e (found_row c.args.successors.now c.loop-index.index)) c.event.ensures
    (subst (λ (r : List ℕ). IsPushed (s.stands c.args.from.now) (s.stands c.carry_one.new.system) c.loop-index.found c.carry_one.new.found c.event.result r) c.row.ensures.row c.in_ok-carry_one.ensures.pushed) in
    record {
      setting = c.carry_one.ensures.setting ∙ until.setting;
      stays = stays_on (s.stands c.args.system.now) (s.stands c.loop-index.system) (s.stands c.carry_one.new.system) until.stays c.carry_one.ensures.stays;
      width = c.carry_one.ensures.width ∙ until.width;
      knows = c.carry_one.ensures.knows;
      carried = carried_more (s.stands c.args.from.now) (s.stands c.loop-index.system) (s.stands c.carry_one.new.system) c.args.successors.now c.loop-index.found c.carry_one.new.found c.loop-index.index
          c.carry_one.ensures.stays (omega (arith, c.loop-index-test.true, c.count-index-end.ensures)) until.carried pushed;
    }
