use Rattle.std.proofs.Common.{◌∙◌, List, ℕ, subst, sym, arith}
use Rattle.state_space.{specs.{Carried.IsPushed, Successors.found_row}, proofs.Carrying.{carried_more, stays_same}}
use Rattle.state_space.proofs.workers.know_all.Goals as goal

pub know_one-requires-clause-stands : goal.know_one-requires-clause-stands
know_one-requires-clause-stands g c κs within =
    let known = c.requires.stands c.loop-index.index (omega (arith, c.loop-index-test.true, c.count-index-end.ensures)) in
    (known.0, subst (λ r. g.S.System.stands c.args.system.now r known.0) (sym c.row.ensures.row) known.1)

pub loop-index-preserved : goal.loop-index-preserved
loop-index-preserved g c =
    let s = g.S.System in
    let until = c.loop-index.invariant in
    let pushed = subst (λ (e : ℕ). IsPushed (s.stands c.args.system.now) (s.stands c.args.main.now) c.loop-index.known c.know_one.new.known e (found_row c.args.found.now c.loop-index.index)) c.event-event.ensures
    (subst (λ (r : List ℕ). IsPushed (s.stands c.args.system.now) (s.stands c.args.main.now) c.loop-index.known c.know_one.new.known c.event-event.result r) c.row.ensures.row (c.in_ok-know_one.ensures.pushed (cc (c.if-not-branch.false)))) in
    record {
      width = c.know_one.ensures.width ∙ until.width;
      carried = carried_more (s.stands c.args.system.now) (s.stands c.args.main.now) (s.stands c.args.main.now) c.args.found.now c.loop-index.known c.know_one.new.known c.loop-index.index
          (stays_same (s.stands c.args.main.now)) (omega (arith, c.loop-index-test.true, c.count-index-end.ensures)) until.carried pushed;
    }
