use Rattle.std.proofs.{Common.{◌∙◌, ◌<◌, length, length-set, sym, subst, arith}, lemmas.List.Elements.All-same}
use Rattle.state_space.{specs.Carried.{AreMade, IsMade}, proofs.Carrying.{all_later, later_on}}
use Rattle.state_space.proofs.windows.Workers.enter_all.Goals as goal

pub enter_share-requires-clause-setting : goal.enter_share-requires-clause-setting
enter_share-requires-clause-setting g c κs within =
    let s = g.S.System in
    let worker = c.index_mut-worker.result.now in
    let are = subst (AreMade s.setting s.rules s.stands g.S.Carries.knows c.loop-index.system c.loop-index.graph) (sym c.index_mut-worker.ensures.value) (c.loop-index.invariant.made c.loop-index.index worker (omega (arith, c.loop-index-test.true, c.loop-index.auto.index-end, c.len-index-end.ensures, c.loop-index.invariant.long))) in
    sym are.beside.alike

pub enter_share-requires-clause-made : goal.enter_share-requires-clause-made
enter_share-requires-clause-made g c κs within =
    let s = g.S.System in
    let worker = c.index_mut-worker.result.now in
    let are = subst (AreMade s.setting s.rules s.stands g.S.Carries.knows c.loop-index.system c.loop-index.graph) (sym c.index_mut-worker.ensures.value) (c.loop-index.invariant.made c.loop-index.index worker (omega (arith, c.loop-index-test.true, c.loop-index.auto.index-end, c.len-index-end.ensures, c.loop-index.invariant.long))) in
    All-same (IsMade (s.rules (s.setting c.loop-index.system)) (s.stands c.loop-index.system) (s.stands worker.system) c.loop-index.graph) c.deref.result.now worker.made.items c.deref.ensures.value are.each

pub enter_share-requires-clause-knows : goal.enter_share-requires-clause-knows
enter_share-requires-clause-knows g c κs within =
    let s = g.S.System in
    let worker = c.index_mut-worker.result.now in
    let are = subst (AreMade s.setting s.rules s.stands g.S.Carries.knows c.loop-index.system c.loop-index.graph) (sym c.index_mut-worker.ensures.value) (c.loop-index.invariant.made c.loop-index.index worker (omega (arith, c.loop-index-test.true, c.loop-index.auto.index-end, c.len-index-end.ensures, c.loop-index.invariant.long))) in
    are.beside.to_main

pub loop-index-preserved : goal.loop-index-preserved
loop-index-preserved g c =
    let s = g.S.System in
    let until = c.loop-index.invariant in
    let worker = c.index_mut-worker.result.now in
    let laws = g.met.S.Carries g.world.𝓛 g.world.𝓜 g.world.𝓡 ((λ s x. x), (λ x. x), (λ x. x), λ x. x) in
    let made = AreMade s.setting s.rules s.stands g.S.Carries.knows in
    let later = c.in_ok-enter_share.ensures.later in
    let lt : c.loop-index.index < length c.loop-index.self.workers.items = omega (arith, c.loop-index-test.true, c.loop-index.auto.index-end, c.len-index-end.ensures, until.long) in
    let are = subst (made c.loop-index.system c.loop-index.graph) (sym c.index_mut-worker.ensures.value) (until.made c.loop-index.index worker lt) in
    record {
      long = length-set c.loop-index.self.workers.items c.loop-index.index _ ∙ until.long;
      made = all_later s.setting s.rules s.stands g.S.Carries.knows laws.knows_on c.loop-index.system c.enter_share.new.system c.loop-index.graph c.enter_share.new.graph c.enter_share.ensures.setting until.searched later
          c.loop-index.self.workers.items c.loop-index.index worker c.enter_share.new.memo c.enter_share.ensures.knows are until.made;
      setting = c.enter_share.ensures.setting ∙ until.setting;
      searched = c.in_ok-enter_share.ensures.searched;
      later = later_on (s.stands c.args.system.now) (s.stands c.loop-index.system) (s.stands c.enter_share.new.system) c.args.graph.now c.loop-index.graph c.enter_share.new.graph until.later later;
      width = c.in_ok-enter_share.ensures.width ∙ until.width;
      found_width = c.enter_share.ensures.found_width ∙ until.found_width;
    }
