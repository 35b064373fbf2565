use Rattle.std.proofs.{Common.{List, [], refl, sym, subst, arith}, lemmas.List.take_all}
use Rattle.theorem.{specs.{Story.Tells, declared.asks.{Asked.Asked, Seen.Seen}}, proofs.Lists.more}
use Rattle.theorem.proofs.stories.all_seen.Goals as goal

pub loop-ask-init : goal.loop-ask-init
loop-ask-init g c = record {
  told = λ w off.
      let P : List Seen → Type 0 = λ ys. Tells c.args.shape.now w [] ys w in
      (w, subst P (sym c.requires.none) refl, off);
  count = c.requires.empty;
  room = c.requires.room;
}

pub loop-ask-preserved : goal.loop-ask-preserved
loop-ask-preserved g c = record {
  told = λ w off.
      let inv = c.loop-ask.invariant.told w off in
      let did = c.step-next.ensures inv.0 inv.2 in
      (did.0, more c.args.shape.now w inv.0 did.0 c.args.asked.now c.loop-ask.ask-index c.ask-item.result c.loop-ask.seen.items c.push_reserved.new.self.items c.step-next.result.1 c.loop-ask-test.true c.ask-item.is c.push_reserved.ensures.items inv.1 did.1, did.2);
  count = omega (arith, c.loop-ask.invariant.count, c.push_reserved.ensures.len);
  room = omega (arith, c.loop-ask.invariant.room, c.push_reserved.ensures.capacity);
}

pub returns-clause-told : goal.returns-clause-told
returns-clause-told g c = λ w off.
    let size = c.args.shape.now in
    let inv = c.loop-ask.invariant.told w off in
    let P : List Asked → Type 0 = λ xs. Tells size w xs c.loop-ask.seen.items inv.0 in
    (inv.0, subst P (take_all c.loop-ask.ask-index c.args.asked.now c.loop-ask-test.false) inv.1, c.left.ensures.off size inv.0 inv.2)
