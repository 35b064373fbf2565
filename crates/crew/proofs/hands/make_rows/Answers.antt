use Rattle.std.proofs.{Common.{◌∙◌, ◌<◌, ℕ, Some, subst, sym, length}, lemmas.List.Elements.All-pop}
use Rattle.crew.specs.Handed.{IsPlaced}
use Rattle.crew.proofs.hands.make_rows.Goals as goal

pub place_one-requires-clause-made : goal.place_one-requires-clause-made
place_one-requires-clause-made g c κs within =
    let is = g.T.Task.is_row c.args.task.now in
    let found = All-pop (IsPlaced is c.args.first (length c.args.slots.now)) c.loop-one.made.items c.pop.new.self.items (Some c.in-Some.one) c.in-Some.ensures.items c.loop-one.invariant.made in
    subst (λ (n : ℕ). IsPlaced is c.args.first n c.in-Some.one) (sym c.loop-one.invariant.as_many) found.1

pub loop-one-preserved : goal.loop-one-preserved
loop-one-preserved g c =
    let is = g.T.Task.is_row c.args.task.now in
    let i = c.loop-one.invariant in record {
      as_many = c.place_one.ensures.as_many ∙ i.as_many;
      made = (All-pop (IsPlaced is c.args.first (length c.args.slots.now)) c.loop-one.made.items c.pop.new.self.items (Some c.in-Some.one) c.in-Some.ensures.items i.made).0;
      slots = λ k d lt. c.place_one.ensures.slots k d (subst (λ (n : ℕ). k < n) (sym i.as_many) lt);
    }
