use Rattle.std.proofs.Common.{◌∙◌, arith, sym}
use Rattle.hart_threads.proofs.Promising.{all_taken, none_taken, one_taken}
use Rattle.hart_threads.proofs.works.joined.Goals as goal

pub loop-handle-init : goal.loop-handle-init
loop-handle-init g c =
    let gives = c.into_iter-handle-iterator.ensures.into_iter_gives in
    let many = gives.1 in
    let room = c.requires in
    (omega (arith, many, room), omega (arith, many), none_taken _ _ _ _ gives.0)

pub loop-handle-preserved : goal.loop-handle-preserved
loop-handle-preserved g c =
    let i = c.loop-handle.invariant in
    let steps = c.in-Some.ensures.steps in
    let push = c.push_reserved.ensures in
    let room = i.0 in
    let count = i.1 in
    let long = push.len in
    let same = push.capacity in
    let fewer = steps.1 in
    (omega (arith, room, long, same, fewer), omega (arith, count, long, fewer), one_taken _ c.args.handles.items _ _ c.args.given.items _ _ _ _ steps.0 push.items c.join.ensures i.2)

pub returns-clause-kept : goal.returns-clause-kept
returns-clause-kept g c = all_taken _ _ _ _ _ (sym c.loop-handle.handle-iterator.rest.ok.0 ∙ c.in-None.ensures.steps.0) c.loop-handle.invariant.2
