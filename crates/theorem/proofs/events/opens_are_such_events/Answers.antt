use Rattle.std.proofs.Common.{inl, inr, ⊎_elim}
use Rattle.theorem.proofs.Calls.{finds_state, finds_either, opened, under_way}
use Rattle.theorem.proofs.events.opens_are_such_events.Goals as goal

pub returns-clause-up : goal.returns-clause-up
returns-clause-up g c w life disk size z s lived calm only leaves = finds_state w life s lived (only.only z s leaves).1

pub returns-clause-down : goal.returns-clause-down
returns-clause-down g c w life change disk size z s lived doubt either leaves = finds_either w life change s lived doubt (either.only z s leaves).1

pub returns-clause-under_way : goal.returns-clause-under_way
returns-clause-under_way g c w life change old new left size z s lived calm reaches since at stands =
    under_way w life change s lived calm reaches
    (⊎_elim (λ was. inl (c.content_determines_state.ensures.one left z size s _ stands was).1) (λ is. inr (c.content_determines_state.ensures.one left z size s _ stands is).1) (since.each left at))

pub returns-clause-begins : goal.returns-clause-begins
returns-clause-begins g c = opened
