use Rattle.theorem.{specs.Told.unpowered, proofs.Opens.{begins_at_rest, ends_at_rest}}
use Rattle.theorem.proofs.stories.story_on.Goals as goal

pub returns-clause-told : goal.returns-clause-told
returns-clause-told g c = λ w rests.
    let size = c.args.shape.now in
    let did = c.all_seen.ensures.told (unpowered w) (begins_at_rest c.content_determines_state.ensures.one size w _ _ rests) in
    (did.0, did.1, ends_at_rest size did.0 _ _ did.2)
