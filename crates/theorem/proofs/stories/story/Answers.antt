use Rattle.std.proofs.Common.{◌∙◌}
use Rattle.disk.specs.FaultState.{no_fault}
use Rattle.theorem.{specs.Story.begin, proofs.Opens.{begins, ends_at_rest}}
use Rattle.theorem.proofs.stories.story.Goals as goal

pub returns-in-Ok-clause-told : goal.returns-in-Ok-clause-told
returns-in-Ok-clause-told g c =
    let formatted = c.in_ok-format.ensures in
    let off = begins c.args.shape.now _ no_fault _ formatted.ok (formatted.cause ∙ c.in_ok-disk.ensures.no_fault) in
    let did = c.in-Ok.ensures.told (begin no_fault) (ends_at_rest c.args.shape.now (begin no_fault) _ _ off) in
    (did.0, did.1)
