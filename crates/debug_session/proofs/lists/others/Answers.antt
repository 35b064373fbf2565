use Rattle.std.proofs.Common.{◌∙◌, ◌+◌, [], ◌∷◌, ◌++◌, ap, sym}
use Rattle.debug_session.{specs.Packets.digit_of, proofs.Counted.counted_more}
use Rattle.debug_session.proofs.lists.others.Goals as goal

pub loop-hart-preserved : goal.loop-hart-preserved
loop-hart-preserved c =
    c.in_ok-put_thread.ensures
    ∙ ap (λ x. x ++ 44 ∷ digit_of (c.loop-hart.hart + 1) ∷ []) c.loop-hart.invariant
    ∙ sym (counted_more (λ h. 44 ∷ digit_of (h + 1) ∷ []) c.loop-hart.hart)
