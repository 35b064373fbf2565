use Rattle.std.proofs.Common.{◌+◌, ◌∙◌, ℕ, List, ap, drop}
use Rattle.debug_session.{specs.Packets.{led_by, spelled_by}, proofs.Written.front_here}
use Rattle.debug_session.proofs.frames.unescaped.Goals as goal

pub loop-byte-preserved : goal.loop-byte-preserved
loop-byte-preserved c =
    let body = c.args.body.now in
    let i = c.loop-byte.byte-index in
    c.in_ok-after_escape.ensures (drop (i + 1) body)
    ∙ ap (λ (xs : List ℕ). led_by c.loop-byte.out.items (spelled_by c.loop-byte.after_escape xs)) (front_here body i c.loop-byte-test.true)
    ∙ c.loop-byte.invariant
