use Rattle.std.proofs.{Common.{◌≡◌, ◌∙◌, ℕ, replicate, ap, rules, arith}, lemmas.List.places}
use Rattle.simdisk.proofs.laid.fill_range.Goals as goal

pub returns : goal.returns
returns c =
    let filled : c.fill_all.new.sectors ≡ replicate c.args.count c.args.bytes.now = c.fill_all.ensures ∙ ap (λ (n : ℕ). replicate n c.args.bytes.now) (search (rules, places, arith)) in
    rw filled (search (rules, places, arith))
