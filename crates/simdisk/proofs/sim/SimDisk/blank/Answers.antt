use Rattle.std.proofs.{Common.{◌≡◌, ◌∙◌, ℕ, replicate, sym}, lemmas.List.{ext_get_or, length-replicate}}
use Rattle.simdisk.proofs.sim.SimDisk.blank.Goals as goal

pub returns-clause-fresh : goal.returns-clause-fresh
returns-clause-fresh c =
    let zeros : c.in_ok-content.content.items ≡ replicate c.args.sectors (replicate 512 0) =
    c.in_ok-content.ensures.items_if_clones_equal (λ y h. ext_get_or 0 y (replicate 512 0) (h.long ∙ sym (length-replicate {A = ℕ} 512 0)) (λ i lt. h.at i 0 0 (rw (← h.long) lt))) in
    rw (← zeros) c.holding.ensures.fresh

pub returns-clause-log : goal.returns-clause-log
returns-clause-log c =
    let zeros : c.in_ok-content.content.items ≡ replicate c.args.sectors (replicate 512 0) =
    c.in_ok-content.ensures.items_if_clones_equal (λ y h. ext_get_or 0 y (replicate 512 0) (h.long ∙ sym (length-replicate {A = ℕ} 512 0)) (λ i lt. h.at i 0 0 (rw (← h.long) lt))) in
    rw (← zeros) c.holding.ensures.log
