use Rattle.std.proofs.Common.{◌≡◌, ◌∙◌, ℕ, ◌-◌, ◌≤◌, List, ◌++◌, length, sym, ap, replicate, take, drop, arith, length-take}
use Rattle.std.proofs.lemmas.List.{take-append-drop}
use Rattle.layout.specs.Fields.{sector_of}
use Rattle.layout.proofs.fields.Filling.finish.Goals as goal

whole : (filled : ℕ) (sector : List ℕ) → length sector ≡ 512 → filled ≤ 512 → drop filled sector ≡ replicate (512 - filled) 0 → sector ≡ sector_of (take filled sector)
unfolding sector_of
whole filled sector long fits zeros =
    let count : length (take filled sector) ≡ filled = omega (arith, length-take filled sector) in
    sym (take-append-drop filled sector) ∙ ap (λ (rest : List ℕ). take filled sector ++ rest) zeros
    ∙ ap (λ (n : ℕ). take filled sector ++ replicate (512 - n) 0) (sym count)

pub returns : goal.returns
returns c = whole c.self.inside.filled c.self.inside.sector c.self.invariant.1 c.self.invariant.0 c.self.invariant.2 ∙ ap sector_of c.self.view_is
