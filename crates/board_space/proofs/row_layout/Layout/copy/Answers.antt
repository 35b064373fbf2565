use Rattle.std.proofs.Common.{ℕ, List, ◌≡◌, ◌∙◌, ◌+◌, length, sym, ap}
use Rattle.board_space.proofs.Carried.{pool_count, pool_tracked}
use Rattle.board_space.proofs.row_layout.Layout.copy.Goals as goal

pub invariant_of-result : goal.invariant_of-result
invariant_of-result c =
    let self = c.args.self.now in
    let pool = c.in_ok-copy.field-0 in
    let copied = c.in_ok-copy.ensures in
    let count = pool_count self.tracked pool copied.words copied.ends in
    let base : c.in_ok-to_vec.field-0.items ≡ self.base.items = c.in_ok-to_vec.ensures.items_if_clones_equal (λ x y same. same) ∙ c.as_slice.ensures.value in
    record {
      wide = self.wide ∙ ap (λ (n : ℕ). 1 + self.shape.harts + n) (sym count);
      whole = ap (λ (l : List ℕ). length l) base ∙ self.whole;
      within = λ word at. self.within word (pool_tracked pool self.tracked (sym copied.words) (sym copied.ends) word at);
    }
