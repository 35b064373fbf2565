use Rattle.std.proofs.Common.{List, None, ℕ, ◌≡◌, ◌∙◌, refl, sym, subst}
use Rattle.model_board.specs.{Boards.{Board, Off}, Plain.standing}
use Rattle.board_space.{specs.Rows.Stands, proofs.Covered.for_self}
use Rattle.board_space.proofs.space.BoardSpaceSystem.start.Goals as goal

pub returns-clause-first : goal.returns-clause-first
returns-clause-first c =
    let start : Board = Off (standing c.tell_first.new.self.reason None) in
    let is : c.in_ok-to_vec.field-0.items ≡ c.tell_first.new.self.row.items = c.in_ok-to_vec.ensures.items_if_clones_equal (λ x y same. same) ∙ c.as_slice.ensures.value in (
      start,
      (0, refl),
      (
        start,
        subst (λ (r : List ℕ). Stands c.tell_first.new.self.rows r start) (sym is) c.in_ok-tell_first.ensures.first,
        for_self c.tell_first.new.self.leaves start,
      ),
    )
