use Rattle.std.proofs.Common.{ℕ, List, ◌≡◌, ◌∙◌, ◌≤◌, length, sym, ap, subst}
use Rattle.board_model.specs.Shapes.{ram_bytes_of}
use Rattle.board_space.{specs.Ready.boot_memory, proofs.Ready.boot_on_base}
use Rattle.board_space.proofs.space.BoardSpace.new.Goals as goal

pub invariant_of-result : goal.invariant_of-result
invariant_of-result c =
    let items = c.in_ok-payload.payload.items in
    let is : items ≡ c.args.payload.now = c.in_ok-payload.ensures.items_if_clones_equal (λ x y same. same) in
    let boot : boot_memory c.args.shape.now items ≡ boot_memory c.args.shape.now c.args.payload.now = ap (λ (p : List ℕ). boot_memory c.args.shape.now p) is in
    let base = c.in_ok-rows.ensures.base ∙ sym boot in
    record {
      fits = subst (λ (p : List ℕ). length p ≤ ram_bytes_of c.args.shape.now) (sym is) c.requires;
      size = c.in_ok-rows.ensures.size;
      base = base;
      tracks = c.in_ok-rows.ensures.tracks;
      based = record {
        size = c.in_ok-board.ensures.raw ∙ sym c.in_ok-rows.ensures.size;
        memory = boot_on_base c.in_ok-rows.rows.layout c.in_ok-board.board.machine.memory (c.in_ok-board.ensures.memory ∙ sym c.in_ok-rows.ensures.base);
      };
    }
