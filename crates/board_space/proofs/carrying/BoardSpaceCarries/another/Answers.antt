use Rattle.std.proofs.Common.{List, ℕ, ◌≡◌, ◌∙◌, ◌≤◌, length, sym, ap, subst}
use Rattle.board_model.specs.Shapes.{ram_bytes_of}
use Rattle.model_board.specs.Masks.{Masks, map_of}
use Rattle.board_space.specs.{Layouts.{base_of, laid_by, size_of}, Ready.{Tracks, boot_memory}, declared.row_layout.Layout.Layout}
use Rattle.board_space.proofs.{Carried.{same_base, tracks_too}, Ready.boot_on_base}
use Rattle.board_space.proofs.carrying.BoardSpaceCarries.another.Goals as goal

pub invariant_of-result : goal.invariant_of-result
invariant_of-result c =
    let self = c.args.self.now in
    let items = c.in_ok-to_vec.field-0.items in
    let layout = c.in_ok-new.field-0.layout in
    let is : items ≡ self.payload.items = c.in_ok-to_vec.ensures.items_if_clones_equal (λ x y same. same) ∙ c.as_slice.ensures.value in
    let made : layout ≡ c.in_ok-layout.layout = c.in_ok-new.ensures in
    let laid : laid_by layout ≡ laid_by self.rows.layout = ap (λ (l : Layout). laid_by l) made ∙ (c.in_ok-layout.ensures.laid ∙ ap (λ (l : Layout). laid_by l) c.layout.ensures) in
    let size : size_of layout ≡ self.shape = ap (λ (l : Layout). size_of l) made ∙ (c.in_ok-layout.ensures.size ∙ (ap (λ (l : Layout). size_of l) c.layout.ensures ∙ self.size)) in
    let base : base_of layout ≡ boot_memory self.shape items = same_base self.rows.layout layout laid ∙ (self.base ∙ ap (λ (p : List ℕ). boot_memory self.shape p) (sym is)) in
    record {
      fits = subst (λ (p : List ℕ). length p ≤ ram_bytes_of self.shape) (sym is) self.fits;
      size = size;
      base = base;
      tracks = subst (λ (m : Masks). Tracks layout (map_of m)) (sym c.map.view_is)
          (subst (λ (m : Masks). Tracks layout (map_of m)) (sym c.in-Ok.ensures.same) (tracks_too self.rows.layout layout laid (map_of self.map) self.tracks));
      based = record {
        size = c.in_ok-first_board.ensures.raw ∙ sym size;
        memory = boot_on_base layout c.in_ok-first_board.field-0.machine.memory (c.in_ok-first_board.ensures.memory ∙ (ap (λ (p : List ℕ). boot_memory self.shape p) (sym is) ∙ sym base));
      };
    }
