use Rattle.std.{proofs.{Common.{ℕ, List, ◌≢◌, ◌∙◌, ◌<◌, length, ap, subst}, lemmas.Result.IfOk-weaker}, specs.Prelude.slice_index}
use Rattle.board_model.specs.Shapes.{ram_bytes_of}
use Rattle.board_space.specs.{Layouts.{base_of, size_of, tracked_of}, Mapped.map_in, Tracked.IsTracked, declared.row_layout.Layout.Layout}
use Rattle.board_space.proofs.Ready.{tracks_by}
use Rattle.board_space.proofs.space.rows_of.Goals as goal

pub returns-clause-size : goal.returns-clause-size
returns-clause-size c = IfOk-weaker c.new-2.result _ _ (λ rows is. ap (λ (l : Layout). size_of l) is ∙ c.in_ok-layout.ensures.size) c.new-2.ensures

pub returns-clause-base : goal.returns-clause-base
returns-clause-base c = IfOk-weaker c.new-2.result _ _ (λ rows is. ap (λ (l : Layout). base_of l) is ∙ c.in_ok-layout.ensures.base) c.new-2.ensures

pub returns-clause-tracks : goal.returns-clause-tracks
returns-clause-tracks c =
    let layout = c.in_ok-layout.layout in
    let masks = c.in_ok-masks.masks.items in
    let long = layout.whole ∙ ap ram_bytes_of c.in_ok-layout.ensures.size in
    let covers : (k : ℕ) → k < length masks → slice_index masks k ≢ 0 → IsTracked (tracked_of layout) k
    = subst (λ (m : List ℕ). (k : ℕ) → k < length m → slice_index m k ≢ 0 → IsTracked (tracked_of layout) k) c.deref.ensures.value c.in_ok-layout.ensures.covers in
    IfOk-weaker c.new-2.result _ _
    (λ rows is. tracks_by rows.layout layout (map_in c.args.map.now) masks (ram_bytes_of c.args.shape.now) is (ap (λ (l : Layout). length (base_of l)) is ∙ long) c.in_ok-masks.ensures.long c.in_ok-masks.ensures.masks covers)
    c.new-2.ensures
