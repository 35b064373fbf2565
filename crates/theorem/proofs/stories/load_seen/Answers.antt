use Rattle.std.proofs.{Common.{◌∙◌, sym, ap, subst, length}, lemmas.List.length-replicate}
use Rattle.board_model.specs.Shapes.{IsSize, ram_bytes_of}
use Rattle.store.specs.Views.{device_of, size_of_store, now_state, view_of}
use Rattle.theorem.proofs.Loads.{not_loaded, whole_now}
use Rattle.theorem.proofs.stories.load_seen.Goals as goal

pub returns-in-Err : goal.returns-in-Err
returns-in-Err c = λ w on.
    let shape = c.args.shape.now in
    let old = c.args.store.now in
    let new = c.load_image.new.self in
    let did = c.in-Err.ensures in
    let fits = ap length c.in-Ok.ensures.zeros ∙ (length-replicate (ram_bytes_of shape) 0 ∙ ap ram_bytes_of (sym on.board)) in
    not_loaded shape w (view_of old) (view_of new) on did.stays.board c.in-Ok.ram c.in-Err.refusal did.refused did.life
    (c.whole_images_load.ensures (device_of old) (device_of new) (size_of_store old) (now_state old) c.in-Ok.ram c.in-Err.refusal (subst IsSize (sym on.board) c.shape_in_range.ensures) (whole_now shape w (view_of old) (view_of new) on did.stays.board) fits did.refused)
