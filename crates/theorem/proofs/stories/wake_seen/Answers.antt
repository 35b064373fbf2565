use Rattle.std.proofs.{Common.{◌∙◌, sym, ap, subst, length, ⊎_elim}, lemmas.List.length-replicate}
use Rattle.board_model.specs.Shapes.{IsSize, ram_bytes_of}
use Rattle.store.specs.Views.{device_of, size_of_store, now_state, view_of}
use Rattle.theorem.proofs.Loads.{woke, not_woken, not_consumed, whole_now}
use Rattle.theorem.proofs.stories.wake_seen.Goals as goal

pub returns-in-Ok-wake_image : goal.returns-in-Ok-wake_image
returns-in-Ok-wake_image c = λ w on.
    let did = c.in-Ok-wake_image.ensures in
    woke c.args.shape.now w (view_of c.args.store.now) (view_of c.wake_image.new.store) on did.stays.board c.in-Ok-wake_image.hart c.wake_image.new.ram did.consumed.0 c.requires did.woken (did.consumed.1.answered c.requires)

pub returns-in-Err : goal.returns-in-Err
returns-in-Err c = λ w on.
    let shape = c.args.shape.now in
    let old = c.args.store.now in
    let new = c.wake_image.new.store in
    let did = c.in-Err.ensures in
    let e = c.in-Err.refusal in
    let fits = ap length c.in-Ok.ensures.zeros ∙ (length-replicate (ram_bytes_of shape) 0 ∙ ap ram_bytes_of (sym on.board)) in
    ⊎_elim
    (λ is. not_woken shape w (view_of old) (view_of new) on did.stays.board c.in-Ok.ram e c.requires is.why is.left.life
    (c.whole_images_load.ensures (device_of old) (device_of new) (size_of_store old) (now_state old) c.in-Ok.ram e (subst IsSize (sym on.board) c.shape_in_range.ensures) (whole_now shape w (view_of old) (view_of new) on did.stays.board) fits is.why))
    (λ is. not_consumed shape w (view_of old) (view_of new) on did.stays.board c.wake_image.new.ram e c.requires is.0 (is.1.answered c.requires))
    did.refused
