use Rattle.std.proofs.{Common.{refl, sym, ◌∙◌, ap, subst, inr, ⊎_elim}, lemmas.Result.err_from_is_err_and}
use Rattle.board_model.specs.Durable.{Consume}
use Rattle.disk.specs.Facts.{LeavesSince}
use Rattle.store.specs.{Lives.Life, Views.{now_state, view_of}}
use Rattle.susp.specs.Wakes.{StoreIsLeft}
use Rattle.susp.proofs.Woken.{answered_on, left_now, unloaded, unconsumed, unlike_a_load, unloaded_same, stops_at_load, stops_later}
use Rattle.susp.proofs.wakes.wake_image.Goals as goal

pub returns-in_err-apply-clause-refused : goal.returns-in_err-apply-clause-refused
returns-in_err-apply-clause-refused g c =
    let p = err_from_is_err_and c.from_residual-in_err-apply.result c.from_residual-in_err-apply.ensures.1 in
    let old = c.args.store.now in
    let mid = c.load_image.new.self in
    let e = c.in_ok-load_image.ensures in
    let a = c.in_err-apply.ensures.asked in
    let first : LeavesSince (g.D.Disk.facts old.disk) (g.D.Disk.facts mid.disk) (g.D.Disk.facts old.disk).may_leave =
    e.reads_alone.any_moment in
    rw (p.1, p.2)
    (inr (
      e.loads,
      record {
        answered = λ none. answered_on (view_of old) (view_of mid) (view_of c.apply.new.self) Consume _ e.life e.stays.board e.no_failure.1 e.no_failure.0 e.reads_alone.content first
            (c.stands.ensures.up _ (none, refl)) (a.answered (ap (λ (x : Life). x.doubt) e.life ∙ none));
        down = λ d is. let b = a.down d (ap (λ (x : Life). x.doubt) e.life ∙ is) in (b.0, subst (λ s. StoreIsLeft old s) (sym b.1) (record { life = e.life; crash = e.reads_alone.crash }));
      },
    ))

pub returns-clause-consumed : goal.returns-clause-consumed
returns-clause-consumed g c =
    let old = c.args.store.now in
    let mid = c.load_image.new.self in
    let e = c.in_ok-load_image.ensures in
    let a = c.in_ok-apply.ensures.asked in
    let first : LeavesSince (g.D.Disk.facts old.disk) (g.D.Disk.facts mid.disk) (g.D.Disk.facts old.disk).may_leave =
    e.reads_alone.any_moment in (
      _,
      record {
        answered = λ none. answered_on (view_of old) (view_of mid) (view_of c.apply.new.self) Consume _ e.life e.stays.board e.no_failure.1 e.no_failure.0 e.reads_alone.content first
            (c.stands.ensures.up _ (none, refl)) (a.answered (ap (λ (x : Life). x.doubt) e.life ∙ none));
        down = λ d is. let b = a.down d (ap (λ (x : Life). x.doubt) e.life ∙ is) in absurd (let n : ⊥ = cc in n);
      },
    )

pub returns-in_err-load_image-clause-answers : goal.returns-in_err-load_image-clause-answers
returns-in_err-load_image-clause-answers g c wakes =
    let p = err_from_is_err_and c.from_residual.result c.from_residual.ensures.1 in
    let old = c.args.store.now in
    let mid = c.load_image.new.self in
    let why = c.in_err-load_image.ensures.refused in
    let left = left_now (g.D.Disk.facts old.disk) old.shape (now_state old) (g.met.D.Disk.may_keep _) (c.stands.ensures.up _ (wakes.up, refl)) in
    let size = c.kept_disks.ensures.sized old.disk old.shape (now_state old) left in
    rw (p.1, p.2)
    (unloaded old.shape (now_state old) c.args.ram.now (g.D.Disk.facts old.disk) (g.D.Disk.fault_state old.disk) _ (g.D.Disk.facts mid.disk) (g.D.Disk.fault_state mid.disk) wakes.reaches.2
    (c.whole_images_load.ensures old.disk mid.disk old.shape (now_state old) c.args.ram.now _ size wakes.whole wakes.fits why) why)

pub returns-in_err-apply-clause-answers : goal.returns-in_err-apply-clause-answers
returns-in_err-apply-clause-answers g c wakes =
    let p = err_from_is_err_and c.from_residual-in_err-apply.result c.from_residual-in_err-apply.ensures.1 in
    let old = c.args.store.now in
    let mid = c.load_image.new.self in
    let e = c.in_ok-load_image.ensures in
    let a = c.in_err-apply.ensures.asked in
    rw (p.1, p.2)
    (unconsumed (view_of old) (view_of c.apply.new.self) _ wakes.reaches
    (answered_on (view_of old) (view_of mid) (view_of c.apply.new.self) Consume _ e.life e.stays.board e.no_failure.1 e.no_failure.0 e.reads_alone.content e.reads_alone.any_moment
    (c.stands.ensures.up _ (wakes.up, refl)) (a.answered (ap (λ (x : Life). x.doubt) e.life ∙ wakes.up))))

-- What refuses a Consume where an image stands refuses no load.
pub returns-in_err-apply-clause-untouched : goal.returns-in_err-apply-clause-untouched
returns-in_err-apply-clause-untouched g c =
    let p = err_from_is_err_and c.from_residual-in_err-apply.result c.from_residual-in_err-apply.ensures.1 in
    let e = c.in_ok-load_image.ensures in
    let other = unlike_a_load c.args.store.now c.load_image.new.self c.apply.new.self e.loads.0 _ e.loads.1 e.life c.in_err-apply.ensures.asked in
    rw (p.1, p.2) (λ is. absurd (⊎_elim other.0 other.1 is))

pub returns-in_err-apply-clause-stops : goal.returns-in_err-apply-clause-stops
returns-in_err-apply-clause-stops g c =
    let p = err_from_is_err_and c.from_residual-in_err-apply.result c.from_residual-in_err-apply.ensures.1 in
    let e = c.in_ok-load_image.ensures in
    let other = unlike_a_load c.args.store.now c.load_image.new.self c.apply.new.self e.loads.0 _ e.loads.1 e.life c.in_err-apply.ensures.asked in
    rw (p.1, p.2) (stops_later _ _ _ _ other)

pub returns-in_err-load_image-clause-untouched : goal.returns-in_err-load_image-clause-untouched
returns-in_err-load_image-clause-untouched g c =
    let p = err_from_is_err_and c.from_residual.result c.from_residual.ensures.1 in
    rw (p.1, p.2) (unloaded_same c.in_err-load_image.ensures.untouched)

pub returns-in_err-load_image-clause-stops : goal.returns-in_err-load_image-clause-stops
returns-in_err-load_image-clause-stops g c =
    let p = err_from_is_err_and c.from_residual.result c.from_residual.ensures.1 in
    let e = c.in_err-load_image.ensures in
    rw (p.1, p.2) (stops_at_load _ _ _ _ (λ is. ap (λ store. (g.D.Disk.facts store.disk).calls) (unloaded_same e.untouched is).1) e.stops)
