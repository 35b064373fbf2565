use Rattle.std.proofs.{Common.{◌≡◌, ◌∙◌, length, replicate, sym, ap, subst, arith}, lemmas.Result.err_from_is_err_and}
use Rattle.board_model.specs.Shapes.{Size, ram_bytes_of}
use Rattle.planned_store.{specs.{Loads.HasPlace, declared.loads.{Loading.Loading, LoadStep.TheVariants.ReadHead}}, proofs.LoadSteps.begins}
use Rattle.planned_store.proofs.LoadEnds.{refused, ended}
use Rattle.planned_store.proofs.load_runs.load_image.Goals as goal

pub returns-in_err-plan : goal.returns-in_err-plan
returns-in_err-plan g c =
    let p = err_from_is_err_and c.from_residual.result c.from_residual.ensures.1 in
    record {
      loads = rw (p.1, p.2) (refused g.D.Disk.facts g.D.Disk.fault_state (λ d. g.met.D.Disk.only_now d) c.args.store.now c.args.disk.now c.args.ram.now c.requires.holds c.pages.result _ c.pages.ensures.value c.in_err-plan.ensures.refused);
    }

pub run_load-requires-clause-place : goal.run_load-requires-clause-place
run_load-requires-clause-place g c κs within =
    let plans = c.in_ok-plan.ensures.ok in
    let a = g.D.Disk.facts c.args.disk.now in
    let chosen = (c.requires.holds.up plans.up a.content (g.met.D.Disk.may_keep c.args.disk.now)).selects in
    let saved = chosen.is.0.image c.in_ok-plan.plan.saved plans.image in
    subst HasPlace (sym plans.is) (saved.counts, omega (arith, chosen.board.0))

pub run_load-requires-clause-begins : goal.run_load-requires-clause-begins
run_load-requires-clause-begins g c κs within =
    let p = c.in_ok-plan.plan in
    let plans = c.in_ok-plan.ensures.ok in
    let a = g.D.Disk.facts c.args.disk.now in
    let chosen = (c.requires.holds.up plans.up a.content (g.met.D.Disk.may_keep c.args.disk.now)).selects in
    let shape = ap (λ (q : Loading). q.shape) plans.is in
    let saved = chosen.is.0.image p.saved plans.image in
    let begin : Size → Loading = λ z. record { shape = z; saved = p.saved; done = 0; came = replicate 512 0; step = ReadHead } in
    begins g.D.Disk.facts g.D.Disk.fault_state p c.args.disk.now c.args.ram.now (rw shape chosen.board.0) (rw shape saved.counts) (omega (arith, saved.fit.0)) saved.area (rw shape chosen.enough)
    (omega (arith, c.pages.ensures.value, plans.fits, ap (λ (z : Size). ram_bytes_of z) shape)) c.requires.holds.none_out (g.met.D.Disk.bounded_calls c.args.disk.now) (plans.is ∙ ap begin (sym shape))

pub returns : goal.returns
returns g c =
    let plans = c.in_ok-plan.ensures.ok in
    let long : length c.args.ram.now ≡ ram_bytes_of c.args.store.now.selected.shape = omega (arith, c.pages.ensures.value, plans.fits) in
    let shape = c.run_load.ensures.same.0 ∙ ap (λ (q : Loading). q.shape) plans.is in
    record {
      loads = rw c.loaded.ensures
          (ended g.D.Disk.facts g.D.Disk.fault_state (λ d. g.met.D.Disk.only_now d) c.args.store.now c.args.disk.now c.args.ram.now c.requires.holds c.in_ok-plan.plan.saved plans.up plans.image long c.run_load.new.disk c.run_load.new.ram
          (c.run_load.ensures.reached.long ∙ ap (λ (z : Size). ram_bytes_of z) shape) c.run_load.new.plan shape c.run_load.ensures.same.1 c.run_load.ensures.reached c.run_load.ensures.ended);
    }
