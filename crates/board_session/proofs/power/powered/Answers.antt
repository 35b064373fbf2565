use Rattle.std.proofs.Common.{◌∙◌, ap, sym, subst}
use Rattle.store.specs.{Leaves.IsKept, Views.{view_of, life_of, disk_of, size_of_store, found_state}}
use Rattle.disk.specs.Facts.{LeavesSince}
use Rattle.board.specs.{Moments.{MayLeave, commands_by}, PowersOn.IsUnpowered}
use Rattle.board_session.proofs.Powering.{begins, life_ends, life_few, life_issued, life_taken, life_up, booted, format_refuses, kept_off, refuses_disk, runs_over}
use Rattle.board_session.proofs.power.powered.Goals as goal

pub returns-in-Err-clause-refused : goal.returns-in-Err-clause-refused
returns-in-Err-clause-refused g c =
    let o = c.args.options.now in
    let why = c.in-Err.ensures.refused in
    format_refuses o.new o.shape o.mode c.args.payloads.now (g.D.Disk.facts c.args.disk) (g.D.Disk.facts c.in-Err.refused.0) c.in-Err.refused.1 why.0 why.1 why.2

pub returns-in-Err-clause-kept : goal.returns-in-Err-clause-kept
returns-in-Err-clause-kept g c = λ size kept. (size, c.in-Err.ensures.kept size kept)

pub returns-in-Ok-power_on-clause-runs : goal.returns-in-Ok-power_on-clause-runs
returns-in-Ok-power_on-clause-runs g c =
    let o = c.args.options.now in
    let made = c.in-Ok.ensures in
    let board = c.in-Ok-power_on.board in
    runs_over o.new o.shape o.mode c.args.payloads.now (g.D.Disk.facts c.args.disk) (g.D.Disk.facts c.in-Ok.disk) (view_of board.store) board.machine made.new made.formatted
    (λ is. ap (λ d. (g.D.Disk.facts d).content) (made.old is)) c.in-Ok-power_on.ensures.on

pub returns-in-Err-power_on-clause-refused : goal.returns-in-Err-power_on-clause-refused
returns-in-Err-power_on-clause-refused g c =
    let o = c.args.options.now in
    let made = c.in-Ok.ensures in
    let k = c.kept_disks.ensures in
    let mid = c.in-Ok.disk in
    let off = c.in-Err-power_on.unpowered in
    let why = c.in-Err-power_on.ensures.off in
    refuses_disk (g.D.Disk.facts mid) (g.D.Disk.facts off.disk) (k.goes_on mid off.disk) o.mode c.args.payloads.now (g.D.Disk.facts c.args.disk) o.shape off.found off.now off.refusal why o.new made.failures made.new made.formatted
    (λ is. subst (λ d. IsUnpowered o.mode c.args.payloads.now off.found off.now (g.D.Disk.facts d) off.refusal (g.D.Disk.facts off.disk)) (made.old is) why)
    (λ size kept refused. k.opens mid off.disk size off.refusal kept refused)

pub returns-in-Err-power_on-clause-kept : goal.returns-in-Err-power_on-clause-kept
returns-in-Err-power_on-clause-kept g c =
    let o = c.args.options.now in
    let made = c.in-Ok.ensures in
    let k = c.kept_disks.ensures in
    let mid = c.in-Ok.disk in
    let off = c.in-Err-power_on.unpowered in
    kept_off (g.D.Disk.facts mid) (g.D.Disk.facts off.disk) (k.goes_on mid off.disk) o.mode c.args.payloads.now (g.D.Disk.facts c.args.disk) o.shape off.found off.now off.refusal c.in-Err-power_on.ensures.off o.new made.formatted
    (λ is size kept. subst (λ d. IsKept (g.D.Disk.facts d) size) (sym (made.old is)) kept)

pub returns-in-Ok-power_on-clause-found : goal.returns-in-Ok-power_on-clause-found
returns-in-Ok-power_on-clause-found g c =
    let o = c.args.options.now in
    let made = c.in-Ok.ensures in
    let board = c.in-Ok-power_on.board in
    begins o.new o.shape o.mode c.args.payloads.now (g.D.Disk.facts c.args.disk) (g.D.Disk.facts c.in-Ok.disk) (view_of board.store) board.machine made.formatted
    (λ is. ap (λ d. (g.D.Disk.facts d).content) (made.old is)) c.in-Ok-power_on.ensures.on

pub returns-in-Ok-power_on-clause-taken : goal.returns-in-Ok-power_on-clause-taken
returns-in-Ok-power_on-clause-taken g c =
    let on = c.in-Ok-power_on.ensures.on in
    let life = life_of c.in-Ok-power_on.board.store in
    (life_taken c.args.options.now.mode life on.life on.allowed, life_few c.args.options.now.mode life on.life)

pub returns-in-Ok-power_on-clause-issued : goal.returns-in-Ok-power_on-clause-issued
returns-in-Ok-power_on-clause-issued g c =
    life_issued c.args.options.now.mode (life_of c.in-Ok-power_on.board.store) c.in-Ok-power_on.ensures.on.life

pub returns-in-Ok-power_on-clause-unended : goal.returns-in-Ok-power_on-clause-unended
returns-in-Ok-power_on-clause-unended g c =
    life_ends (λ c. ⊥) (λ c. ⊥) c.args.options.now.mode (life_of c.in-Ok-power_on.board.store) c.in-Ok-power_on.ensures.on.life

pub returns-in-Ok-power_on-clause-up : goal.returns-in-Ok-power_on-clause-up
returns-in-Ok-power_on-clause-up g c =
    life_up c.args.options.now.mode (life_of c.in-Ok-power_on.board.store) c.in-Ok-power_on.ensures.on.life

pub returns-in-Ok-power_on-clause-opened : goal.returns-in-Ok-power_on-clause-opened
returns-in-Ok-power_on-clause-opened g c = c.in-Ok-power_on.ensures.on.opened ∙ c.in-Ok.ensures.failures

pub returns-in-Ok-power_on-clause-moments : goal.returns-in-Ok-power_on-clause-moments
returns-in-Ok-power_on-clause-moments g c =
    let o = c.args.options.now in
    let store = c.in-Ok-power_on.board.store in
    booted o.new (g.D.Disk.facts c.args.disk) (disk_of store) (size_of_store store) (found_state store) (commands_by o.mode (found_state store))
    (λ is. subst (λ d. LeavesSince (g.D.Disk.facts d) (disk_of store) (MayLeave (g.D.Disk.facts d) (size_of_store store) (found_state store) (commands_by o.mode (found_state store)))) (c.in-Ok.ensures.old is) c.in-Ok-power_on.ensures.on.any_moment)
