use Rattle.std.proofs.Common.{refl}
use Rattle.store.specs.Views.{found_state, now_state, view_of}
use Rattle.board.proofs.{CallsMade.{off_calls, on_calls}, Doubted.leaves_life, Off.is_off, On.is_on, Opened.is_open}
use Rattle.board.proofs.begun.BegunBoard.power_on.Goals as goal

-- what the open made takes a boot
pub ready-requires-after_bounds : goal.ready-requires-after_bounds
ready-requires-after_bounds g c κs within =
    let o = c.in-Ok.ensures in
    is_open (g.D.Disk.facts c.args.disk) (view_of c.in-Ok.store) o.opened o.settles

-- The life that is left is that of the store which gives its disk back.
pub returns-in-Err-ready-clause-off : goal.returns-in-Err-ready-clause-off
returns-in-Err-ready-clause-off g c =
    let o = c.in-Ok.ensures in
    let r = c.in-Err-ready.ensures in
    let store = c.ready.new.store in
    let disk = g.D.Disk.facts c.into_disk.result in
    is_off _ _ _ _ _ (view_of c.in-Ok.store) (view_of store) _ disk o.opened o.settles.any_moment c.found.ensures c.now.ensures r.refused r.unissued
    (leaves_life _ disk _ (now_state store) (λ up. c.into_disk.ensures.up (now_state store) (up, refl)) (λ d down. c.into_disk.ensures.down (now_state store) _ (d, down, refl, refl))) c.into_disk.ensures.facts

pub returns-in-Ok-ready-clause-on : goal.returns-in-Ok-ready-clause-on
returns-in-Ok-ready-clause-on g c =
    let o = c.in-Ok.ensures in
    let r = c.in-Ok-ready.ensures in
    is_on c.args.mode c.args.payloads.now (g.D.Disk.facts c.args.disk) (view_of c.in-Ok.store) (view_of c.ready.new.store) c.in-Ok-ready.machine o.opened o.settles.any_moment r.allowed r.fits r.begun r.issued

-- how many calls of the disk were made
pub returns-in-Err-ready-clause-calls : goal.returns-in-Err-ready-clause-calls
returns-in-Err-ready-clause-calls g c some =
    let o = c.in-Ok.ensures in
    let r = c.in-Err-ready.ensures in
    off_calls (g.D.Disk.facts c.args.disk).content _ (found_state c.in-Ok.store) _ (g.D.Disk.facts c.args.disk).calls _ _ _ o.opened.reads (o.calls some) r.calls c.into_disk.ensures.facts.calls

pub returns-in-Ok-ready-clause-calls : goal.returns-in-Ok-ready-clause-calls
returns-in-Ok-ready-clause-calls g c some =
    let o = c.in-Ok.ensures in
    let r = c.in-Ok-ready.ensures in
    on_calls c.args.mode (g.D.Disk.facts c.args.disk).content (view_of c.in-Ok.store) (view_of c.ready.new.store) (g.D.Disk.facts c.args.disk).calls r.issued (o.calls some) r.calls
