use Rattle.std.proofs.Common.{◌≡◌, [], ap, arith, subst}
use Rattle.hart_threads.specs.{Bused.AreWakes, Heard.Hearing, Views.{bus_parts, inside}}
use Rattle.store.specs.Views.{doubt_of, journal_of, life_of}
use Rattle.board_session.{specs.Sessions.IsOfLife, proofs.Historied.{history_of, no_steps}}
use Rattle.board_session.proofs.session_end.without_console.Goals as goal

pub disk_of-disk-requires-clause-harts : goal.disk_of-disk-requires-clause-harts
disk_of-disk-requires-clause-harts g c κs within =
    let loops = c.gather_loops.ensures.many in
    let parts = c.gather_parts.ensures.many in
    let harts = c.requires.harts in
    omega (arith, loops, parts, harts)

pub returns-clause-life : goal.returns-clause-life
returns-clause-life g c =
    let j = g.J.Journal in
    let told = c.disk_of-disk.result in
    let back = c.gather_parts.ensures.back in
    let store = inside c.gather_parts.new.whole in
    let life = subst (λ (h : Hearing). (is : IsOfLife j.size j.found j.issued j.failures j.earlier j.moment told.1.at c.args.side.part.told h.doubt (g.D.Disk.facts told.0)) × (is.acknowledged.harts ≡ back.harts) × (is.journal ≡ journal_of store) × (is.doubt ≡ doubt_of store)) c.requires.unheard (c.disk_of-disk.ensures.life back) in
    let end = c.end_history.ensures in
    let woken = subst (λ n. AreWakes n told.2.1) (ap (λ (h : Hearing). h.woken) c.requires.unheard) c.disk_of-disk.ensures.woken in
    let history = history_of j.size j.memory g.J.Threaded.machine.memory end.0 told.2.0 told.2.1 (bus_parts c.args.shared.1) end.1 (life_of store) life.0.journal life.0.doubt 0 c.requires.machine life.2 life.3 c.disk_of-disk.ensures.saved woken in
    let un = c.unbegun.ensures in
    rw (un.disk, un.moments, un.heard) (life.0, (end.0, [], [], un.harts, no_steps j.size.harts g.J.Threaded.machine c.requires.first.0 c.requires.first.1, tt, history))
