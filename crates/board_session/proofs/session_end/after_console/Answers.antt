use Rattle.std.proofs.Common.{◌∙◌, ℕ, Bool, All, Some, arith, sym, subst}
use Rattle.hsm.specs.{Rule.{reading as start_reading, first_word as start_words}, Seating.{all_harts, started_in}}
use Rattle.ipi.specs.{Ledger.{reading as raise_reading, first_word as raise_words}, Seating.all_pending_views}
use Rattle.tallies.specs.Logs.{IsTrueLog}
use Rattle.hart_threads.specs.{Views.{bus_parts, inside}, declared.{ends.HartEnd.HartEnd, closing.AfterConsole.AfterConsole}}
use Rattle.store.specs.Views.{life_of}
use Rattle.board_session.{specs.{Histories.{AreDriven, HasTables, harts_after}, Sessions.IsOver}, proofs.Alone.all_alone}
use Rattle.board_session.proofs.Historied.{EndedBy, all_ends_by, history_of}
use Rattle.board_session.proofs.session_end.after_console.Goals as goal

pub ends_of-harts-requires-clause-none : goal.ends_of-harts-requires-clause-none
ends_of-harts-requires-clause-none g c κs within = c.requires.none

pub disk_of-disk-requires-clause-harts : goal.disk_of-disk-requires-clause-harts
disk_of-disk-requires-clause-harts g c κs within = c.ends_of-harts.ensures.parts ∙ c.requires.harts

pub returns-clause-life : goal.returns-clause-life
returns-clause-life g c =
    let j = g.J.Journal in
    let t = g.J.Threaded in
    let ended = c.ends_of-harts in
    let ends = ended.result.0.items in
    let came = ended.result.1 in
    let logs = c.join.ensures in
    let starts = logs.starts.0 in
    let raises = logs.raises.0 in
    let back = ended.ensures.back in
    let life = c.disk_of-disk.ensures.life back.0 in
    let end = c.end_history.ensures in
    let log = end.0 in
    let own = c.disk_of-disk.result.2.0 in
    let woke = c.disk_of-disk.result.2.1 in
    let parts = bus_parts ended.new.bus in
    let left = c.args.talked.left in
    let kept = life_of (inside ended.new.whole) in
    let gone = all_ends_by t.machine t.turns t.gated c.args.talked.parted.token.value log starts raises parts (all_harts came.starts.items) (all_pending_views came.raises.items) ends end.1.told.1.1 logs.starts.2 logs.raises.2 ended.ensures.well in
    let driven = subst (λ (b : Bool). All (λ (e : HartEnd). EndedBy t.machine t.turns b (harts_after left) log starts raises e) ends) c.requires.ungated
    (subst (λ (p : AfterConsole). All (λ (e : HartEnd). EndedBy t.machine t.turns t.gated p log starts raises e) ends) c.args.talked.parts gone) in
    let true_logs : HasTables j.size.harts t.machine starts raises = record {
      first = started_in c.args.shared.1.tables.harts;
      only = c.requires.first;
      started = subst (λ (n : ℕ). IsTrueLog start_reading (start_words (started_in c.args.shared.1.tables.harts)) n starts) c.requires.tables logs.starts.1;
      raised = subst (λ (n : ℕ). IsTrueLog raise_reading raise_words n raises) c.requires.tables logs.raises.1;
    } in
    let many = ended.ensures.many ∙ c.requires.harts in
    let are : AreDriven j.size.harts t.machine t.turns log starts raises (Some left) ends = (sym ended.result.0.ok.0 ∙ many, ended.ensures.numbered, driven) in
    let history = history_of j.size j.memory t.machine.memory log own woke parts end.1 kept life.0.journal life.0.doubt c.args.talked.side.heard.woken c.requires.machine life.2 life.3 c.disk_of-disk.ensures.saved c.disk_of-disk.ensures.woken in (
      life.0,
      (life.1 ∙ back.1, subst (λ cs. All (IsOver cs) ends) (sym life.2) ended.ensures.over),
      (
        log,
        starts,
        raises,
        are,
        true_logs,
        all_alone j.size t.machine t.turns log starts raises left ends are t.machine.memory life.0.journal life.0.doubt c.args.talked.side.heard.woken history,
        history,
      ),
    )

pub ends_of-harts-requires-clause-few : goal.ends_of-harts-requires-clause-few
ends_of-harts-requires-clause-few g c κs within = c.requires.some.1

pub join-requires-clause-some : goal.join-requires-clause-some
join-requires-clause-some g c = let are = c.ends_of-harts.ensures.seats in let some = c.requires.some.0 in omega (arith, are, some)

pub join-requires-clause-named : goal.join-requires-clause-named
join-requires-clause-named g c = c.requires.named
