use Rattle.std.proofs.Common.{◌≡◌, ◌∙◌, ◌+◌, ℕ, Bool, Option, List, ◌∷◌, length, refl, sym, ap, subst, arith}
use Rattle.board_model.specs.{Durable.Change, declared.durable.Entry.Entry}
use Rattle.tallies.specs.{Books.{entries_of, told_after}, Halts.Watched, declared.book_views.{BookView.BookView, PartView.PartView}}
use Rattle.hart_threads.specs.{Noted.entries_in, Since.AreKept, Doubts.noted_by, Over.IsMarked, Threads.is_end}
use Rattle.hart_threads.proofs.{Keeping.{held_kept, moments_by}, Calling.made}
use Rattle.hart_threads.{proofs.{Doubting.{hart_asks, held, noted_on}, Naming.begins_still}, specs.Bused.{AreSaved, part_in}}
use Rattle.hart_threads.proofs.{Ending.asks_end, Overs.{end_in, ender_there, held_over, marked_still, marked_used, none_if}}
use Rattle.hart_threads.proofs.Lasting.{begins_longer, grows, last_is, place_after, stays, tied_after, told_last, told_of}
use Rattle.hart_threads.specs.declared.bus_turns.BusTurn.{BusTurn}
use Rattle.sbi_abi.specs.Calls.{call_of}
use Rattle.sbi_calls.specs.Both.{harts_of_both, known}
use Rattle.sbi.specs.declared.words.Word.{Word}
use Rattle.store.specs.Views.{disk_of, doubt_of, journal_of, life_of}
use Rattle.hart_threads.proofs.shared_store.SharedStore.call.Goals as goal

pub invariant_of-self : goal.invariant_of-self
invariant_of-self g c =
    let old = c.args.self.now in
    let d = c.call-seats in
    let size = g.J.Journal.size in
    let call = call_of c.args.hart.now in
    let by = c.args.hart.now.id in
    let m = made g.J.Journal.found size (harts_of_both c.args.board.tables.now) call c.args.hart.now d.new.hart (known c.args.seats) (known d.result.0) c.args.bus.now.bus d.new.self.bus old.store d.new.store d.result.1 old.named d.ensures.makes in
    let same = stays size call by c.in-Goes.field-0 d.result.1 (journal_of old.store) (journal_of d.new.store) c.in-Goes.is m.adds in
    let as_long = ap (λ (cs : List Change). length cs) same in
    let h = held size (harts_of_both c.args.board.tables.now) call c.args.hart.now d.new.hart (known c.args.seats) (known d.result.0) c.args.bus.now.bus d.new.self.bus old.store d.new.store d.result.1 old.named.board d.ensures.makes in
    let noted = c.note.ensures.noted ∙ ap (λ (b : Bool). noted_by b c.in_doubt.result old.doubts) c.is_up-was_up.ensures in
    let before = old.counted in
    let goes = held_over (harts_of_both c.args.board.tables.now) call c.args.hart.now d.new.hart (known c.args.seats) (known d.result.0) c.args.bus.now.bus d.new.self.bus old.store d.new.store d.result.1 _ c.in-Goes.is d.ensures.makes in
    let kept = subst (λ (w : Word). AreKept size g.J.Journal.found g.J.Journal.earlier g.J.Journal.moment (length g.J.Journal.issued) (journal_of d.new.store) (doubt_of d.new.store) (disk_of d.new.store) (moments_by w (disk_of d.new.store).moment old.moments.at)) c.in-Goes.is
    (held_kept g.J.Journal.found size g.J.Journal.earlier g.J.Journal.moment (length g.J.Journal.issued) old.store d.new.store old.moments.at old.named (g.met.D.Disk.only_now _) old.kept (harts_of_both c.args.board.tables.now) call c.args.hart.now d.new.hart (known c.args.seats) (known d.result.0) c.args.bus.now.bus d.new.self.bus d.result.1 d.ensures.makes) in
    record { named = m.named; issued = begins_still g.J.Journal.issued (journal_of old.store) (journal_of d.new.store) old.issued same; there = refl; saved = d.ensures.saved; counted = omega (arith, before, as_long); few = old.few; tied = ap entries_in same ∙ old.tied; none = old.none; opened = h.opened ∙ old.opened; doubted = noted_on size (doubt_of old.store) (doubt_of d.new.store) c.in_doubt.result old.doubts c.note.new.self c.in_doubt.ensures h.turns old.doubted noted; kept = kept; marked = marked_still g.J.Threaded.over old.ender (life_of old.store) (life_of d.new.store) goes same old.marked }

pub last_entry-requires-after_bounds : goal.last_entry-requires-after_bounds
last_entry-requires-after_bounds g c κs within =
    let old = c.args.self.now in
    let d = c.call-seats in
    let size = g.J.Journal.size in
    let call = call_of c.args.hart.now in
    let by = c.args.hart.now.id in
    let m = made g.J.Journal.found size (harts_of_both c.args.board.tables.now) call c.args.hart.now d.new.hart (known c.args.seats) (known d.result.0) c.args.bus.now.bus d.new.self.bus old.store d.new.store d.result.1 old.named d.ensures.makes in
    let grown = grows size call by c.in-Over.field-0 d.result.1 (journal_of old.store) (journal_of d.new.store) c.in-Over.is m.adds in
    let longer = grown.longer in
    let before = old.counted in
    omega (arith, longer, before)

pub new-told-requires : goal.new-told-requires
new-told-requires g c =
    let old = c.args.self.now in
    let d = c.call-seats in
    let size = g.J.Journal.size in
    let call = call_of c.args.hart.now in
    let by = c.args.hart.now.id in
    let m = made g.J.Journal.found size (harts_of_both c.args.board.tables.now) call c.args.hart.now d.new.hart (known c.args.seats) (known d.result.0) c.args.bus.now.bus d.new.self.bus old.store d.new.store d.result.1 old.named d.ensures.makes in
    let grown = grows size call by c.in-Over.field-0 d.result.1 (journal_of old.store) (journal_of d.new.store) c.in-Over.is m.adds in
    let few = grown.few in
    let before = old.counted in
    told_last g.J.Journal.found (journal_of d.new.store) (old.count + 1) c.in-Some.entry m.named.life.taken c.in-Some.ensures.some (omega (arith, few, before))

pub invariant_of-self-in-Over : goal.invariant_of-self-in-Over
invariant_of-self-in-Over g c =
    let old = c.args.self.now in
    let d = c.call-seats in
    let size = g.J.Journal.size in
    let call = call_of c.args.hart.now in
    let by = c.args.hart.now.id in
    let m = made g.J.Journal.found size (harts_of_both c.args.board.tables.now) call c.args.hart.now d.new.hart (known c.args.seats) (known d.result.0) c.args.bus.now.bus d.new.self.bus old.store d.new.store d.result.1 old.named d.ensures.makes in
    let end = c.in-Over.field-0 in
    let grown = grows size call by end d.result.1 (journal_of old.store) (journal_of d.new.store) c.in-Over.is m.adds in
    let longer = grown.longer in
    let few = grown.few in
    let before = old.counted in
    let h = held size (harts_of_both c.args.board.tables.now) call c.args.hart.now d.new.hart (known c.args.seats) (known d.result.0) c.args.bus.now.bus d.new.self.bus old.store d.new.store d.result.1 old.named.board d.ensures.makes in
    let noted = c.note.ensures.noted ∙ ap (λ (b : Bool). noted_by b c.in_doubt.result old.doubts) c.is_up-was_up.ensures in
    let kept = subst (λ (ms : List ℕ). AreKept size g.J.Journal.found g.J.Journal.earlier g.J.Journal.moment (length g.J.Journal.issued) (journal_of d.new.store) (doubt_of d.new.store) (disk_of d.new.store) ms) (sym c.add.ensures)
    (subst (λ (w : Word). AreKept size g.J.Journal.found g.J.Journal.earlier g.J.Journal.moment (length g.J.Journal.issued) (journal_of d.new.store) (doubt_of d.new.store) (disk_of d.new.store) (moments_by w (disk_of d.new.store).moment old.moments.at)) c.in-Over.is
    (held_kept g.J.Journal.found size g.J.Journal.earlier g.J.Journal.moment (length g.J.Journal.issued) old.store d.new.store old.moments.at old.named (g.met.D.Disk.only_now _) old.kept (harts_of_both c.args.board.tables.now) call c.args.hart.now d.new.hart (known c.args.seats) (known d.result.0) c.args.bus.now.bus d.new.self.bus d.result.1 d.ensures.makes)) in
    let note = c.note-part.ensures in
    let entry : c.entry-noted.result ≡ c.in-Some.entry = c.entry-noted.ensures ∙ ap (λ (t : ℕ × Entry). t.1) c.new-told.ensures in
    let tied = tied_after size call by end (journal_of old.store) (journal_of d.new.store) grown old.keeper.log (old.count + 1) c.in-Some.entry c.args.part.who c.in-Some.ensures.some old.tied
    ∙ ap (λ (e : Entry). entries_of ((c.args.part.who, e) ∷ old.keeper.log)) (sym entry)
    ∙ sym (ap (λ (v : BookView Entry). entries_of v.log) note.keeper) in
    let over = held_over (harts_of_both c.args.board.tables.now) call c.args.hart.now d.new.hart (known c.args.seats) (known d.result.0) c.args.bus.now.bus d.new.self.bus old.store d.new.store d.result.1 _ c.in-Over.is d.ensures.makes in
    let ends = end_in grown.entry grown.memory ∙ asks_end size call by end grown.entry grown.asks in
    let marked = subst (λ (o : Option Watched). IsMarked g.J.Threaded.over o (life_of d.new.store)) (sym c.take-in-Over.ensures.after)
    (marked_used g.J.Threaded.over old.ender old.ender (life_of old.store) (life_of d.new.store) _ refl ends over.0 over.1 grown.grown old.marked) in
    record { named = m.named; issued = begins_longer size call by end (journal_of old.store) (journal_of d.new.store) grown g.J.Journal.issued old.issued; there = refl; saved = d.ensures.saved; counted = omega (arith, longer, before); few = omega (arith, few, before); tied = tied; none = ap (λ (v : BookView Entry). length v.parts) note.keeper ∙ old.none; opened = h.opened ∙ old.opened; doubted = noted_on size (doubt_of old.store) (doubt_of d.new.store) c.in_doubt.result old.doubts c.note.new.self c.in_doubt.ensures h.turns old.doubted noted; kept = kept; marked = marked }

pub returns-in-Some-take-clause-told : goal.returns-in-Some-take-clause-told
returns-in-Some-take-clause-told g c =
    let old = c.args.self.now in
    let d = c.call-seats in
    let size = g.J.Journal.size in
    let call = call_of c.args.hart.now in
    let by = c.args.hart.now.id in
    let m = made g.J.Journal.found size (harts_of_both c.args.board.tables.now) call c.args.hart.now d.new.hart (known c.args.seats) (known d.result.0) c.args.bus.now.bus d.new.self.bus old.store d.new.store d.result.1 old.named d.ensures.makes in
    let end = c.in-Over.field-0 in
    let grown = grows size call by end d.result.1 (journal_of old.store) (journal_of d.new.store) c.in-Over.is m.adds in
    told_of size call by end (journal_of old.store) (journal_of d.new.store) grown d.result.1 (old.count + 1, c.in-Some.entry) c.new-last.result c.in-Over.is (c.new-last.ensures ∙ c.new-told.ensures) c.in-Some.ensures.some

pub returns-in-Some-take-clause-noted : goal.returns-in-Some-take-clause-noted
returns-in-Some-take-clause-noted g c =
    let old = c.args.self.now in
    let d = c.call-seats in
    let size = g.J.Journal.size in
    let call = call_of c.args.hart.now in
    let by = c.args.hart.now.id in
    let m = made g.J.Journal.found size (harts_of_both c.args.board.tables.now) call c.args.hart.now d.new.hart (known c.args.seats) (known d.result.0) c.args.bus.now.bus d.new.self.bus old.store d.new.store d.result.1 old.named d.ensures.makes in
    let end = c.in-Over.field-0 in
    let grown = grows size call by end d.result.1 (journal_of old.store) (journal_of d.new.store) c.in-Over.is m.adds in
    let place = place_after size call by end (journal_of old.store) (journal_of d.new.store) grown old.keeper.log (old.count + 1) c.in-Some.ensures.some.1 old.tied in
    let entry : c.entry-noted.result ≡ c.in-Some.entry = c.entry-noted.ensures ∙ ap (λ (t : ℕ × Entry). t.1) c.new-told.ensures in
    c.note-part.ensures.part ∙ ap (λ (k : ℕ). told_after k c.entry-noted.result c.args.part) (sym place)
    ∙ ap (λ (e : Entry). told_after (old.count + 1) e c.args.part) entry
    ∙ ap (λ (t : ℕ × Entry). told_after t.0 t.1 c.args.part) (sym (c.new-last.ensures ∙ c.new-told.ensures))

pub note-requires-clause-asks : goal.note-requires-clause-asks
note-requires-clause-asks g c up =
    let old = c.args.self.now in
    let d = c.call-seats in
    let size = g.J.Journal.size in
    let h = held size (harts_of_both c.args.board.tables.now) (call_of c.args.hart.now) c.args.hart.now d.new.hart (known c.args.seats) (known d.result.0) c.args.bus.now.bus d.new.self.bus old.store d.new.store d.result.1 old.named.board d.ensures.makes in
    hart_asks size (doubt_of old.store) (doubt_of d.new.store) c.in_doubt.result c.in_doubt.ensures h.turns (sym c.is_up-was_up.ensures ∙ up)

pub returns-in-Some-take-clause-moments : goal.returns-in-Some-take-clause-moments
returns-in-Some-take-clause-moments g c = c.add.ensures

pub returns-in-Goes-clause-moments : goal.returns-in-Goes-clause-moments
returns-in-Goes-clause-moments g c = refl

pub call-seats-requires-clause-saved : goal.call-seats-requires-clause-saved
call-seats-requires-clause-saved g c κs within =
    let own = c.held_part-own.ensures ∙ ap (λ (o : Option (PartView BusTurn)). part_in o) c.take.ensures.value in
    subst (λ (d : PartView BusTurn). AreSaved g.J.Journal.size (life_of c.args.self.now.store) d) (sym own) c.args.self.now.saved

pub call-seats-requires-clause-board : goal.call-seats-requires-clause-board
call-seats-requires-clause-board g c κs within = c.args.self.now.named.board

pub call-seats-requires-clause-caller : goal.call-seats-requires-clause-caller
call-seats-requires-clause-caller g c κs within = c.requires.run

pub new-last-requires : goal.new-last-requires
new-last-requires g c =
    let old = c.args.self.now in
    let d = c.call-seats in
    let size = g.J.Journal.size in
    let call = call_of c.args.hart.now in
    let by = c.args.hart.now.id in
    let m = made g.J.Journal.found size (harts_of_both c.args.board.tables.now) call c.args.hart.now d.new.hart (known c.args.seats) (known d.result.0) c.args.bus.now.bus d.new.self.bus old.store d.new.store d.result.1 old.named d.ensures.makes in
    let end = c.in-Over.field-0 in
    let grown = grows size call by end d.result.1 (journal_of old.store) (journal_of d.new.store) c.in-Over.is m.adds in
    let same = ap (λ (t : ℕ × Entry). t.1) c.new-told.ensures ∙ last_is size call by end (journal_of old.store) (journal_of d.new.store) grown (old.count + 1) c.in-Some.entry c.in-Some.ensures.some in
    ap is_end same ∙ asks_end size call by end grown.entry grown.asks

pub unreachable-requires-in_default-take : goal.unreachable-requires-in_default-take
unreachable-requires-in_default-take g c =
    let old = c.args.self.now in
    let d = c.call-seats in
    let over = held_over (harts_of_both c.args.board.tables.now) (call_of c.args.hart.now) c.args.hart.now d.new.hart (known c.args.seats) (known d.result.0) c.args.bus.now.bus d.new.self.bus old.store d.new.store d.result.1 _ c.in-Over.is d.ensures.makes in
    ender_there g.J.Threaded.over old.ender (life_of old.store) over.0 old.marked (sym c.take-in-Over.ensures.value ∙ none_if c.take-in-Over.result c.in_default-take.not-Some)
