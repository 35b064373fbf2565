use Rattle.std.{proofs.Common.{◌∙◌, ◌&&◌, ℕ, Bool, Ok, Err, List, [], ap, length, arith, refl, subst, sym}, specs.Prelude.is_some}
use Rattle.board_model.{specs.{Durable.Change, Views.change_of, declared.durable.Entry.Entry}, proofs.Steps.entry_of_command}
use Rattle.store.specs.{Lives.Applied, Views.{disk_of, doubt_of, journal_of, life_of}, Asked.Asked}
use Rattle.hart_threads.{specs.{Legal.MayAnswer, Doubts.noted_if}, proofs.Doubting.{asked_turns, ok_stays, still_noted, told_on}}
use Rattle.hart_threads.{proofs.Naming.{asked_named, asked_may, begins_on, begins_still}, specs.{Noted.entries_in, Since.AreKept}}
use Rattle.hart_threads.{proofs.{Noting.{number, tied_on}, Keeping.asked_kept, Lasting.one_longer}, specs.Bused.part_in}
use Rattle.hart_threads.proofs.{Bussing.saved_still, Overs.{asked_over, marked_more}}
use Rattle.board_model.specs.declared.durable.Entry.TheVariants as entries
use Rattle.tallies.specs.{Books.{entries_of, told_after}, declared.book_views.BookView.BookView}
use Rattle.hart_threads.proofs.shared_store.SharedStore.apply.Goals as goal

pub invariant_of-self : goal.invariant_of-self
invariant_of-self g c =
    let old = c.args.self.now in
    let new = c.apply.new.self in
    let e = c.in-Ok.ensures in
    let n = c.in-Ok.receipt in
    let asked : Asked Applied old.store (change_of c.args.command) (Ok n) new = e.asked in
    let did = asked_named g.J.Journal.found g.J.Journal.size old.store new (change_of c.args.command) (Ok n) (doubt_of old.store) refl old.named asked in
    let longer = one_longer (journal_of old.store) (journal_of new) (change_of c.args.command) did.1.0 in
    let same = ok_stays (change_of c.args.command) n (doubt_of old.store) (doubt_of new) (asked_turns old.store new (change_of c.args.command) (Ok n) (doubt_of old.store) refl asked) in
    let is = c.number-self.ensures in
    let a = did.1.1 in
    let b = did.1.2 in
    let note = c.note-part.ensures in
    let kept = subst (λ (ms : List ℕ). AreKept g.J.Journal.size g.J.Journal.found g.J.Journal.earlier g.J.Journal.moment (length g.J.Journal.issued) (journal_of new) (doubt_of new) (disk_of new) ms) (sym c.add.ensures)
    (asked_kept g.J.Journal.found g.J.Journal.size g.J.Journal.earlier g.J.Journal.moment (length g.J.Journal.issued) old.store new (change_of c.args.command) (Ok n) (doubt_of old.store) old.moments.at refl old.named (g.met.D.Disk.only_now _) asked old.kept) in
    let tied = tied_on (journal_of old.store) (journal_of new) old.keeper.log (change_of c.args.command) (entries.Command c.args.command) c.args.part.who old.tied (entry_of_command c.args.command) did.1.0
    ∙ sym (ap (λ (v : BookView Entry). entries_of v.log) note.keeper) in
    record { named = did.0; issued = begins_on g.J.Journal.issued (journal_of old.store) (journal_of new) (change_of c.args.command) old.issued did.1.0; there = old.there; saved = saved_still g.J.Journal.size (part_in old.run) old.store new (change_of c.args.command) (Ok n) c.requires old.saved asked; counted = omega (arith, is, a, longer); few = omega (arith, is, a, b); tied = tied; none = ap (λ (v : BookView Entry). length v.parts) note.keeper ∙ old.none; opened = asked.stays.opened ∙ old.opened; doubted = still_noted (doubt_of old.store) (doubt_of new) old.doubts same old.doubted; kept = kept; marked = marked_more g.J.Threaded.over old.ender (life_of old.store) (life_of new) (change_of c.args.command) (Ok n) c.requires (asked_over old.store new (change_of c.args.command) (Ok n) (doubt_of old.store) refl asked) did.1 old.marked }

pub invariant_of-self-in-Err : goal.invariant_of-self-in-Err
invariant_of-self-in-Err g c =
    let old = c.args.self.now in
    let new = c.apply.new.self in
    let e = c.in-Err.ensures in
    let r = c.in-Err.refusal in
    let asked : Asked Applied old.store (change_of c.args.command) (Err r) new = e.asked in
    let did = asked_named g.J.Journal.found g.J.Journal.size old.store new (change_of c.args.command) (Err r) (doubt_of old.store) refl old.named asked in
    let same = ap (λ (cs : List Change). length cs) did.1 in
    let turns = asked_turns old.store new (change_of c.args.command) (Err r) (doubt_of old.store) refl asked in
    let newly = c.newly_down-newly.ensures ∙ ap (λ (b : Bool). b && is_some (doubt_of new)) c.is_up-was_up.ensures in
    let noted = c.tell.ensures.noted ∙ ap (λ (b : Bool). noted_if b (entries.Command c.args.command) old.doubts) newly in
    let is = old.counted in
    record { named = did.0; issued = begins_still g.J.Journal.issued (journal_of old.store) (journal_of new) old.issued did.1; there = old.there; saved = saved_still g.J.Journal.size (part_in old.run) old.store new (change_of c.args.command) (Err r) c.requires old.saved asked; counted = omega (arith, is, same); few = old.few; tied = ap entries_in did.1 ∙ old.tied; none = old.none; opened = asked.stays.opened ∙ old.opened; doubted = told_on c.args.command (Err r) (doubt_of old.store) (doubt_of new) old.doubts c.tell.new.self turns old.doubted noted; kept = asked_kept g.J.Journal.found g.J.Journal.size g.J.Journal.earlier g.J.Journal.moment (length g.J.Journal.issued) old.store new (change_of c.args.command) (Err r) (doubt_of old.store) old.moments.at refl old.named (g.met.D.Disk.only_now _) asked old.kept; marked = marked_more g.J.Threaded.over old.ender (life_of old.store) (life_of new) (change_of c.args.command) (Err r) c.requires (asked_over old.store new (change_of c.args.command) (Err r) (doubt_of old.store) refl asked) did.1 old.marked }

pub returns-in-Err-clause-may : goal.returns-in-Err-clause-may
returns-in-Err-clause-may g c =
    let old = c.args.self.now in
    let new = c.apply.new.self in
    let e = c.in-Err.ensures in
    let r = c.in-Err.refusal in
    let asked : Asked Applied old.store (change_of c.args.command) (Err r) new = e.asked in
    asked_may g.J.Journal.found g.J.Journal.size old.store new (change_of c.args.command) (Err r) (doubt_of old.store) refl old.named asked

pub returns-in-Ok-clause-noted : goal.returns-in-Ok-clause-noted
returns-in-Ok-clause-noted g c =
    let old = c.args.self.now in
    let new = c.apply.new.self in
    let e = c.in-Ok.ensures in
    let asked : Asked Applied old.store (change_of c.args.command) (Ok c.in-Ok.receipt) new = e.asked in
    let did = asked_named g.J.Journal.found g.J.Journal.size old.store new (change_of c.args.command) (Ok c.in-Ok.receipt) (doubt_of old.store) refl old.named asked in
    let place = number (journal_of old.store) old.keeper.log c.in-Ok.receipt old.tied did.1.1 in
    c.note-part.ensures.part ∙ ap (λ k. told_after k (entries.Command c.args.command) c.args.part) (sym place ∙ sym c.number.ensures)
    ∙ ap (λ (t : ℕ × Entry). told_after t.0 t.1 c.args.part) (sym c.new.ensures)

pub returns-in-Ok-clause-asked : goal.returns-in-Ok-clause-asked
returns-in-Ok-clause-asked g c =
    let old = c.args.self.now in
    let asked : Asked Applied old.store (change_of c.args.command) (Ok c.in-Ok.receipt) c.apply.new.self = c.in-Ok.ensures.asked in
    subst (λ (k : ℕ). Asked Applied old.store (change_of c.args.command) (Ok k) c.apply.new.self) (sym (ap (λ (t : ℕ × Entry). t.0) c.new.ensures ∙ c.number.ensures)) asked

pub returns-in-Ok-clause-may : goal.returns-in-Ok-clause-may
returns-in-Ok-clause-may g c =
    let old = c.args.self.now in
    let asked : Asked Applied old.store (change_of c.args.command) (Ok c.in-Ok.receipt) c.apply.new.self = c.in-Ok.ensures.asked in
    subst (λ (k : ℕ). MayAnswer g.J.Journal.found (change_of c.args.command) (Ok k)) (sym (ap (λ (t : ℕ × Entry). t.0) c.new.ensures ∙ c.number.ensures))
    (asked_may g.J.Journal.found g.J.Journal.size old.store c.apply.new.self (change_of c.args.command) (Ok c.in-Ok.receipt) (doubt_of old.store) refl old.named asked)

pub returns-in-Ok-clause-told : goal.returns-in-Ok-clause-told
returns-in-Ok-clause-told g c = ap (λ (t : ℕ × Entry). t.1) c.new.ensures

pub returns-in-Ok-clause-heard : goal.returns-in-Ok-clause-heard
returns-in-Ok-clause-heard g c = refl

pub returns-in-Err-clause-asked : goal.returns-in-Err-clause-asked
returns-in-Err-clause-asked g c = c.in-Err.ensures.asked

pub returns-in-Err-clause-noted : goal.returns-in-Err-clause-noted
returns-in-Err-clause-noted g c = refl

pub new-requires : goal.new-requires
new-requires g c =
    let old = c.args.self.now in
    let asked : Asked Applied old.store (change_of c.args.command) (Ok c.in-Ok.receipt) c.apply.new.self = c.in-Ok.ensures.asked in
    let may = asked_may g.J.Journal.found g.J.Journal.size old.store c.apply.new.self (change_of c.args.command) (Ok c.in-Ok.receipt) (doubt_of old.store) refl old.named asked in
    (may.0, [], may.1, c.number.ensures ∙ may.2, omega (arith, c.number.ensures, may.3))

pub returns-in-Ok-clause-moments : goal.returns-in-Ok-clause-moments
returns-in-Ok-clause-moments g c = c.add.ensures

pub returns-in-Err-clause-moments : goal.returns-in-Err-clause-moments
returns-in-Err-clause-moments g c = refl
