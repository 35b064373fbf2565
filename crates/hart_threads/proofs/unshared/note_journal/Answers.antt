use Rattle.std.proofs.Common.{◌≡◌, ◌∙◌, ◌+◌, ◌-◌, ◌≤◌, ℕ, List, get_or, refl, ap, arith, subst, subst₂, sym}
use Rattle.board_model.specs.{Views.change_in, declared.durable.Entry.Entry}
use Rattle.tallies.specs.{Logs.Log, declared.book_views.{BookView.BookView, PartView.PartView}}
use Rattle.store.specs.Views.{journal_of, receipts}
use Rattle.hart_threads.proofs.Booted.{AreNoted, all_counted, all_told, all_tied, none_left, none_noted, one_noted}
use Rattle.hart_threads.proofs.unshared.note_journal.Goals as goal

pub returns-in_default-clause-count : goal.returns-in_default-clause-count
returns-in_default-clause-count g c =
    let from = c.from.ensures in
    none_left (c.from.result + 1) c.loop-count.count (receipts c.args.store.now) (c.entry.ensures.none c.in_default.is) (omega (arith, from)) c.loop-count.invariant.noted.within

pub loop-count-preserved : goal.loop-count-preserved
loop-count-preserved g c =
    let journal = journal_of c.args.store.now in
    let k = c.loop-count.count in
    let e = c.in-Some.entry in
    let some = c.in-Some.ensures.some in
    let from = c.from.ensures in
    let memory = some.2.0 in
    let place : c.from.result + 1 - 1 ≡ k = omega (arith, from) in
    let is = subst (λ (i : ℕ). get_or journal i (change_in e memory) ≡ change_in e memory) place some.2.1 in
    let last : c.from.result + 1 ≤ receipts c.args.store.now = some.1 in
    let there : k + 1 ≤ receipts c.args.store.now = omega (arith, last, from) in
    let noted = one_noted journal k c.loop-count.keeper.log c.loop-count.part.told c.loop-count.part.who e memory c.loop-count.invariant.noted there is in
    let note = c.note-part.ensures in
    record {
      noted = subst₂ (λ (log : Log Entry) (told : List (ℕ × Entry)). AreNoted journal (k + 1) log told) (sym (ap (λ (v : BookView Entry). v.log) note.keeper)) (sym (ap (λ (d : PartView Entry). d.told) note.part)) noted;
      parts = ap (λ (v : BookView Entry). v.parts) note.keeper ∙ c.loop-count.invariant.parts;
    }

pub returns-clause-count : goal.returns-clause-count
returns-clause-count g c =
    let within : c.loop-count.count ≤ receipts c.args.store.now = c.loop-count.invariant.noted.within in
    let few = c.requires.few in
    let all = c.loop-count-test.false in
    omega (arith, few, within, all)

pub loop-count-init : goal.loop-count-init
loop-count-init g c = record { noted = none_noted (journal_of c.args.store.now) c.args.keeper.now.log c.args.part.told c.requires.empty c.requires.fresh; parts = refl }

pub overflow_add-from : goal.overflow_add-from
overflow_add-from g c = omega (arith, c.from.ensures, c.loop-count-test.true)

pub loop-count-smaller : goal.loop-count-smaller
loop-count-smaller g c = omega (arith, c.loop-count-test.true)

pub returns-in_default-clause-tied : goal.returns-in_default-clause-tied
returns-in_default-clause-tied g c = all_tied (journal_of c.args.store.now) c.loop-count.count c.loop-count.keeper.log c.loop-count.part.told c.loop-count.invariant.noted (none_left (c.from.result + 1) c.loop-count.count (receipts c.args.store.now) (c.entry.ensures.none c.in_default.is) (omega (arith, c.from.ensures)) c.loop-count.invariant.noted.within)

pub returns-in_default-clause-parts : goal.returns-in_default-clause-parts
returns-in_default-clause-parts g c = c.loop-count.invariant.parts

pub returns-in_default-clause-told : goal.returns-in_default-clause-told
returns-in_default-clause-told g c = all_told (journal_of c.args.store.now) c.loop-count.count c.loop-count.keeper.log c.loop-count.part.told c.loop-count.invariant.noted (none_left (c.from.result + 1) c.loop-count.count (receipts c.args.store.now) (c.entry.ensures.none c.in_default.is) (omega (arith, c.from.ensures)) c.loop-count.invariant.noted.within)

pub returns-clause-tied : goal.returns-clause-tied
returns-clause-tied g c = all_tied (journal_of c.args.store.now) c.loop-count.count c.loop-count.keeper.log c.loop-count.part.told c.loop-count.invariant.noted (all_counted c.loop-count.count (receipts c.args.store.now) c.loop-count-test.false c.requires.few c.loop-count.invariant.noted.within)

pub returns-clause-parts : goal.returns-clause-parts
returns-clause-parts g c = c.loop-count.invariant.parts

pub returns-clause-told : goal.returns-clause-told
returns-clause-told g c = all_told (journal_of c.args.store.now) c.loop-count.count c.loop-count.keeper.log c.loop-count.part.told c.loop-count.invariant.noted (all_counted c.loop-count.count (receipts c.args.store.now) c.loop-count-test.false c.requires.few c.loop-count.invariant.noted.within)
