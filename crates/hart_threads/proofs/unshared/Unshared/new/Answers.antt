use Rattle.std.proofs.Common.{◌≡◌, ◌∙◌, ◌+◌, ◌<◌, ◌≤◌, ℕ, List, Option, [], All, length, drop, refl, sym, ap, subst, arith}
use Rattle.std.specs.Option.{option_to_list}
use Rattle.board_model.specs.{Durable.{Change, DurableState, fold}, Views.durable_of, Shapes.Size, declared.durable.Entry.Entry}
use Rattle.store.specs.{Taken.are_taken, Leaves.LeavesOnly, Views.{disk_of, journal_of, life_of, now_state}}
use Rattle.tallies.specs.{Books.{first_of, fresh_from}, declared.book_views.{BookView.BookView, PartView.PartView}}
use Rattle.hart_threads.{specs.{Noted.{boot_told, entries_in}, Bused.AreSaved}, proofs.{Booted.begins_same, Keeping.begun_kept}}
use Rattle.hart_threads.proofs.UntoldParts.{all_rest, first_told, fresh_many, fresh_told, one_off}
use Rattle.hart_threads.proofs.{Numbered.two_more, Overs.{marked_first, none_told}}
use Rattle.tallies.specs.Halts.{Watched}
use Rattle.hart_threads.specs.declared.bus_turns.BusTurn.{BusTurn}
use Rattle.hart_threads.proofs.unshared.Unshared.new.Goals as goal

pub hand_out-part-requires : goal.hand_out-part-requires
hand_out-part-requires g c =
    let n = g.J.Journal.parts in
    let some : 0 < length (fresh_from 0 n) = subst (λ (k : ℕ). 0 < k) (sym (fresh_many 0 n)) c.requires.some in
    record { some = subst (λ (v : BookView Entry). 0 < length v.parts) (sym c.named-book.ensures) some }

pub note_journal-part-requires-clause-fresh : goal.note_journal-part-requires-clause-fresh
note_journal-part-requires-clause-fresh g c κs within =
    let n = g.J.Journal.parts in
    ap (λ (d : PartView Entry). d.told) c.hand_out-part.ensures.part ∙ ap (λ (v : BookView Entry). (first_of v.parts).told) c.named-book.ensures ∙ first_told (fresh_from 0 n) (fresh_told 0 n)

pub returns-clause-rest : goal.returns-clause-rest
returns-clause-rest g c =
    let n = g.J.Journal.parts in
    let rest = c.note_journal-part.ensures.parts ∙ ap (λ (v : BookView Entry). v.parts) c.hand_out-part.ensures.keeper ∙ ap (λ (v : BookView Entry). drop 1 v.parts) c.named-book.ensures in
    let some : 0 < length (fresh_from 0 n) = subst (λ (k : ℕ). 0 < k) (sym (fresh_many 0 n)) c.requires.some in
    ap (λ (ds : List (PartView Entry)). length ds + 1) rest ∙ one_off (fresh_from 0 n) some ∙ fresh_many 0 n

pub returns-clause-fresh : goal.returns-clause-fresh
returns-clause-fresh g c =
    let n = g.J.Journal.parts in
    let rest = c.note_journal-part.ensures.parts ∙ ap (λ (v : BookView Entry). v.parts) c.hand_out-part.ensures.keeper ∙ ap (λ (v : BookView Entry). drop 1 v.parts) c.named-book.ensures in
    subst (λ (ds : List (PartView Entry)). All (λ d. d.told ≡ []) ds) (sym rest) (all_rest (fresh_from 0 n) (fresh_told 0 n))

pub named-book-requires-clause-book : goal.named-book-requires-clause-book
named-book-requires-clause-book g c = c.requires.book

pub named-book-requires-clause-parts : goal.named-book-requires-clause-parts
named-book-requires-clause-parts g c = c.requires.parts

pub new-doubts-requires-clause-book : goal.new-doubts-requires-clause-book
new-doubts-requires-clause-book g c = c.requires.doubts

pub new-doubts-requires-clause-parts : goal.new-doubts-requires-clause-parts
new-doubts-requires-clause-parts g c = c.requires.two

pub note_journal-part-requires-clause-few : goal.note_journal-part-requires-clause-few
note_journal-part-requires-clause-few g c κs within = subst (λ (l : List Change). length l ≤ 4096) (sym c.requires.issued) c.requires.few

pub hand_out-own-requires : goal.hand_out-own-requires
hand_out-own-requires g c = record { some = subst (λ (ds : List (PartView BusTurn)). 0 < length ds) (sym (c.requires.bus ∙ two_more g.J.Journal.size.harts)) (omega arith) }

pub hand_out-run-requires : goal.hand_out-run-requires
hand_out-run-requires g c =
    let rest = c.hand_out-own.ensures.parts ∙ ap (λ (ds : List (PartView BusTurn)). drop 1 ds) (c.requires.bus ∙ two_more g.J.Journal.size.harts) in
    record { some = subst (λ (ds : List (PartView BusTurn)). 0 < length ds) (sym rest) (omega arith) }

pub new-doubts-requires-clause-run : goal.new-doubts-requires-clause-run
new-doubts-requires-clause-run g c =
    let rest = c.hand_out-own.ensures.parts ∙ ap (λ (ds : List (PartView BusTurn)). drop 1 ds) (c.requires.bus ∙ two_more g.J.Journal.size.harts) in
    c.hand_out-run.ensures.part ∙ ap (λ (ds : List (PartView BusTurn)). first_of ds) rest

pub returns-clause-bus : goal.returns-clause-bus
returns-clause-bus g c = c.hand_out-run.ensures.bus ∙ c.hand_out-own.ensures.bus

pub returns-clause-harts : goal.returns-clause-harts
returns-clause-harts g c =
    let rest = c.hand_out-own.ensures.parts ∙ ap (λ (ds : List (PartView BusTurn)). drop 1 ds) (c.requires.bus ∙ two_more g.J.Journal.size.harts) in
    c.hand_out-run.ensures.parts ∙ ap (λ (ds : List (PartView BusTurn)). drop 1 ds) rest

pub invariant_of-whole : goal.invariant_of-whole
invariant_of-whole g c = record {
  named = record {
    board = c.requires.board;
    life = record {
      heads = ap durable_of c.requires.found;
      now = ap (λ (s : DurableState). fold s (journal_of c.args.store)) c.requires.found;
      taken = ap (λ (l : List Change). are_taken g.J.Journal.found l) c.requires.issued ∙ c.requires.taken;
    };
  };
  issued = begins_same g.J.Journal.issued (journal_of c.args.store) c.requires.issued;
  there = refl;
  saved =
      let own = c.hand_out-own.ensures.part ∙ ap (λ (ds : List (PartView BusTurn)). first_of ds) (c.requires.bus ∙ two_more g.J.Journal.size.harts) in
      subst (λ (d : PartView BusTurn). AreSaved g.J.Journal.size (life_of c.args.store) d) (sym own) ∣ (refl, tt, c.requires.unended []) ∣₁;
  counted = c.note_journal-part.ensures.count;
  few = omega (arith, c.note_journal-part.ensures.count, ap (λ (l : List Change). length l) c.requires.issued, c.requires.few);
  tied = c.note_journal-part.ensures.tied;
  opened = c.requires.opened;
  kept = begun_kept g.J.Journal.size g.J.Journal.found g.J.Journal.earlier g.J.Journal.moment g.J.Journal.issued (life_of c.args.store) (disk_of c.args.store) c.first-moments.result.at c.requires.moment c.requires.earlier c.requires.issued c.requires.up (g.met.D.Disk.only_now _)
      (subst (λ (s : DurableState). LeavesOnly (disk_of c.args.store) g.J.Journal.size s) (ap (λ (s : DurableState). fold s (journal_of c.args.store)) c.requires.found ∙ ap (λ (l : List Change). fold g.J.Journal.found l) c.requires.issued)
      (subst (λ (z : Size). LeavesOnly (disk_of c.args.store) z (now_state c.args.store)) c.requires.board (c.stands.ensures.up (now_state c.args.store) (c.requires.up, refl))))
      c.first-moments.ensures;
  marked = marked_first g.J.Threaded.over c.args.ender (life_of c.args.store) (ap (λ (w : Watched). w.of) c.requires.ender) (ap (λ (w : Watched). w.may_set) c.requires.ender) (none_told g.J.Journal.size (life_of c.args.store) (c.requires.unended []));
  doubted = c.new-doubts.ensures.none ∙ sym (ap (λ (d : Option Change). entries_in (option_to_list d)) c.requires.up);
}

pub returns-clause-store : goal.returns-clause-store
returns-clause-store g c = refl

pub returns-clause-boot : goal.returns-clause-boot
returns-clause-boot g c = c.note_journal-part.ensures.told ∙ ap boot_told c.requires.issued

pub returns-clause-heard : goal.returns-clause-heard
returns-clause-heard g c = c.new-doubts.ensures.heard

pub returns-clause-moments : goal.returns-clause-moments
returns-clause-moments g c = c.first-moments.ensures
