use Rattle.std.proofs.Common.{◌≡◌, ◌∙◌, ℕ, List, None, length, refl, sym, ap, subst, arith}
use Rattle.board_model.specs.{Durable.{DurableState, fold, refusal_of}, Shapes.Size, declared.durable.Entry.Entry}
use Rattle.board.specs.Unbooted.{LeavesLife}
use Rattle.disk.specs.Facts.{Failed}
use Rattle.tallies.specs.{Closed.{AreReceiptsOf, told_in}, declared.book_views.PartView.PartView}
use Rattle.hart_threads.specs.{Bused.AreSaved, Noted.entries_in, Since.AreKept, Views.parts_with}
use Rattle.store.specs.Views.{size_of_store, now_state, journal_of, life_of, doubt_of}
use Rattle.board_session.proofs.{Backing.acknowledged, Powering.{begins_so, kept_reads, life_kept, life_leaves}}
use Rattle.board_session.proofs.life_end.disk_of.Goals as goal

pub returns-clause-life : goal.returns-clause-life
returns-clause-life g c = λ back.
    let store = c.close-store.result.0 in
    let o = c.into_disk.ensures in
    let named = c.close-store.ensures.named in
    let disk = g.D.Disk.facts c.into_disk.result in
    let size = g.J.Journal.size in
    let now = fold g.J.Journal.found (journal_of store) in
    let left = life_leaves (doubt_of store) disk (size_of_store store) (now_state store) (λ up. o.up (now_state store) (up, refl)) (λ d down. o.down (now_state store) _ (d, down, refl, refl)) in
    let left' = subst (λ (z : Size). LeavesLife (doubt_of store) disk z now) named.board (subst (λ (s : DurableState). LeavesLife (doubt_of store) disk (size_of_store store) s) named.life.now left) in
    let many = c.requires.harts in
    let last = c.gather_last.ensures.parts in
    let long = ap (λ (ps : List (PartView Entry)). length ps) last in
    let all = c.requires.all in
    let count : length (parts_with c.gather_last.new.whole) ≡ g.J.Journal.parts = omega (arith, long, many, all) in
    let receipts = subst (λ (ps : List (PartView Entry)). AreReceiptsOf (entries_in (journal_of store)) (told_in ps)) last (c.close-store.ensures.all count) in
    let are = acknowledged size g.J.Journal.issued (journal_of store) c.args.boot c.args.console (parts_with c.args.whole) back many c.requires.boot receipts in (
      record {
        journal = journal_of store;
        acknowledged = are.0;
        begun = begins_so g.J.Journal.issued (journal_of store) c.close-store.ensures.issued;
        taken = named.life.taken;
        doubt = doubt_of store;
        leaves = left';
        allowed = λ x is. subst (λ (s : DurableState). refusal_of s x ≡ None) named.life.now (o.allowed x is);
        reads = kept_reads disk size (life_kept (doubt_of store) disk size now left') (g.met.D.Disk.may_keep c.into_disk.result);
        failed = λ x is. subst (λ (n : ℕ). Failed n disk.failures) c.close-store.ensures.opened (o.failed x is);
        asked = c.close-store.ensures.doubt;
        kept = subst (λ d. AreKept size g.J.Journal.found g.J.Journal.earlier g.J.Journal.moment (length g.J.Journal.issued) (journal_of store) (doubt_of store) (g.D.Disk.facts d) c.close-store.result.1.at) (sym o.disk) c.close-store.ensures.kept;
      },
      are.1,
      ap (λ x. journal_of x) (c.close-store.ensures.same ∙ c.gather_last.ensures.store),
      ap (λ x. doubt_of x) (c.close-store.ensures.same ∙ c.gather_last.ensures.store),
    )

pub returns-clause-saved : goal.returns-clause-saved
returns-clause-saved g c =
    subst (λ x. AreSaved g.J.Journal.size (life_of x) c.close-store.result.2.0) (c.close-store.ensures.same ∙ c.gather_last.ensures.store) c.close-store.ensures.saved

pub returns-clause-woken : goal.returns-clause-woken
returns-clause-woken g c = c.close-store.ensures.woken

pub returns-clause-moments : goal.returns-clause-moments
returns-clause-moments g c = c.close-store.ensures.moments ∙ c.gather_last.ensures.moments
