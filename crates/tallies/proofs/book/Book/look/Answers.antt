use Rattle.std.proofs.Common.{◌≡◌, ℕ, ◌<◌, length, sym, ap, ◌∙◌, subst}
use Rattle.tallies.{specs.{Sums.total, declared.book_views.BookView.BookView, Books.{Each, is_of}}, proofs.BookKeeps.looks}
use mathlib.Core.Option.{none}
use Rattle.atomic_table.specs.Table.{Me, step}
use Rattle.tallies.proofs.book.Book.look.Goals as goal

pub load-requires : goal.load-requires
load-requires g c =
    let t = c.self in
    let k = c.keeper.inside.seat in
    (c.keeper.invariant.0 ∙ sym t.invariant.1, t.invariant.0, looks t.inside.table.shared.table_id.slots k.id k.me (step t.inside.table.shared.table_id.slots 0 0 0 none))

pub returns-clause-of : goal.returns-clause-of
returns-clause-of g c =
    let k = c.keeper.inside.seat in
    let learnt = c.load.ensures.2.1 (ap (λ (m : Me (Unit {0}) (BookView _)). m.0.keeps) c.keeper.invariant.1) in
    let few = subst (λ (n : ℕ). Each (λ e. e.0 < n) k.me.0.log) (ap (λ (m : Me (Unit {0}) (BookView _)). m.0.count) c.keeper.invariant.1) learnt.1 in
    subst (λ (v : (BookView _)). Each (λ e. e.0 < g.J.Journal.parts) v.log) c.keeper.view_is few

pub returns-clause-all : goal.returns-clause-all
returns-clause-all g c =
    let k = c.keeper.inside.seat in
    let learnt = c.load.ensures.2.1 (ap (λ (m : Me (Unit {0}) (BookView _)). m.0.keeps) c.keeper.invariant.1) in
    let count = ap (λ (m : Me (Unit {0}) (BookView _)). m.0.count) c.keeper.invariant.1 in
    let here = subst (λ (n : ℕ). length k.me.0.parts ≡ n → (who : ℕ) → who < n → total (is_of who) k.me.0.parts ≡ 1) count learnt.2 in
    subst (λ (v : (BookView _)). length v.parts ≡ g.J.Journal.parts → (who : ℕ) → who < g.J.Journal.parts → total (is_of who) v.parts ≡ 1) c.keeper.view_is here
