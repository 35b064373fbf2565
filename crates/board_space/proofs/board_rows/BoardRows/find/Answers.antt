use Rattle.std.proofs.Common.{ℕ, ◌≡◌, ◌+◌, ◌<◌, List, length, ap, subst, sym, true}
use Rattle.board_space.{specs.{Carried.AreFound, Layouts.tracked_of, Rows.Extends, Tracked.segment_count}, proofs.Carried.stands_carried}
use Rattle.board_space.proofs.Remembered.{same_first}
use Rattle.board_space.proofs.board_rows.BoardRows.find.Goals as goal

pub returns : goal.returns
returns c = record {
  stands = λ done b x.
      let from = c.args.from.now in
      let row = c.args.row.now in
      let self = c.args.self.now in
      let none = c.clear.new.self.items in
      let first = c.find_rest.new.out.items in
      let mid = c.find_numbers.new.out.items in
      let out = c.find_numbers-2.new.out.items in
      let found : c.in_ok-found.found ≡ true = cc in
      let harts = c.in_ok-find_numbers.ensures.found c.if-not-branch-2.false in
      let words = c.in_ok-found.ensures.found found in
      stands_carried from self row none first mid out c.requires.laid c.requires.size (ap (λ (l : List ℕ). length l) c.clear.ensures.items)
      (c.in_ok-find_rest.ensures.row c.if-not-branch.false)
      (subst (λ (n : ℕ). Extends first mid n) c.harts-harts.ensures (c.in_ok-find_numbers.ensures.row c.if-not-branch-2.false))
      (subst (λ (n : ℕ). Extends mid out n) c.segments-segments.ensures (c.in_ok-found.ensures.row found))
      (same_first from.rests.records.items self.rests.records.items row first (length none) (c.in_ok-find_rest.ensures.same c.if-not-branch.false))
      (λ h z lt is. c.requires.harts _ _ z (harts h (subst (λ (n : ℕ). h < n) (sym c.harts-harts.ensures) lt)) is)
      (λ s lt. c.requires.words _ _ (subst (λ (n : ℕ). AreFound c.args.memo.now.words row (1 + n) out (length mid) (segment_count (tracked_of from.layout))) c.harts-harts.ensures
      (subst (λ (n : ℕ). AreFound c.args.memo.now.words row (1 + c.harts-harts.result) out (length mid) n) c.segments-segments.ensures words) s lt) (x.is.memory.segments s lt).0)
      b x;
}
