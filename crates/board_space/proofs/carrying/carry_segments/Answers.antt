use Rattle.std.proofs.Common.{rules, List, ℕ, [], ◌∷◌, ◌++◌, ◌≡◌, ◌+◌, length, sym, subst, arith}
use Rattle.board_space.{specs.{Carried.{AreLearned, AreSameWords}, Rows.Extends}, proofs.Carried.words_more}
use Rattle.board_space.proofs.{Numbers.{extends_more, grows_both}, Remembered.{learned_more, right_words_more}}
use Rattle.board_space.proofs.carrying.carry_segments.Goals as goal

pub loop-place-preserved : goal.loop-place-preserved
loop-place-preserved c =
    let until = c.loop-place.invariant in
    let n = c.loop-place.place in
    let k = c.in_ok-number.number in
    let from = c.args.from.now in
    let row = c.args.row.now in
    let first = c.args.first in
    let old = c.args.out.now.items in
    let items : c.push.new.self.items ≡ c.loop-place.out.items ++ k ∷ [] = search rules in
    record {
      row = subst (λ (r : List ℕ). Extends old r (n + 1)) (sym items) (extends_more old c.loop-place.out.items n k until.row);
      right = right_words_more c.args.learns from c.loop-place.to c.carry_words.new.to c.loop-place.memo c.carry_words.new.memo _ k c.carry_words.ensures.grows until.right c.in_ok-number.ensures.learned c.in_ok-number.ensures.within c.in_ok-number.ensures.same;
      same = subst (λ (r : List ℕ). AreSameWords from row first c.carry_words.new.to r (length old) (n + 1)) (sym items)
          (words_more from row first c.loop-place.to c.carry_words.new.to old c.loop-place.out.items n k until.row c.carry_words.ensures.grows until.same c.in_ok-number.ensures.within c.in_ok-number.ensures.same);
      learned = subst (λ (r : List ℕ). AreLearned c.args.learns c.args.memo.now c.carry_words.new.memo row first r (length old) (n + 1)) (sym items)
          (learned_more c.args.learns c.args.memo.now c.loop-place.memo c.carry_words.new.memo row old c.loop-place.out.items first n k until.row until.learned c.in_ok-number.ensures.learned);
      grows = grows_both c.args.to.now c.loop-place.to c.carry_words.new.to until.grows c.carry_words.ensures.grows;
    }

pub returns-clause-learned : goal.returns-clause-learned
returns-clause-learned c =
    let all : c.loop-place.place ≡ c.args.count = omega arith in
    subst (λ (n : ℕ). AreLearned c.args.learns c.args.memo.now c.loop-place.memo c.args.row.now c.args.first c.loop-place.out.items (length c.args.out.now.items) n) all c.loop-place.invariant.learned
