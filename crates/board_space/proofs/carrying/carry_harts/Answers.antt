use Rattle.std.proofs.Common.{rules, List, ℕ, [], ◌∷◌, ◌++◌, ◌≡◌, ◌+◌, length, sym, subst, arith}
use Rattle.board_space.{specs.{Carried.{AreLearned, AreSameRecords}, Rows.Extends}, proofs.{Carried.records_more, Numbers.extends_more}}
use Rattle.board_space.proofs.Remembered.{learned_more, right_more}
use Rattle.board_space.proofs.carrying.carry_harts.Goals as goal

pub loop-place-preserved : goal.loop-place-preserved
loop-place-preserved c =
    let until = c.loop-place.invariant in
    let n = c.loop-place.place in
    let k = c.in_ok-number.number in
    let from = c.args.from.now.records.items in
    let row = c.args.row.now in
    let old = c.args.out.now.items in
    let items : c.push.new.self.items ≡ c.loop-place.out.items ++ k ∷ [] = search rules in
    record {
      row = subst (λ (r : List ℕ). Extends old r (n + 1)) (sym items) (extends_more old c.loop-place.out.items n k until.row);
      right = right_more c.args.learns from c.loop-place.to.records.items c.carry_hart.new.to.records.items c.loop-place.memo c.carry_hart.new.memo _ k c.carry_hart.ensures.stay until.right c.in_ok-number.ensures.learned c.in_ok-number.ensures.same;
      same = subst (λ (r : List ℕ). AreSameRecords from row 1 c.carry_hart.new.to.records.items r (length old) (n + 1)) (sym items)
          (records_more from row 1 c.loop-place.to.records.items c.carry_hart.new.to.records.items old c.loop-place.out.items n k until.row c.carry_hart.ensures.stay until.same c.in_ok-number.ensures.same);
      learned = subst (λ (r : List ℕ). AreLearned c.args.learns c.args.memo.now c.carry_hart.new.memo row 1 r (length old) (n + 1)) (sym items)
          (learned_more c.args.learns c.args.memo.now c.loop-place.memo c.carry_hart.new.memo row old c.loop-place.out.items 1 n k until.row until.learned c.in_ok-number.ensures.learned);
      stay = λ m x is. c.carry_hart.ensures.stay m x (until.stay m x is);
    }

pub returns-clause-learned : goal.returns-clause-learned
returns-clause-learned c =
    let all : c.loop-place.place ≡ c.args.count = omega arith in
    subst (λ (n : ℕ). AreLearned c.args.learns c.args.memo.now c.loop-place.memo c.args.row.now 1 c.loop-place.out.items (length c.args.out.now.items) n) all c.loop-place.invariant.learned
