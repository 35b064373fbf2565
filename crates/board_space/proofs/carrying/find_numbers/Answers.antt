use Rattle.std.proofs.Common.{rules, List, ℕ, [], ◌∷◌, ◌++◌, ◌≡◌, ◌+◌, length, sym, subst}
use Rattle.board_space.{specs.{Carried.AreFound, Rows.Extends}, proofs.{Numbers.extends_more, Remembered.found_more}}
use Rattle.board_space.proofs.carrying.find_numbers.Goals as goal

pub loop-place-preserved : goal.loop-place-preserved
loop-place-preserved c =
    let until = c.loop-place.invariant in
    let n = c.loop-place.place in
    let k = c.in-Some.number in
    let items : c.push.new.self.items ≡ c.loop-place.out.items ++ k ∷ [] = search rules in
    record {
      row = subst (λ (r : List ℕ). Extends c.args.out.now.items r (n + 1)) (sym items) (extends_more c.args.out.now.items c.loop-place.out.items n k until.row);
      found = subst (λ (r : List ℕ). AreFound c.args.memo.now c.args.row.now c.args.first r (length c.args.out.now.items) (n + 1)) (sym items)
          (found_more c.args.memo.now c.args.row.now c.args.out.now.items c.loop-place.out.items c.args.first n k until.row until.found c.in-Some.ensures);
    }
