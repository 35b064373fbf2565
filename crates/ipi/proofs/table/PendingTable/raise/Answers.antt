use Rattle.std.{proofs.{Common.{◌≡◌, ◌↔◌, ℕ, ◌+◌, ◌<◌, not, IsTrue, ap, ◌∙◌, subst, arith}, lemmas.Nat.Bits.bit_at-lt}, specs.Int.bit_at}
use Rattle.ipi.{specs.declared.view.IpiAction.TheVariants.Raised, proofs.Alone.{same_harts, raise_alone, is_clear}}
use Rattle.ipi.proofs.table.PendingTable.raise.Goals.{After-contains}
use Rattle.ipi.proofs.table.PendingTable.raise.Goals as goal

-- the answer is whether the bit of the hart was clear
answered : (c : After-contains) → IsTrue (not c.contains.result) ↔ (bit_at c.raise_by-found.result c.args.by ≡ 0)
answered c =
    let found = c.raise_by-found.result in
    let by = c.args.by in
    let few = c.args.self.now.few in
    let lt : by < 8 = let own = c.requires.by in omega arith in
    let place : 0 + by ≡ by = omega arith in
    let same = c.in_byte.ensures.bits by lt ∙ ap (bit_at found) place in
    is_clear c.contains.result (bit_at found by) (bit_at-lt found by) (subst (λ (n : ℕ). IsTrue c.contains.result ↔ (n ≡ 1)) same c.contains.ensures)

pub returns-clause-harts : goal.returns-clause-harts
returns-clause-harts c = same_harts c.args.by (Raised c.args.target c.raise_by-found.result) c.args.seat.me.0 c.raise_by-found.new.seat.me.0 c.raise_by-found.ensures.told

pub returns-clause-steps : goal.returns-clause-steps
returns-clause-steps c = (c.raise_by-found.result, c.raise_by-found.ensures.told, answered (goal.at.returns-clause-steps c).After-contains)

pub returns-clause-alone : goal.returns-clause-alone
returns-clause-alone c = λ pairs shown.
    raise_alone c.args.self.now.table.shared.key c.args.by c.args.target c.raise_by-found.result c.args.seat.me.0 c.raise_by-found.new.seat.me.0 shown.0 c.requires.by c.raise_by-found.ensures.told
    (c.raise_by-found.ensures.tells shown.0 c.args.by) (not c.contains.result) (answered (goal.at.returns-clause-alone c).After-contains) pairs shown
