use Rattle.std.{proofs.Common.{◌∙◌, refl, sym, true≢false, eq-eqb}, specs.Int.bit_at}
use Rattle.ipi.specs.Views.{pair_at}
use Rattle.sbi_calls.proofs.sends.send_one.Goals as goal

pub returns-then-contains-clause-sends : goal.returns-then-contains-clause-sends
returns-then-contains-clause-sends c = let s = c.raise-raised.ensures.steps in ((λ has. (s.0, s.1)), (λ lacks. absurd (lacks (c.contains.ensures.0 c.if-contains.true))))

pub returns-then-contains-clause-alone : goal.returns-then-contains-clause-alone
returns-then-contains-clause-alone c = λ pairs are.
    let has = c.contains.ensures.0 c.if-contains.true in
    let a = c.raise-raised.ensures.alone (pair_at pairs) are.1 in
    rw (eq-eqb (bit_at c.args.targets c.args.target) 1 has) (c.seat_determines_pairs.ensures.raised _ _ c.args.by c.args.target pairs are.0 c.requires.by c.requires.target a.1)

pub returns-else-contains-clause-sends : goal.returns-else-contains-clause-sends
returns-else-contains-clause-sends c = ((λ has. absurd (true≢false (sym (c.contains.ensures.1 has) ∙ c.if-contains.false))), (λ lacks. refl))
