use Rattle.std.proofs.Common.{refl}
use Rattle.sbi_calls.proofs.serves.suspend_afresh.Goals as goal

pub returns-clause-does : goal.returns-clause-does
returns-clause-does c = let s = c.suspend-seats.ensures.does in (s.0, s.1, refl)

pub returns-clause-alone : goal.returns-clause-alone
returns-clause-alone c = λ t are. (refl, (c.suspend-seats.ensures.alone t are).1)
