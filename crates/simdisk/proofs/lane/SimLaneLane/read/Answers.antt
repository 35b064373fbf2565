use Rattle.std.proofs.{Common.{refl, sym, true≢false, arith}, lemmas.Grind.common_steps}
use Rattle.simdisk.proofs.lane.SimLaneLane.read.Goals as goal

pub returns-then-strikes-clause-found : goal.returns-then-strikes-clause-found
returns-then-strikes-clause-found c = tt

pub returns-then-strikes-clause-content : goal.returns-then-strikes-clause-content
returns-then-strikes-clause-content c = refl

pub returns-then-strikes-clause-place : goal.returns-then-strikes-clause-place
returns-then-strikes-clause-place c = refl

pub returns-then-strikes-clause-failures : goal.returns-then-strikes-clause-failures
returns-then-strikes-clause-failures c = record { ok = tt; err = c.failed.ensures }

pub returns-then-strikes-clause-calls : goal.returns-then-strikes-clause-calls
returns-then-strikes-clause-calls c = rw c.if-strikes.true at c.note_read.ensures

pub returns-then-strikes-clause-newest : goal.returns-then-strikes-clause-newest
returns-then-strikes-clause-newest c = refl

pub returns-then-strikes-clause-called : goal.returns-then-strikes-clause-called
returns-then-strikes-clause-called c = record { ok = tt; err = (c.if-strikes.ensures.due.0 refl, c.if-strikes.ensures.struck refl); calls = c.saturating_add-self.ensures }

pub returns-clause-found : goal.returns-clause-found
returns-clause-found c = grind (arith, common_steps)

pub returns-clause-content : goal.returns-clause-content
returns-clause-content c = refl

pub returns-clause-place : goal.returns-clause-place
returns-clause-place c = refl

pub returns-clause-failures : goal.returns-clause-failures
returns-clause-failures c = record { ok = refl; err = tt }

pub returns-clause-calls : goal.returns-clause-calls
returns-clause-calls c = rw c.if-strikes.false at c.note_read.ensures

pub returns-clause-newest : goal.returns-clause-newest
returns-clause-newest c = refl

pub returns-clause-called : goal.returns-clause-called
returns-clause-called c = record {
  ok = ((λ fails. true≢false (sym (c.if-strikes.ensures.due.1 fails))), c.if-strikes.ensures.counts refl, (c.if-strikes.ensures.waits refl).1);
  err = tt;
  calls = c.saturating_add-self.ensures;
}
