use Rattle.std.proofs.{Common.{◌∙◌, refl, sym, ap, true≢false, arith}, lemmas.Grind.common_steps}
use Rattle.disk.specs.Facts.{Content}
use Rattle.simdisk.specs.Views.{last_of}
use Rattle.simdisk.proofs.lane.SimLaneLane.write.Goals as goal

pub invariant_of-self : goal.invariant_of-self
invariant_of-self c = grind (arith, common_steps)

pub returns-then-strikes-clause-written : goal.returns-then-strikes-clause-written
returns-then-strikes-clause-written c = tt

pub returns-then-strikes-clause-content : goal.returns-then-strikes-clause-content
returns-then-strikes-clause-content c = record { as_long = refl; before = λ k lt. refl; after = λ k le. refl }

pub returns-then-strikes-clause-place : goal.returns-then-strikes-clause-place
returns-then-strikes-clause-place c = refl

pub returns-then-strikes-clause-failures : goal.returns-then-strikes-clause-failures
returns-then-strikes-clause-failures c = record { ok = tt; err = c.failed.ensures }

pub returns-then-strikes-clause-calls : goal.returns-then-strikes-clause-calls
returns-then-strikes-clause-calls c = rw c.if-strikes.true at c.note_write.ensures

pub returns-then-strikes-clause-stays : goal.returns-then-strikes-clause-stays
returns-then-strikes-clause-stays c = refl

pub returns-then-strikes-clause-called : goal.returns-then-strikes-clause-called
returns-then-strikes-clause-called c = record { ok = tt; err = (c.if-strikes.ensures.due.0 refl, c.if-strikes.ensures.struck refl); calls = c.saturating_add-self.ensures }

pub overwrite-requires : goal.overwrite-requires
overwrite-requires c = c.requires

pub invariant_of-self-2 : goal.invariant_of-self-2
invariant_of-self-2 c = grind (arith, common_steps)

pub returns-clause-written : goal.returns-clause-written
returns-clause-written c = c.overwrite.ensures.written

pub returns-clause-content : goal.returns-clause-content
returns-clause-content c = c.overwrite.ensures.written.elsewhere

pub returns-clause-place : goal.returns-clause-place
returns-clause-place c = refl

pub returns-clause-failures : goal.returns-clause-failures
returns-clause-failures c = record { ok = refl; err = tt }

pub returns-clause-calls : goal.returns-clause-calls
returns-clause-calls c = rw c.if-strikes.false at c.note_write.ensures

pub returns-clause-stays : goal.returns-clause-stays
returns-clause-stays c = tt

pub returns-clause-newest : goal.returns-clause-newest
returns-clause-newest c = ap (λ (x : Content). last_of c.write.new.self x) c.overwrite.ensures.put ∙ c.write.ensures.written c.args.self.now.sectors.items

pub returns-clause-called : goal.returns-clause-called
returns-clause-called c = record {
  ok = ((λ fails. true≢false (sym (c.if-strikes.ensures.due.1 fails))), c.if-strikes.ensures.counts refl, (c.if-strikes.ensures.waits refl).1);
  err = tt;
  calls = c.saturating_add-self.ensures;
}
