use Rattle.std.proofs.Common.{ℕ, subst}
use Rattle.hsm.specs.Views.{listed}
use Rattle.sbi_calls.specs.Both.{harts_of_both}
use Rattle.susp.specs.Sleeps.{SleepsAlone}
use Rattle.sbi.proofs.dispatches.sleep.Goals as goal

pub returns-clause-alone : goal.returns-clause-alone
returns-clause-alone g c = λ x are.
    let slept = c.suspend-harts.result.1 in
    let a = c.suspend-harts.ensures.alone (listed x.states) are.0.1 in
    let does = subst (λ (k : ℕ). SleepsAlone (harts_of_both c.args.tables.now) k c.args.asked.kind c.args.asked.address c.args.asked.opaque (listed x.states) c.args.bus.now c.args.store.now slept c.suspend-harts.new.bus c.suspend-harts.new.store) c.id-by.ensures a.0 in
    ((slept, does, c.told_of_sleep-word.ensures), ((are.0.0, a.1), are.1))
