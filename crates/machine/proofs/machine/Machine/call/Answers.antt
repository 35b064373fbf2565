use Rattle.std.proofs.Common.{None, refl, sym, ◌∙◌, subst}
use Rattle.machine.{specs.{Machine.hart_at, Turns.{CallBy, calling}}, proofs.Asking.{call_asks, calls_as_many}}
use Rattle.machine.proofs.machine.Machine.call.Goals as goal

pub returns-in-Some-clause-calls : goal.returns-in-Some-clause-calls
returns-in-Some-clause-calls c = subst (λ o. CallBy o c.args.id (calling (hart_at c.args.self.now c.args.id) c.args.call) c.args.self.now c.args.self.now None) (sym c.in-Some.is ∙ c.dozes.ensures) (refl, refl)

pub returns-in-None-clause-calls : goal.returns-in-None-clause-calls
returns-in-None-clause-calls c = subst (λ o. CallBy o c.args.id (calling (hart_at c.args.self.now c.args.id) c.args.call) c.args.self.now c.own_call.new.self c.own_call.result) (sym c.in-None.is ∙ c.dozes.ensures) c.own_call.ensures

pub returns-in-None-clause-asks : goal.returns-in-None-clause-asks
returns-in-None-clause-asks c = call_asks c.args.id c.args.call _ _ _ c.requires (returns-in-None-clause-calls c)

pub returns-in-None-clause-harts : goal.returns-in-None-clause-harts
returns-in-None-clause-harts c = calls_as_many c.args.id c.args.call _ _ _ (returns-in-None-clause-calls c)

pub own_call-requires-clause-hart : goal.own_call-requires-clause-hart
own_call-requires-clause-hart c = c.requires

pub own_call-requires-clause-awake : goal.own_call-requires-clause-awake
own_call-requires-clause-awake c = sym c.dozes.ensures ∙ c.in-None.is
