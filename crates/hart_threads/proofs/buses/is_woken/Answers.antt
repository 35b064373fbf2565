use Rattle.std.proofs.Common.{◌∙◌, sym, ap}
use Rattle.hart_threads.specs.Dozes.{woken_in}
use Rattle.hart_threads.proofs.buses.is_woken.Goals as goal

pub returns-in-Some : goal.returns-in-Some
returns-in-Some c = sym (ap woken_in (sym c.doze_of.ensures ∙ c.in-Some.is))

pub returns-in-None : goal.returns-in-None
returns-in-None c = sym (ap woken_in (sym c.doze_of.ensures ∙ c.in-None.is))
