-- What a verdict says of a kernel. Source: docs/CHECKING.md, "What the verdict says, and what not".
use Rattle.std.specs.Prelude.{ℕ, List}
use Rattle.board_space.specs.Few.{AskedOrders}
use Rattle.board_space.specs.Space.{Asked}
use Rattle.board_space.specs.declared.bounds.Bound.TheVariants.{Unbounded, Preemptions, PowerOns}
use Rattle.kernel_check.specs.Failures.{CanFail}
use Rattle.kernel_check.specs.Tells.{HoldsAs}
use Rattle.kernel_check.specs.declared.facts.EndKind.{EndKind}
use Rattle.kernel_check.specs.declared.facts.Verdict.{Verdict}
use Rattle.kernel_check.specs.declared.facts.Verdict.TheVariants as verdicts
use Rattle.kernel_check.specs.declared.given.FailureKind.{FailureKind}
use Rattle.kernel_check.specs.declared.looks.Look.{Look}

-- every order, those in which at most so many harts are preempted, and those with at most so many power-ons
abbrev pub all_orders : Asked → AskedOrders
all_orders asked = record { asked = asked; bound = Unbounded }

abbrev pub few_orders : ℕ → Asked → AskedOrders
few_orders switches asked = record { asked = asked; bound = Preemptions switches }

abbrev pub life_orders : ℕ → Asked → AskedOrders
life_orders most asked = record { asked = asked; bound = PowerOns most }

-- what a verdict says, where these kinds of ends are told: that nothing is wrong, or that some failure can come
abbrev pub SaysAs : Verdict → Asked → List Look → List EndKind → Type 0
SaysAs verdicts.Holds asked looks kinds = HoldsAs (all_orders asked) looks kinds
SaysAs (verdicts.Within k) asked looks kinds = HoldsAs (few_orders k asked) looks kinds
SaysAs (verdicts.Lives n) asked looks kinds = HoldsAs (life_orders n asked) looks kinds
SaysAs verdicts.Found asked looks kinds = (kind : FailureKind) × CanFail kind asked looks
SaysAs (verdicts.Open stop) asked looks kinds = Unit {0}
SaysAs verdicts.Blank asked looks kinds = Unit {0}

-- whichever kinds are told
abbrev pub Says : Verdict → Asked → List Look → Type 0
Says verdict asked looks = (kinds : List EndKind) × SaysAs verdict asked looks kinds
