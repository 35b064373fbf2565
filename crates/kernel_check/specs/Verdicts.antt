-- The verdict of a kernel, and the status of the program. Source: docs/CHECKING.md, "Statuses, and lines of JSON".
use Rattle.std.specs.Prelude.{ℕ, zero, suc, Bool, true, false, Option, None, Some, Result, Ok, Err}
use Rattle.board_space.specs.declared.bounds.Bound.{Bound}
use Rattle.board_space.specs.declared.bounds.Bound.TheVariants.{Unbounded, Preemptions, PowerOns}
use Rattle.command_line.specs.Faults.{status_after as status_of_fault}
use Rattle.kernel_check.specs.declared.faults.CheckFault.{CheckFault}
use Rattle.kernel_check.specs.declared.faults.CheckFault.TheVariants as faults
use Rattle.kernel_check.specs.declared.facts.Stop.{Stop}
use Rattle.kernel_check.specs.declared.facts.Stop.TheVariants as stops
use Rattle.kernel_check.specs.declared.facts.Verdict.{Verdict}
use Rattle.kernel_check.specs.declared.facts.Verdict.TheVariants as verdicts

-- the verdict where nothing is wrong in the orders that were followed
abbrev pub fine_by : Bound → Verdict
fine_by Unbounded = verdicts.Holds
fine_by (Preemptions k) = verdicts.Within k
fine_by (PowerOns n) = verdicts.Lives n

-- why it is none where the search tells nothing of these orders
abbrev pub untold_by : Bound → Stop
untold_by Unbounded = stops.Untold
untold_by (Preemptions k) = stops.Switches
untold_by (PowerOns n) = stops.Lives

-- Of so many failures that were found, why the search was not closed, whether each end shows something, whether the search tells of the
-- orders what their ends show, and how they were bounded: what was found comes first.
abbrev pub verdict_of : ℕ → Option Stop → Bool → Bool → Bound → Verdict
verdict_of (suc n) stop shows told bound = verdicts.Found
verdict_of zero (Some stop) shows told bound = verdicts.Open stop
verdict_of zero None false told bound = verdicts.Blank
verdict_of zero None true true bound = fine_by bound
verdict_of zero None true false bound = verdicts.Open (untold_by bound)

abbrev pub status_of : Verdict → ℕ
status_of verdicts.Holds = 0
status_of (verdicts.Within k) = 4
status_of (verdicts.Lives n) = 4
status_of verdicts.Found = 3
status_of (verdicts.Open stop) = 4
status_of verdicts.Blank = 4

-- without a verdict: 1, or 2 for a fault of the command line
abbrev pub status_without : CheckFault → ℕ
status_without faults.Usage = 2
status_without (faults.Told fault) = status_of_fault {A = Unit {0}} (Err fault.fault)
status_without (faults.Kernel fault) = 1
status_without (faults.Look name fault) = 2
status_without (faults.NotFound kind) = 1

-- the status with which the program ends: 0 where it shows what it was asked to show, as its help, and where a verdict is that nothing is wrong
abbrev pub status_after : Result (Option Verdict) CheckFault → ℕ
status_after (Ok None) = 0
status_after (Ok (Some verdict)) = status_of verdict
status_after (Err fault) = status_without fault
