-- The wake-up device of a board. Source: docs/CONSOLE.md, "The console"; SBI specification 2.0, chapter 13.
use Rattle.std.specs.Prelude.{◌≡◌, Bool, true, false, Result, Ok, Err}
use Rattle.board_model.specs.declared.refusal.Refusal.{Refusal}
use Rattle.board_model.specs.declared.refusal.Refusal.TheVariants.{NotDozing}
use Rattle.susp.specs.Dozes.{can_wake, after_wake}
use Rattle.susp.specs.declared.buses.Bus.{Bus}

-- it is called once: a board that dozes and was not woken is woken; any other is refused, and nothing changes
abbrev pub WakesIf : Bool → Bus → Bus → Result (Unit {0}) Refusal → Type 0
WakesIf true old new r = (r ≡ Ok tt) × (new ≡ record old { doze = after_wake old.doze })
WakesIf false old new r = (r ≡ Err NotDozing) × (new ≡ old)

abbrev pub Wakes : Bus → Bus → Result (Unit {0}) Refusal → Type 0
Wakes old new r = WakesIf (can_wake old.doze) old new r

-- what it may come to, on a board of which nothing is known
abbrev pub MayWake : Result (Unit {0}) Refusal → Type 0
MayWake (Ok done) = Unit {0}
MayWake (Err e) = e ≡ NotDozing
