-- A call of a store is a step.
use Rattle.std.proofs.Common.{◌≡◌, true, false, refl}
use Rattle.board_model.specs.Shapes.{Size}
use Rattle.theorem.specs.{Story.{Now, Step}, Told.{IsCall, Answers}, declared.asks.{Asked.Asked, Seen.{Seen, TheVariants.NotOpen}}}
use Rattle.theorem.specs.declared.asks.Asked.TheVariants as asked

-- of an open one
pub as_step : (size : Size) (w v : Now) (a : Asked) (seen : Seen) → IsCall a → w.on ≡ true → Answers size w a seen v → Step size w a seen v
as_step size w v asked.Open seen call on is = absurd call
as_step size w v (asked.Arm fault) seen call on is = absurd call
as_step size w v (asked.Cut fill) seen call on is = absurd call
as_step size w v (asked.Command command) NotOpen call on is = absurd is
as_step size w v (asked.Command command) seen call on is = (on, is)
as_step size w v (asked.Suspend memory at) NotOpen call on is = absurd is
as_step size w v (asked.Suspend memory at) seen call on is = (on, is)
as_step size w v asked.Load NotOpen call on is = absurd is
as_step size w v asked.Load seen call on is = (on, is)
as_step size w v asked.Resume NotOpen call on is = absurd is
as_step size w v asked.Resume seen call on is = (on, is)

-- of one that is not there
pub not_open : (size : Size) (w : Now) (a : Asked) → IsCall a → w.on ≡ false → Step size w a NotOpen w
not_open size w asked.Open call off = absurd call
not_open size w (asked.Arm fault) call off = absurd call
not_open size w (asked.Cut fill) call off = absurd call
not_open size w a call off = (off, refl)
