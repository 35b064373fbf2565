-- What one look at the bus tells a hart in whose doze its board may be, and what it leaves. Source: docs/THREADS.md,
-- "A doze".
use Rattle.std.specs.Prelude.{ℕ, Bool, true, false, Option, Some, None}
use Rattle.susp.specs.Dozes.{doze_of}
use Rattle.susp.specs.declared.buses.Doze.{Doze}

abbrev pub woken_in : Option Doze → Bool
woken_in None = false
woken_in (Some d) = d.woken

-- the board dozes by this hart, and was woken
abbrev pub is_woken : ℕ → Option Doze → Bool
is_woken h found = woken_in (doze_of h found)

-- the doze that stays on the bus: one that was woken is over once its hart begins again
abbrev pub doze_left : Bool → Option Doze → Option Doze
doze_left false found = found
doze_left true found = None
