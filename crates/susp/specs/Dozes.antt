-- A board that sleeps to RAM, and the device that wakes it. Source: SBI specification 2.0, chapter 13; docs/SBI.md.
use Rattle.std.specs.Prelude.{ℕ, Bool, true, false, ◌==◌, if◌then◌else◌, Option, Some, None}
use Rattle.susp.specs.declared.buses.Doze.{Doze}

-- a hart's doze that begins
abbrev pub dozing : ℕ → ℕ → ℕ → Doze
dozing hart address opaque =
    record { at = record { hart = hart; address = address; opaque = opaque }; woken = false }

-- the doze, where it is that hart's
abbrev pub doze_of : ℕ → Option Doze → Option Doze
doze_of h None = None
doze_of h (Some d) = if d.at.hart == h then Some d else None

-- the wake-up device finds a board that dozes and was not woken, and wakes it
abbrev pub can_wake : Option Doze → Bool
can_wake None = false
can_wake (Some d) = if d.woken then false else true

abbrev pub after_wake : Option Doze → Option Doze
after_wake None = None
after_wake (Some d) = Some (record d { woken = true })
