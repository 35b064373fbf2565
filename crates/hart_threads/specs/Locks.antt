-- The locks of a bus and a store that one thread holds. Source: docs/THREADS.md, "A turn of a hart on its thread".
use Rattle.std.specs.Prelude.{Bool, false}

pub record Held : Type 0 where
  pub bus : Bool
  pub store : Bool

-- neither of them
abbrev pub no_locks : Held
no_locks = record { bus = false; store = false }

-- once it took that of the bus, or gave it back
abbrev pub with_bus : Bool → Held → Held
with_bus has held = record { bus = has; store = held.store }

-- the same of the store's
abbrev pub with_store : Bool → Held → Held
with_store has held = record { bus = held.bus; store = has }
