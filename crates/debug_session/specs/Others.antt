-- How the code finds the first watchpoint that a turn touched.
use Rattle.std.specs.Prelude.{ℕ, List, [], ◌∷◌, Option, Some, None, if◌then◌else◌}
use Rattle.machine.specs.Machine.{Machine}
use Rattle.debug_session.specs.declared.stops.Watchpoint.{Watchpoint}
use Rattle.debug_session.specs.Firsts.{is_quiet, seen_by}
use Rattle.debug_session.specs.declared.loads.Load.{Load}

-- what was seen, where it was touched
abbrev pub other_of : Option Machine → Option Load → Watchpoint × List ℕ → Option Watchpoint
other_of now load was = if is_quiet load was.0 was.1 (seen_by now was.0) then None else Some was.0

abbrev pub or_later : Option Watchpoint → Option Watchpoint → Option Watchpoint
or_later None later = later
or_later (Some w) later = Some w

-- the first of these
abbrev pub first_other : Option Machine → Option Load → List (Watchpoint × List ℕ) → Option Watchpoint
first_other now load [] = None
first_other now load (was ∷ more) = or_later (other_of now load was) (first_other now load more)
