-- The first watchpoint that a turn touched, as the code finds it.
use Rattle.std.{proofs.Common.{◌≡◌, ℕ, Bool, true, false, List, [], ◌∷◌, Option, Some, None, refl, ap, ◌∙◌}, specs.Prelude.if◌then◌else◌}
use Rattle.machine.specs.Machine.{Machine}
use Rattle.debug_session.specs.{declared.{stops.Watchpoint.Watchpoint, loads.Load.Load}, Firsts.{is_quiet, seen_by, touched_since}}
use Rattle.debug_session.specs.Others.{first_other, or_later, other_of}

either : (quiet : Bool) (w : Watchpoint) (later : Option Watchpoint) → or_later (if quiet then None else Some w) later ≡ (if quiet then later else Some w)
either true w later = refl
either false w later = refl

pub first_since : (now : Option Machine) (load : Option Load) (seen : List (Watchpoint × List ℕ)) → first_other now load seen ≡ touched_since now load seen
first_since now load [] = refl
first_since now load (was ∷ more) =
    ap (or_later (other_of now load was)) (first_since now load more) ∙ either (is_quiet load was.0 was.1 (seen_by now was.0)) was.0 (touched_since now load more)
