use Rattle.std.proofs.Common.{◌≡◌, map, drop}
use Rattle.debug_session.specs.{Lives.machine_of, Others.first_other}
use Rattle.debug_session.proofs.stops.first_in.Given as goal

abbrev pub invariant-loop-was : goal.invariant-loop-was
invariant-loop-was l =
    first_other (machine_of l.bench) l.load (map (λ was. (was.watch, was.bytes.items)) l.before)
    ≡ first_other (machine_of l.bench) l.load (map (λ was. (was.watch, was.bytes.items)) (drop l.was-index l.before))
