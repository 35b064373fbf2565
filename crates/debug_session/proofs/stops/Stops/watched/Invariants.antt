use Rattle.std.proofs.Common.{◌≡◌, map, take}
use Rattle.debug_session.specs.{Lives.machine_of, Firsts.seen_all}
use Rattle.debug_session.proofs.stops.Stops.watched.Given as goal

abbrev pub invariant-loop-watch : goal.invariant-loop-watch
invariant-loop-watch l = map (λ was. (was.watch, was.bytes.items)) l.all.items ≡ seen_all (machine_of l.bench) (take l.watch-index l.self.watches.items)
