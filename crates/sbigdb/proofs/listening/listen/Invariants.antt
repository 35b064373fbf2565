use Rattle.std.specs.Io.Iter.{bytes_remaining}
use Rattle.sbigdb.proofs.Hearings.{Listened}
use Rattle.sbigdb.proofs.listening.listen.Given as goal

abbrev pub invariant-loop-byte : goal.invariant-loop-byte
invariant-loop-byte g l = record {
  callable : goal.F-IsAlwaysCallable g l.give;
  heard : Listened (goal.F-step g) l.fn.give (g.I.Read.remaining l.fn.input) l.give (bytes_remaining g.I.Read.remaining l.byte-iterator) l.decoder;
}
