use Rattle.std.{proofs.Common.{◌≡◌, ◌++◌, ℕ, List, map}, specs.Slice.Iter.chunks_rest}
use Rattle.sbigdb.{specs.Texts.console_packet, proofs.Console.joined}
use Rattle.sbigdb.proofs.texts.tell.Given as goal

abbrev pub invariant-loop-piece : goal.invariant-loop-piece
invariant-loop-piece l =
    (pieces : List (List ℕ)) × (joined pieces ++ chunks_rest l.piece-iterator ≡ l.text)
    × (map (λ v. v.items) l.out.items ≡ map (λ v. v.items) l.fn.out.items ++ map console_packet pieces)
