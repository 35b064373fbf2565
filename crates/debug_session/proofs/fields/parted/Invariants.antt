use Rattle.std.proofs.Common.{◌≡◌, take, drop}
use Rattle.debug_session.specs.Fields.{parted_at, parted_behind}
use Rattle.debug_session.proofs.fields.parted.Given as goal

abbrev pub invariant-loop-i : goal.invariant-loop-i
invariant-loop-i l = parted_at l.byte l.word ≡ parted_behind (take l.i l.word) (parted_at l.byte (drop l.i l.word))
