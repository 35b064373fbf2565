use Rattle.std.proofs.Common.{◌≡◌, Some, drop}
use Rattle.debug_session.specs.Fields.{with_digits}
use Rattle.debug_session.proofs.fields.number.Given as goal

abbrev pub invariant-loop-digit : goal.invariant-loop-digit
invariant-loop-digit l = with_digits (Some l.number) (drop l.digit-index l.word) ≡ with_digits (Some 0) l.word
