use Rattle.std.proofs.Common.{◌≡◌, string_bytes}
use Rattle.debug_session.specs.Sessions.{bench_of}
use Rattle.sbigdb.specs.Texts.{hart_lines}
use Rattle.sbigdb.proofs.texts.harts_text.Given as goal

abbrev pub invariant-loop-number : goal.invariant-loop-number
invariant-loop-number g l = string_bytes l.text ≡ hart_lines l.number (bench_of l.session)
