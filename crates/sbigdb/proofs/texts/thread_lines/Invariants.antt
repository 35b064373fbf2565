use Rattle.std.proofs.Common.{◌≡◌, string_bytes}
use Rattle.debug_session.specs.Sessions.{bench_of}
use Rattle.sbigdb.specs.Texts.{thread_lines}
use Rattle.sbigdb.proofs.texts.thread_lines.Given as goal

abbrev pub invariant-loop-number : goal.invariant-loop-number
invariant-loop-number g l = record {
  same : l.session ≡ l.fn.session;
  text : string_bytes l.text ≡ thread_lines l.number (bench_of l.fn.session);
}
