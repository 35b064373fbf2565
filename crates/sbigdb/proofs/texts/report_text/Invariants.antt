use Rattle.std.{proofs.Common.{◌≡◌, take}, specs.String.string_bytes}
use Rattle.report_lines.specs.Texts.{report_text}
use Rattle.sbigdb.proofs.texts.report_text.Given as goal

abbrev pub invariant-loop-answer : goal.invariant-loop-answer
invariant-loop-answer l = string_bytes l.text ≡ report_text (take l.answer-index l.answers)
