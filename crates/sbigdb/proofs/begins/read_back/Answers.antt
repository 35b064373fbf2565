use Rattle.std.proofs.Common.{ℕ, take, ap, ◌∙◌}
use Rattle.sbigdb.proofs.Partings.{all_but_last, reads_back, refused_back}
use Rattle.sbigdb.proofs.begins.read_back.Goals as goal

pub returns-clause-read : goal.returns-clause-read
returns-clause-read c = λ said reads is.
    reads_back c.parse_script.result said _ c.parse_script.ensures.value
    (ap (λ (n : ℕ). take n c.args.text.now) c.saturating_sub-end.ensures ∙ all_but_last c.args.text.now _ is) reads

pub returns-clause-refused : goal.returns-clause-refused
returns-clause-refused c = λ said reads is.
    refused_back c.parse_script.result said _ c.parse_script.ensures.value
    (ap (λ (n : ℕ). take n c.args.text.now) c.saturating_sub-end.ensures ∙ all_but_last c.args.text.now _ is) reads
