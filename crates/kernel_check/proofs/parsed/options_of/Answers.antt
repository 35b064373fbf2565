use Rattle.kernel_check.proofs.parsed.options_of.Goals as goal

pub returns-in-Some : goal.returns-in-Some
returns-in-Some g c = record {
  found = _;
  parsed = c.in_ok-matches.ensures.parsed;
  named = rw c.in-Some.is at c.in_ok-options.ensures;
}
