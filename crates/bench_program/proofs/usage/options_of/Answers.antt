use Rattle.std.proofs.{Common.{inl, inr}, lemmas.Result.{IfOk-weaker, IfErr-weaker}}
use Rattle.clap.specs.Words.{found_of}
use Rattle.bench_program.proofs.usage.options_of.Goals as goal

pub returns-clause-named : goal.returns-clause-named
returns-clause-named g c =
    let parsed = c.in_ok-matches.ensures.parsed in
    IfOk-weaker c.options_in-options.result _ _ (λ options are. (parsed.0, found_of c.in_ok-matches.matches, parsed.1, are)) c.options_in-options.ensures.named

pub returns-clause-refused : goal.returns-clause-refused
returns-clause-refused g c =
    let parsed = c.in_ok-matches.ensures.parsed in
    IfErr-weaker c.options_in-options.result _ _
    (λ e is.
    elim is [
      | inl memory ↦ inl memory
      | inr two ↦ inr (inl (two.0, (parsed.0, found_of c.in_ok-matches.matches, parsed.1, two.1)))
    ]) c.options_in-options.ensures.conflict
