-- The command is one of which the words alone give the matches.
use Rattle.std.proofs.Common.{◌≡◌, true, refl}
use Rattle.clap.{proofs.OnLiterals.clap_on_literals, specs.Words.is_simple_and_free}
use Rattle.clap.specs.declared.builder.value_parser.ValueParser.{ValueParser}
use Rattle.bench_program.specs.Usage.{sbibench}

pub sbibench_free : (crews : ValueParser) → is_simple_and_free (sbibench crews) ≡ true
unfolding clap_on_literals
sbibench_free crews = refl
