-- The command is one of which the words alone give the matches.
use Rattle.std.proofs.Common.{◌≡◌, true, refl}
use Rattle.clap.{proofs.OnLiterals.clap_on_literals, specs.Words.is_simple_and_free}
use Rattle.clap.specs.declared.builder.value_parser.ValueParser.{ValueParser}
use Rattle.board_session.specs.Usage.{sbiboard}

pub sbiboard_free : (modes : ValueParser) → is_simple_and_free (sbiboard modes) ≡ true
unfolding clap_on_literals
sbiboard_free modes = refl
