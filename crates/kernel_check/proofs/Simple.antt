-- The command is one of which the words alone give the matches.
use Rattle.std.proofs.Common.{◌≡◌, true, refl}
use Rattle.clap.{proofs.OnLiterals.clap_on_literals, specs.Words.is_simple_and_free}
use Rattle.kernel_check.specs.Usage.{sbicheck}

pub sbicheck_free : is_simple_and_free sbicheck ≡ true
unfolding clap_on_literals
sbicheck_free = refl
