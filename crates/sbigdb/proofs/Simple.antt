-- The command is one of which the words alone give the matches.
use Rattle.std.proofs.Common.{◌≡◌, true, refl}
use Rattle.clap.{proofs.OnLiterals.clap_on_literals, specs.Words.is_simple_and_free}
use Rattle.sbigdb.specs.Usage.{sbigdb}

pub sbigdb_free : is_simple_and_free sbigdb ≡ true
unfolding clap_on_literals
sbigdb_free = refl
