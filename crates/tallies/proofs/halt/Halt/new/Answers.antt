use Rattle.tallies.proofs.HaltKeeps.{opens}
use Rattle.tallies.proofs.halt.Halt.new.Goals as goal

pub of_words-requires : goal.of_words-requires
of_words-requires c = opens
