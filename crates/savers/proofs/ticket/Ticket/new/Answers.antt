use Rattle.std.proofs.Common.{rules}
use Rattle.savers.proofs.ticket.Ticket.new.Goals as goal

pub of_words-requires : goal.of_words-requires
of_words-requires c = search rules
