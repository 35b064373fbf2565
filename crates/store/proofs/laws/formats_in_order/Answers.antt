use Rattle.store.proofs.Formatting.{order_stands}
use Rattle.store.proofs.laws.formats_in_order.Goals as goal

pub returns : goal.returns
returns c = λ old new size unmarked order board. order_stands old new size order unmarked board
