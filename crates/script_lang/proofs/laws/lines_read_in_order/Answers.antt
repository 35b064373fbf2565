use Rattle.script_lang.proofs.Order.{rest_of-append}
use Rattle.script_lang.proofs.laws.lines_read_in_order.Goals as goal

pub returns : goal.returns
returns c = rest_of-append
