use Rattle.command_line.proofs.Bounded.{read_first}
use Rattle.command_line.proofs.reads.read_at_most.Goals as goal

pub returns : goal.returns
returns g c = read_first g.R.Read.remaining c.take.result c.args.input c.args.most _ _ c.take.ensures.inner c.take.ensures.limit c.new-bytes.ensures.items c.in_ok-read_to_end.ensures.bytes
