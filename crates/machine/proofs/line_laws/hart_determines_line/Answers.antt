use Rattle.machine.proofs.LinesDetermined.{one_csr}
use Rattle.machine.proofs.line_laws.hart_determines_line.Goals as goal

pub returns : goal.returns
returns c = one_csr
