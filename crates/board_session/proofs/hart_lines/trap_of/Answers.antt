use Rattle.std.proofs.Common.{refl}
use Rattle.hart.specs.declared.csr.Csr.TheVariants.{Scause, Sepc, Stval}
use Rattle.board_session.proofs.hart_lines.trap_of.Goals as goal

pub returns-clause-scause : goal.returns-clause-scause
returns-clause-scause c = c.csr.ensures Scause refl

pub returns-clause-sepc : goal.returns-clause-sepc
returns-clause-sepc c = c.csr-2.ensures Sepc refl

pub returns-clause-stval : goal.returns-clause-stval
returns-clause-stval c = c.csr-3.ensures Stval refl
