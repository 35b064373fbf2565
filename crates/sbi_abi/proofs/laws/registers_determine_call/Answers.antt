use Rattle.sbi_abi.proofs.Rows.{registers_determine_call as every_row}
use Rattle.sbi_abi.proofs.laws.registers_determine_call.Goals as goal

pub returns : goal.returns
returns c = every_row
