use Rattle.std.proofs.Common.{rules}
use Rattle.rv_decode.proofs.code.imm_word.Goals as goal

pub returns : goal.returns
returns c = search rules
