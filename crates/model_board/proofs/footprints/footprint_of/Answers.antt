use Rattle.rv_decode.specs.Flat.{reading}
use Rattle.model_board.proofs.Touching.{covers_found}
use Rattle.model_board.proofs.footprints.footprint_of.Goals as goal

pub returns-in-Ok-clause-covers : goal.returns-in-Ok-clause-covers
returns-in-Ok-clause-covers c = covers_found c.word_determines_instruction.ensures.instruction _ _ _ _ (reading c.in-Ok.flat) _ _ _ _ c.flat_instr.ensures.same c.pc-pc.ensures c.in-Ok.ensures.exact.2 c.touched.ensures.touch c.with_word.ensures c.is_open-opened.ensures.closed
