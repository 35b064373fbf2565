use Rattle.model_board.proofs.alone.is_local.Goals as goal

pub returns : goal.returns
returns c = λ sure. record {
  fetches = c.is_read_alone.ensures c.if-not-is_read_alone.false;
  loads = c.is_read_alone-2.ensures c.if-not-is_read_alone-2.false;
  stores = c.is_written_alone.ensures c.if-not-is_written_alone.false;
  sure = c.is_sure.ensures sure;
}
