use Rattle.std.proofs.{Common.{◌∙◌, ap, rules}, lemmas.List.{with_items_is, places}}
use Rattle.board_files.{specs.Blocks.{sector_of, mark_at}, proofs.{InBlocks.writes_in, BlockBytes.reads_back}}
use Rattle.board_files.proofs.block_device.SectorsInBlocksSectorFile.write_sector.Goals as goal

pub returns : goal.returns
returns g c =
    let n = c.args.self.now.size.bytes in
    let mark = mark_at n c.args.number in
    writes_in n c.args.number c.deref.result.now c.args.sector.now c.write_block.result
    (g.D.BlockDevice.device_facts c.args.self.now.device) (g.D.BlockDevice.device_facts c.write_block.new.self)
    (ap (sector_of mark) (c.deref.ensures.value ∙ with_items_is c.args.self.now.block c.lay.new.block (search (rules, places)) ∙ c.lay.ensures)
    ∙ reads_back mark c.args.sector.now (search rules) n)
    c.write_block.ensures.wrote
