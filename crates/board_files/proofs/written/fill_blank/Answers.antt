use Rattle.std.proofs.{Common.{◌≡◌, ◌∙◌, [], length, refl, rules}, lemmas.List.{with_items_is, places}}
use Rattle.board_files.proofs.InFolders.{blocks_filled, plain_filled}
use Rattle.board_files.proofs.written.fill_blank.Goals as goal

pub returns-then-size-eq512-clause-made : goal.returns-then-size-eq512-clause-made
returns-then-size-eq512-clause-made g c =
    plain_filled c.fill.result c.args.size.bytes c.args.sectors c.bytes_of-count.result [] (g.F.ByteFile.held c.args.file.now)
    (g.F.Folder.folder_facts c.args.file.now) (g.F.Folder.folder_facts c.fill.new.self) (search rules) c.bytes_of-count.ensures refl c.fill.ensures.made

pub returns-clause-made : goal.returns-clause-made
returns-clause-made g c =
    let long : length c.deref.result.now ≡ c.args.size.bytes = search (rules, places) in
    blocks_filled c.fill-2.result c.args.size.bytes c.args.sectors c.bytes_of-count.result c.deref.result.now (g.F.ByteFile.held c.args.file.now)
    (g.F.Folder.folder_facts c.args.file.now) (g.F.Folder.folder_facts c.fill-2.new.self) c.args.size.least c.bytes_of-count.ensures
    (c.deref.ensures.value ∙ with_items_is c.in_ok-block.block c.lay.new.block (search (rules, places)) ∙ c.lay.ensures) long c.fill-2.ensures.made
