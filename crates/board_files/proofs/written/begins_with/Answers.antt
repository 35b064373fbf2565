use Rattle.std.{proofs.{Common.{◌≡◌, ◌∙◌, length, arith, refl, rules, sym}, lemmas.List.{with_items_is, places}}, specs.Vec.with_items}
use Rattle.board_files.proofs.InFolders.{one_there}
use Rattle.board_files.proofs.written.begins_with.Goals as goal

pub loop-number-preserved : goal.loop-number-preserved
loop-number-preserved g c =
    let found = with_items c.loop-number.found c.read_at.new.into in
    let block = with_items c.loop-number.block c.lay.new.block in
    let same : found.items ≡ block.items = search (rules, places) in
    let long : length c.deref_mut-in-loop-number.result.now ≡ c.args.size.bytes = search (rules, places) in
    one_there c.args.size.bytes c.loop-number.number c.bytes_of.result (length c.deref_mut-in-loop-number.result.now) c.args.sectors.now
    c.read_at.new.into c.lay.new.block _ (g.F.ByteFile.held c.args.file.now) c.bytes_of.ensures (g.met.F.Folder.bounded _) c.loop-number.invariant long
    c.in_ok-read_at.ensures.read
    (sym (with_items_is c.loop-number.found c.read_at.new.into (search (rules, places))) ∙ same
    ∙ with_items_is c.loop-number.block c.lay.new.block (search (rules, places)))
    c.lay.ensures refl (omega (arith, c.loop-number-test.true, c.loop-number.auto.number-end))
