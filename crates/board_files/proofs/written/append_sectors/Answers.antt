use Rattle.std.proofs.{Common.{◌∙◌, arith, refl, rules}, lemmas.List.{with_items_is, places}}
use Rattle.board_files.proofs.InFolders.{one_appended}
use Rattle.board_files.proofs.written.append_sectors.Goals as goal

pub loop-number-preserved : goal.loop-number-preserved
loop-number-preserved g c = (
  c.append.ensures.held ∙ c.loop-number.invariant.0,
  one_appended _ c.in_ok-append.field-0 c.args.size.bytes c.loop-number.number c.args.sectors.now c.deref.result.now _ (g.F.ByteFile.held c.args.file.now)
      (g.F.ByteFile.held c.loop-number.file) (g.F.Folder.folder_facts c.args.file.now) (g.F.Folder.folder_facts c.loop-number.file) (g.F.Folder.folder_facts c.append.new.self)
      c.loop-number.invariant.0 c.loop-number.invariant.1 c.in_ok-append.ensures.made
      (c.deref.ensures.value ∙ with_items_is c.loop-number.block c.lay.new.block (search (rules, places)) ∙ c.lay.ensures) refl
      (omega (arith, c.loop-number-test.true, c.loop-number.auto.number-end)),
)
