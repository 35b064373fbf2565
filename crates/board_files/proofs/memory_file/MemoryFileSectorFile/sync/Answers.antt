use Rattle.std.proofs.Common.{◌∙◌, ap, ap₂}
use Rattle.board_files.{specs.Kept.{noted, synced_once}, proofs.KeptFiles.synced}
use Rattle.board_files.proofs.memory_file.MemoryFileSectorFile.sync.Goals as goal

pub returns-in_default : goal.returns-in_default
returns-in_default c =
    let was = c.called.ensures in
    let stood = c.deref.ensures.value ∙ ap (λ v. v.items) was.stood in
    let past = ap (λ p. p.kept.log) was.past in
    synced tt _ _ _ _ _ _ (ap (λ v. v.items) was.sectors) (c.copy_from_slice.ensures.items ∙ c.deref-in_default.ensures.value)
    (c.sync.ensures ∙ ap synced_once (c.note.ensures ∙ ap₂ noted stood past))
