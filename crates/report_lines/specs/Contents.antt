-- What any content of a disk is to an open, and to an examiner. Source: docs/STORE.md, "Opening" and
-- "Examining".
use Rattle.std.specs.Prelude.{◌⊎◌}
use Rattle.board_model.specs.Durable.{DurableState}
use Rattle.board_model.specs.Shapes.{Size}
use Rattle.board_model.specs.declared.refusal.Refusal.TheVariants.{NotFormatted, BadShape, BadRecord}
use Rattle.disk.specs.Facts.{Content}
use Rattle.store.specs.Opens.{IsBoard, ReadsAs}
use Rattle.store.specs.Standing.{StandsFor}
use Rattle.store.specs.Inspects.{IsInspected}
use Rattle.store.specs.declared.inspects.Inspection.{Inspection}

-- it reads as a content that an open refuses 1, 3 or 4, or it stands for a durable state
abbrev pub IsAnswered : Content → Type 0
IsAnswered c = ReadsAs c NotFormatted ⊎ ReadsAs c BadShape ⊎ ReadsAs c BadRecord
    ⊎ ((size : Size) × (s : DurableState) × StandsFor c size s)

-- it reads as a content that an examiner refuses 1 or 3, or it is that of a board, of which this is to be said
abbrev pub IsExamined : Content → Type 0
IsExamined c = ReadsAs c NotFormatted ⊎ ReadsAs c BadShape
    ⊎ ((size : Size) × (i : Inspection) × IsBoard size c × IsInspected size c i)
