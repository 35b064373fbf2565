-- What stands on a disk, by its content alone. Source: docs/STORE.md, "Opening" and "Examining".
use Rattle.std.specs.Prelude.{◌≡◌, Option, None, Some, Result, Ok, Err}
use Rattle.board_model.specs.Durable.{DurableState}
use Rattle.board_model.specs.Shapes.{Size}
use Rattle.board_model.specs.Views.{durable_of}
use Rattle.board_model.specs.declared.refusal.Refusal.{Refusal}
use Rattle.board_model.specs.declared.refusal.Refusal.TheVariants.{NotFormatted, BadShape, BadRecord, Device, Memory}
use Rattle.disk.specs.Facts.{Content, Facts, Failed}
use Rattle.store.specs.Inspects.{IsInspected}
use Rattle.store.specs.Opens.{IsBoard, ReadsAs}
use Rattle.store.specs.Standing.{StandsFor}
use Rattle.report_lines.specs.declared.sees.FoundState.{FoundState}
use Rattle.report_lines.specs.declared.sees.Seen.{Seen}

-- that state stands on it, of a board of so many pages; or the selected record is in no form
abbrev pub Finds : Content → Option FoundState → Type 0
Finds c (Some f) =
    (size : Size) × (s : DurableState) × StandsFor c size s × (f.state ≡ durable_of s) × (f.pages ≡ size.pages)
Finds c None = ReadsAs c BadRecord

-- what is said of it: what an examiner says, and what an open finds
pub record IsSeen (c : Content) (seen : Seen) : Type 0 where
  pub said : (size : Size) × IsBoard size c × IsInspected size c seen.inspection
  pub found : Finds c seen.found

-- 1 and 3 by what the disk reads as, 5 where it failed in this call, and 11 of the disk of a board
abbrev pub SeeRefused : Facts → Refusal → Facts → Type 0
SeeRefused disk NotFormatted new = ReadsAs disk.content NotFormatted
SeeRefused disk BadShape new = ReadsAs disk.content BadShape
SeeRefused disk Device new = Failed disk.failures new.failures
SeeRefused disk Memory new = (size : Size) × IsBoard size disk.content
SeeRefused disk e new = ⊥

-- what a refusal of an open tells: that of the record is none, since there is nothing to find
abbrev pub unrecorded : Refusal → Result (Option FoundState) Refusal
unrecorded BadRecord = Ok None
unrecorded e = Err e
