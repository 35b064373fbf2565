-- The laws that a whole report keeps.
use Rattle.std.specs.Prelude.{◌≡◌, List}
use Rattle.board_model.specs.Durable.{DurableState}
use Rattle.disk.specs.Facts.{Facts}
use Rattle.script_lang.specs.Scripts.{Script}
use Rattle.store.specs.Leaves.{Leaves}
use Rattle.report_lines.specs.declared.printed.Answer.{Answer}
use Rattle.bench_report.specs.Reports.{AreByFirmware}
use Rattle.bench_report.specs.Prefix.{KeepsPrefixLaw, MayEndIn}
use Rattle.bench_report.specs.AllFound.{FindsAll}

-- These answers keep the laws of whole runs, where nobody but the firmware writes the disk: the prefix law; each
-- state that a crash may leave of the disk now ends such a history; and where that disk counted no failure, each
-- power-on finds what all acknowledged commands make.
pub record KeepsLaws (said : Script) (answers : List Answer) (left : Facts) : Type 0 where
  pub prefix : AreByFirmware said.lines → KeepsPrefixLaw said.lines answers
  pub ends : AreByFirmware said.lines → (t : DurableState) → Leaves left said.size t → MayEndIn t said.lines answers
  pub all : AreByFirmware said.lines → left.failures ≡ 0 → FindsAll said.lines answers
