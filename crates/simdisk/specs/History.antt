-- What a history is to a contract: apart from Views.antt, which the invariant of its type cites.
use Rattle.std.specs.Prelude.{◌≡◌, length}
use Rattle.simdisk.specs.declared.history.History.{History}
use Rattle.disk.specs.Facts.{Content}
use Rattle.disk.specs.WriteLog.{WriteLog, synced}
use Rattle.simdisk.specs.Latest.{latest_of, HasPlace}
use Rattle.simdisk.specs.Views.{pieces}

abbrev pub log_of : History → WriteLog
log_of h = record h.past.kept.log { written = pieces h.written.items }

-- On a disk of that content it has what stood at the last sync, and room for it.
pub record Stands (content : Content) (h : History) : Type 0 where
  pub is : latest_of h.stood content ≡ synced (log_of h)
  pub place : HasPlace (length content) h.stood
