-- What a disk keeps of its device and of its log. Source: docs/PORTING.md.
use Rattle.std.specs.Prelude.{ℕ, ◌+◌, ◌<◌, ◌≤◌, length}
use Rattle.disk.specs.Facts.{Content, Facts, lent_sectors}
use Rattle.disk.specs.WriteLog.{WriteLog, AgreesOutside, AreWithin, Untouched, ranges, sim_facts, synced}

-- the facts of a disk over that device: what a read of the disk gives, and of a crash what its log says
abbrev pub facts_over : Content → WriteLog → ℕ → Facts → Facts
facts_over now log calls device = sim_facts now (synced log) log device.failures calls device.lent

-- What the device holds, and whatever a crash leaves in it, is what stood at the last sync, but for the ranges that were
-- written since; and what is lent was written since.
pub record IsKept (log : WriteLog) (device : Facts) : Type 0 where
  pub fits : AreWithin (length device.content) (ranges log.written)
  pub holds : AgreesOutside (synced log) (ranges log.written) device.content
  pub leaves : (c : Content) → device.may_leave c → AgreesOutside (synced log) (ranges log.written) c
  pub lent : (k : ℕ) → device.lent.first ≤ k → k < device.lent.first + lent_sectors device.lent
      → Untouched (ranges log.written) k → ⊥
  pub lent_fits : device.lent.first + lent_sectors device.lent ≤ length device.content
