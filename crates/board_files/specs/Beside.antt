-- A disk with a file beside it: its facts are those of the disk, and each failure of the file is one of the
-- disk's own, in one call of it. Source: docs/CONSOLE.md, "`--sync`".
use Rattle.std.specs.Prelude.{ℕ}
use Rattle.disk.specs.Facts.{Facts, counted}
use Rattle.disk.specs.FaultState.{FaultState}

-- the facts of a disk beside which a file failed so often
abbrev pub facts_beside : ℕ → Facts → Facts
facts_beside failed f = record f { failures = counted f.failures failed; calls = counted f.calls failed }

abbrev pub faults_beside : ℕ → FaultState → FaultState
faults_beside failed s = record s { own = counted s.own failed }
