-- A file of sectors, to a contract: what a read of it gives, and what a crash leaves in it. A process that is killed leaves what a read
-- gives; a host that crashes may leave less. Source: docs/CONSOLE.md, "`--sync`".
use Rattle.std.specs.Prelude.{◌≡◌, ◌⊎◌, ℕ, ◌<◌, ◌≤◌, ◌+◌, ◌-◌, Bool, true, false, List, [], ◌∷◌, length, get_or, Result, MatchResult, OnOk, ⊤}
use Rattle.std.specs.Coded.{Unit-prop}
use Rattle.disk.specs.Facts.{Content, Facts, Only, Torn, Written, lent_sectors, sector}
use Rattle.disk.specs.WriteLog.{Untouched}

-- the facts of a file, in the manner of those of a disk
pub record FileFacts : Type 1 where
  -- what a read gives
  pub holds : Content
  -- what a crash now may leave
  pub may_leave : Content → Type 0
  -- how many syncs of it have answered Ok
  pub syncs : ℕ
  -- what a crash might have left since so many of them had, now or at an earlier moment
  pub since : ℕ → Content → Type 0

-- what is known of a file: its facts, or nothing
pub data FileKnown : Type 1 where
  Unknown : FileKnown
  Known : FileFacts → FileKnown

-- P of the facts, where they are known
abbrev pub IfKnown : FileKnown → (FileFacts → Type 0) → Type 0
IfKnown Unknown P = ⊤
IfKnown (Known f) P = P f

-- that is a fact with one proof at most, where P is
pub IfKnown-prop : (file : FileKnown) (P : FileFacts → Type 0) → ((f : FileFacts) → IsProp (P f)) → IsProp (IfKnown file P)
IfKnown-prop Unknown P single = Unit-prop
IfKnown-prop (Known f) P single = single f

-- a step of a file: one that is known stays known, and goes by that relation
abbrev pub Goes : FileKnown → FileKnown → (FileFacts → FileFacts → Type 0) → Type 0
Goes Unknown Unknown R = ⊤
Goes Unknown (Known new) R = ⊥
Goes (Known old) Unknown R = ⊥
Goes (Known old) (Known new) R = R old new

-- one of those that a crash might have left before, but for that sector, which is any
abbrev pub LeavesBut : ℕ → (Content → Type 0) → Content → Type 0
LeavesBut number before c = (d : Content) × before d × Torn number 1 d c

-- A sector is written. From then on a crash may leave any bytes in it, also where the write failed.
pub record WritesSector {T E : Type 0} (number : ℕ) (bytes : List ℕ) (result : Result T E) (old new : FileFacts) : Type 0 where
  pub written : OnOk result (Written number (bytes ∷ []) old.holds new.holds)
  pub leaves : (c : Content) → new.may_leave c → LeavesBut number old.may_leave c
  pub syncs : new.syncs ≡ old.syncs
  pub since : (t : ℕ) (c : Content) → t ≤ old.syncs → new.since t c → old.since t c ⊎ LeavesBut number old.may_leave c
  pub keeps : (t : ℕ) (c : Content) → t ≤ old.syncs → old.since t c → new.since t c

-- A sync. With Ok a crash leaves what a read gave, and nothing else, and has left nothing else since. With an error it leaves what it
-- might have left before: so what a read gives stays only in the sectors that were durable, and the others may be lost.
pub record SyncsFile {T E : Type 0} (result : Result T E) (old new : FileFacts) : Type 0 where
  pub durable : OnOk result (Only old.holds new.may_leave)
  pub leaves : (c : Content) → new.may_leave c → old.may_leave c
  pub syncs : MatchResult result (λ _. new.syncs ≡ old.syncs + 1) (λ _. new.syncs ≡ old.syncs)
  pub since : (t : ℕ) (c : Content) → t ≤ old.syncs → new.since t c → old.since t c
  pub fresh : OnOk result (Only old.holds (new.since new.syncs))
  pub keeps : (t : ℕ) (c : Content) → t ≤ old.syncs → old.since t c → new.since t c

-- a file that was just made, or made durable: a crash leaves that content, and has left no other
pub record IsDurable (content : Content) (f : FileFacts) : Type 0 where
  pub now : Only content f.may_leave
  pub ever : (t : ℕ) → Only content (f.since t)

-- ---- the disk in memory beside the file
-- the sector was written in memory, and perhaps not in the file
abbrev pub IsMarked : List Bool → ℕ → Type 0
IsMarked marks k = get_or marks k false ≡ true

-- but for the sectors that are marked it is that content
pub record AgreesOff (marks : List Bool) (content c : Content) : Type 0 where
  pub as_long : length c ≡ length content
  pub same : (k : ℕ) → get_or marks k false ≡ false → sector c k ≡ sector content k

-- each crash leaves in the file what stands in memory, but for the sectors that are marked
abbrev pub LeavesOff : List Bool → Content → FileFacts → Type 0
LeavesOff marks content f = (c : Content) → f.may_leave c → AgreesOff marks content c

-- each crash leaves in the file what the disk may leave
abbrev pub LeavesNoMore : Facts → FileFacts → Type 0
LeavesNoMore disk f = (c : Content) → f.may_leave c → disk.may_leave c

-- what a crash might have left in the file from the first moment on, one of the disk might have left
abbrev pub EverAllowed : Facts → FileFacts → Type 0
EverAllowed disk f = (c : Content) → f.since 0 c → ∥ disk.since 0 c ∥₁

-- The moment of a disk is that of its last sync. The file was made durable then: so many of its syncs ago as the disk has come on by
-- moments. Where one that the disk then did not take counts too, it is said of a later moment of the file.
abbrev pub sync_of : Facts → FileFacts → ℕ → ℕ
sync_of disk f moment = f.syncs - (disk.moment - moment)

-- and so it is from each moment of the disk on
abbrev pub AllowedSince : Facts → FileFacts → Type 0
AllowedSince disk f = (t : ℕ) (c : Content) → t ≤ disk.moment → f.since (sync_of disk f t) c → ∥ disk.since t c ∥₁

-- what the disk keeps of its file
pub record IsKeptIn (marks : List Bool) (disk : Facts) (f : FileFacts) : Type 0 where
  pub now : LeavesOff marks disk.content f
  pub ever : EverAllowed disk f
  pub since : AllowedSince disk f

-- each sector that is marked is one of those ranges
abbrev pub AreWritten : List Bool → List (ℕ × ℕ) → Type 0
AreWritten marks ranges = (k : ℕ) → IsMarked marks k → Untouched ranges k → ⊥

-- The marks beside a disk which was written in those ranges since its last sync, and of which so many sectors from the first on are lent.
pub record AreMarks (marks : List Bool) (from n : ℕ) (disk : Facts) (ranges : List (ℕ × ℕ)) : Type 0 where
  pub as_long : length marks ≡ length disk.content
  pub written : AreWritten marks ranges
  pub lent : n ≡ lent_sectors disk.lent
  pub there : 0 < n → from ≡ disk.lent.first
  pub within : from + n ≤ length marks

-- these sectors were marked, and no others
pub record Marks (first count : ℕ) (old new : List Bool) : Type 0 where
  pub as_long : length new ≡ length old
  pub there : (k : ℕ) → first ≤ k → k < first + count → get_or new k false ≡ true
  pub before : (k : ℕ) → k < first → get_or new k false ≡ get_or old k false
  pub after : (k : ℕ) → first + count ≤ k → get_or new k false ≡ get_or old k false

-- ---- from memory into the file
-- what the file has become, while what is marked was written into it: a crash leaves what stands in memory, but for the marks
pub record PushesSome (marks : List Bool) (content : Content) (old new : FileFacts) : Type 0 where
  pub leaves : LeavesOff marks content new
  pub since : (t : ℕ) (c : Content) → t ≤ old.syncs → new.since t c → old.since t c ⊎ AgreesOff marks content c

-- so many sectors from the first on read as in memory
pub record WritesUpTo (n : ℕ) (marks : List Bool) (content : Content) (old new : FileFacts) : Type 0 where
  pub holds : (k : ℕ) → k < n → sector new.holds k ≡ sector content k
  pub syncs : new.syncs ≡ old.syncs
  pub some : PushesSome marks content old new

-- with Ok a read gives what stands in memory
pub record WritesMarked {T E : Type 0} (marks : List Bool) (content : Content) (result : Result T E) (old new : FileFacts) : Type 0 where
  pub whole : OnOk result (new.holds ≡ content)
  pub syncs : new.syncs ≡ old.syncs
  pub some : PushesSome marks content old new

-- with Ok a crash leaves what stands in memory, and nothing else, and has left nothing else since
pub record Pushes {T E : Type 0} (marks : List Bool) (content : Content) (result : Result T E) (old new : FileFacts) : Type 0 where
  pub durable : OnOk result (Only content new.may_leave)
  pub syncs : MatchResult result (λ _. new.syncs ≡ old.syncs + 1) (λ _. new.syncs ≡ old.syncs)
  pub fresh : OnOk result (Only content (new.since new.syncs))
  pub some : PushesSome marks content old new
