-- The disk of a file. Source: docs/STORE.md, "Superblock"; docs/CONSOLE.md, "Statuses and faults".
use Rattle.std.specs.Prelude.{◌≡◌, ◌≢◌, ◌⊎◌, ◌≤◌, ◌*◌, ◌%◌, ◌/◌, ◌++◌, ℕ, Bool, true, false, List, Option, Some, IfSome, length, take, drop}
use Rattle.std.specs.List.{concat}
use Rattle.std.specs.Simd.{first_chunks}
use Rattle.board_model.specs.Shapes.{Size, sectors_of}
use Rattle.board_model.specs.declared.refusal.Refusal.{Refusal}
use Rattle.board_model.specs.declared.refusal.Refusal.TheVariants.{BadShape, NotFormatted}
use Rattle.command_line.specs.declared.fault.ProgramFault.{ProgramFault}
use Rattle.command_line.specs.declared.fault.ProgramFault.TheVariants.{Refused}
use Rattle.disk.specs.Facts.{Content}
use Rattle.layout.specs.Superblocks.{HasMagic, IsSuperblock}

-- the first n sectors of these bytes
abbrev pub first_sectors : ℕ → List ℕ → Content
first_sectors n bytes = first_chunks 512 n (take (512 * n) bytes)

-- The bytes are a disk of a board of that size: whole sectors, of which the first is the board's superblock, and no fewer
-- than it has.
pub record IsDiskFile (size : Size) (bytes : List ℕ) : Type 0 where
  pub whole : length bytes % 512 ≡ 0
  pub superblock : IsSuperblock size (take 512 bytes)
  pub room : sectors_of size ≤ length bytes / 512

-- why the bytes are no board's: they are not whole sectors, or none; or the first has no mark; or it has one, and no shape
abbrev pub RefusesFile : List ℕ → Refusal → Type 0
RefusesFile bytes e =
    ((e ≡ BadShape) × ((length bytes % 512 ≢ 0) ⊎ (length bytes ≡ 0)))
    ⊎ ((e ≡ NotFormatted) × (HasMagic (take 512 bytes) → ⊥))
    ⊎ ((e ≡ BadShape) × HasMagic (take 512 bytes))

-- the fault of a file that holds no board's disk: refused 3 or 1, as its bytes are refused, where they are known
abbrev pub IsNoDisk : Option (List ℕ) → ProgramFault → Type 0
IsNoDisk bytes fault = (why : Refusal) × ((why ≡ BadShape) ⊎ (why ≡ NotFormatted)) × (fault ≡ Refused why)
    × IfSome bytes (λ all. RefusesFile all why)

-- How many sectors of a file of whole sectors an examiner looks at: none of an empty one; those of its board; and of another
-- file the first alone.
abbrev pub IsLookedAt : ℕ → List ℕ → Type 0
IsLookedAt n bytes = (length bytes % 512 ≡ 0)
    × (((n ≡ 0) × (length bytes ≡ 0)) ⊎ ((size : Size) × IsDiskFile size bytes × (n ≡ sectors_of size))
    ⊎ ((n ≡ 1) × (512 ≤ length bytes) × ((size : Size) → IsDiskFile size bytes → ⊥)))

-- ---- a disk that is written
-- The file holds the disk. Of a new disk it holds the sectors and nothing else; of another one also the bytes that stood after
-- them in the file.
abbrev pub HoldsDisk : Bool → Content → Option (List ℕ) → List ℕ → Type 0
HoldsDisk true sectors old now = now ≡ concat sectors
HoldsDisk false sectors old now = IfSome old (λ bytes. now ≡ concat sectors ++ drop (512 * length sectors) bytes)

-- after a fault: it is as it was, or as it was to become
abbrev pub KeepsOrHolds : Bool → Content → Option (List ℕ) → List ℕ → Type 0
KeepsOrHolds is_new sectors old now = (old ≡ Some now) ⊎ HoldsDisk is_new sectors old now
