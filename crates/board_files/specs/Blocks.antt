-- A device that is written in whole blocks of B bytes, and a file of sectors in it: sector k lies alone in block k. So a write that fails
-- or is cut, which may leave any bytes in its block, leaves any bytes in one sector. Source: docs/DISK.md, "Larger blocks".
use Rattle.std.specs.Prelude.{◌≡◌, ℕ, zero, suc, ◌≤◌, ◌+◌, ◌-◌, ◌==◌, ◌||◌, Bool, List, [], ◌∷◌, ◌++◌, length, map, take, drop, replicate, if◌then◌else◌, nat_eq, refl}
use Rattle.std.specs.Int.{w32, to_le_bytes, from_le_bytes}
use Rattle.std.specs.List.{starts_with}
use Rattle.disk.specs.Facts.{Content}
use Rattle.board_files.specs.Files.{FileFacts, FileKnown, Unknown, Known, IfKnown}

-- B: a power of 2 from 512 to 65,536
abbrev pub is_block_size : ℕ → Bool
is_block_size n = n == 512 || n == 1024 || n == 2048 || n == 4096 || n == 8192 || n == 16384 || n == 32768 || n == 65536

-- ---- one block
-- The mark of a device: B, in the four bytes from place 20 of its first block on, where a superblock has zeros. A block of 512 bytes is the
-- sector alone, and has none.
abbrev pub mark_of : ℕ → List ℕ
mark_of n = if n == 512 then [] else to_le_bytes w32 n

-- the mark that block k has
abbrev pub mark_at : ℕ → ℕ → List ℕ
mark_at n zero = mark_of n
mark_at n (suc k) = []

-- a sector in its block of n bytes: its bytes, with the mark after the first 20, and zeros to the end
abbrev pub block_of : ℕ → List ℕ → List ℕ → List ℕ
block_of n mark sector = take 20 sector ++ (mark ++ (drop 20 sector ++ replicate (n - (512 + length mark)) 0))

-- the sector of a block; a block without its mark holds none
abbrev pub sector_of : List ℕ → List ℕ → List ℕ
sector_of mark block =
    if starts_with nat_eq (drop 20 block) mark then take 20 block ++ take 492 (drop (20 + length mark) block) else []

-- What the first bytes of a file say of its blocks: how many bytes each has. They say 512 where they have zeros there, as a file
-- has whose sectors lie one after the other.
abbrev pub told_by : List ℕ → ℕ
told_by first = let n = from_le_bytes w32 (take 4 (drop 20 first)) in if is_block_size n then n else 512

-- ---- all of them
-- the sectors of a device that holds these blocks of n bytes
abbrev pub sectors_of : ℕ → Content → Content
sectors_of n [] = []
sectors_of n (first ∷ blocks) = sector_of (mark_of n) first ∷ map (sector_of []) blocks

-- The facts of a file of sectors in a device, of which those are the facts, block by block.
abbrev pub facts_in : ℕ → FileFacts → FileFacts
facts_in n f = record {
  holds = sectors_of n f.holds;
  may_leave = λ c. (d : Content) × f.may_leave d × (c ≡ sectors_of n d);
  syncs = f.syncs;
  since = λ t c. (d : Content) × f.since t d × (c ≡ sectors_of n d);
}

abbrev pub known_in : ℕ → FileKnown → FileKnown
known_in n Unknown = Unknown
known_in n (Known f) = Known (facts_in n f)

-- A file of sectors lies in a device, whose facts are the first ones: it holds the sectors of the device's blocks, and each content that a
-- crash leaves in the one is of one that it leaves in the other.
pub record HoldsSectors (n : ℕ) (device file : FileFacts) : Type 0 where
  pub holds : file.holds ≡ sectors_of n device.holds
  pub leaves : (d : Content) → device.may_leave d → file.may_leave (sectors_of n d)
  pub syncs : file.syncs ≡ device.syncs
  pub since : (t : ℕ) (d : Content) → device.since t d → file.since t (sectors_of n d)
  pub left : (c : Content) → file.may_leave c → (d : Content) × device.may_leave d × (c ≡ sectors_of n d)
  pub was : (t : ℕ) (c : Content) → file.since t c → (d : Content) × device.since t d × (c ≡ sectors_of n d)

-- The laws of a file of sectors pass on to it.
pub keeps_in : (n : ℕ) (file : FileKnown) → IfKnown file (λ f. f.may_leave f.holds) → IfKnown (known_in n file) (λ f. f.may_leave f.holds)
keeps_in n Unknown keeps = tt
keeps_in n (Known f) keeps = (f.holds, keeps, refl)

pub counts_in : (n : ℕ) (file : FileKnown) → IfKnown file (λ f. (t : ℕ) (c : Content) → t ≤ f.syncs → f.may_leave c → f.since t c)
    → IfKnown (known_in n file) (λ f. (t : ℕ) (c : Content) → t ≤ f.syncs → f.may_leave c → f.since t c)
counts_in n Unknown counts = tt
counts_in n (Known f) counts = λ t c le left. (left.0, counts t left.0 le left.1, left.2)

pub earlier_in : (n : ℕ) (file : FileKnown) → IfKnown file (λ f. (t u : ℕ) (c : Content) → t ≤ u → f.since u c → f.since t c)
    → IfKnown (known_in n file) (λ f. (t u : ℕ) (c : Content) → t ≤ u → f.since u c → f.since t c)
earlier_in n Unknown earlier = tt
earlier_in n (Known f) earlier = λ t u c le was. (was.0, earlier t u was.0 le was.1, was.2)
