-- The memory that a kernel's file makes, as bytes from the start of RAM on; what is past the end of the bytes is zero.
use Rattle.std.specs.Prelude.{◌≡◌, ℕ, ◌+◌, ◌<◌, ◌≤◌, List, length, slice_index}
use Rattle.elf_image.specs.Program.{Loads, segment_at, segments_of, start_of}

-- a place of the memory holds a byte of the file by segment k
pub record IsFileByte (bytes : List ℕ) (k place : ℕ) : Type 0 where
  pub loads : Loads bytes k
  pub from : start_of (segment_at bytes k) ≤ place
  pub to : place < start_of (segment_at bytes k) + (segment_at bytes k).file_bytes

-- The memory holds each file byte of the first n segments at its place, and zero at each other place. It ends with a file byte.
pub record IsLoadedTo (bytes : List ℕ) (n : ℕ) (memory : List ℕ) : Type 0 where
  pub file : (k i : ℕ) → k < n → Loads bytes k → i < (segment_at bytes k).file_bytes
      → slice_index memory (start_of (segment_at bytes k) + i) ≡ slice_index bytes ((segment_at bytes k).offset + i)
  pub zero : (place : ℕ) → ((k : ℕ) → k < n → IsFileByte bytes k place → ⊥) → slice_index memory place ≡ 0
  pub reaches : (k place : ℕ) → k < n → IsFileByte bytes k place → place < length memory
  pub ends : (place : ℕ) → length memory ≡ place + 1 → (k : ℕ) × (k < n) × IsFileByte bytes k place

-- the memory of all segments
abbrev pub IsLoaded : List ℕ → List ℕ → Type 0
IsLoaded bytes memory = IsLoadedTo bytes (segments_of bytes) memory
