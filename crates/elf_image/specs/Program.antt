-- The program headers. Source: System V gABI, "Program Header": entries of 56 bytes, of which those of type PT_LOAD (1) are loaded.
use Rattle.std.specs.Prelude.{◌≡◌, ℕ, ◌+◌, ◌-◌, ◌*◌, ◌<◌, ◌≤◌, List, drop, min, nat_lt, ◌==◌, ◌&&◌, if◌then◌else◌}
use Rattle.elf_image.specs.Fields.{number_at, IsPart}
use Rattle.elf_image.specs.declared.program.Segment.{Segment}

-- where RAM begins
abbrev pub ram_base : ℕ
ram_base = 2147483648

-- e_phnum
abbrev pub segments_of : List ℕ → ℕ
segments_of bytes = number_at 2 56 bytes

-- e_phentsize is 56, and all e_phnum entries from e_phoff on are there
abbrev pub HasHeaders : List ℕ → Type 0
HasHeaders bytes = (number_at 2 54 bytes ≡ 56) × IsPart (number_at 8 32 bytes) (56 * segments_of bytes) bytes

-- the segment of an entry: p_type, p_offset, p_vaddr, p_paddr, p_filesz, p_memsz
abbrev pub segment_of : List ℕ → Segment
segment_of entry = record {
  kind = number_at 4 0 entry;
  offset = number_at 8 8 entry;
  runs_at = number_at 8 16 entry;
  loaded_at = number_at 8 24 entry;
  file_bytes = number_at 8 32 entry;
  memory_bytes = number_at 8 40 entry;
}

-- a segment without its first n bytes
abbrev pub cut_by : ℕ → Segment → Segment
cut_by n s = record {
  kind = s.kind;
  offset = s.offset + n;
  runs_at = s.runs_at + n;
  loaded_at = s.loaded_at + n;
  file_bytes = s.file_bytes - n;
  memory_bytes = s.memory_bytes - n;
}

-- Linkers put the file's own headers, from its first byte on, into a segment below the code: what of it is below RAM is left out.
abbrev pub without_headers : Segment → Segment
without_headers s =
    if (s.offset == 0) && (nat_lt s.loaded_at ram_base && (s.runs_at == s.loaded_at))
    then (cut_by (min (ram_base - s.loaded_at) s.memory_bytes) s) else s

-- segment k of a file
unfoldable pub segment_at : List ℕ → ℕ → Segment
segment_at bytes k = without_headers (segment_of (drop (56 * k) (drop (number_at 8 32 bytes) bytes)))

-- a segment takes memory
abbrev pub TakesMemory : Segment → Type 0
TakesMemory s = (s.kind ≡ 1) × (0 < s.memory_bytes)

-- segment k of a file is there, and takes memory
pub record Loads (bytes : List ℕ) (k : ℕ) : Type 0 where
  pub there : k < segments_of bytes
  pub takes : TakesMemory (segment_at bytes k)

-- a segment's bytes are in the file, and no more than its memory
abbrev pub IsInFile : List ℕ → Segment → Type 0
IsInFile bytes s = IsPart s.offset s.file_bytes bytes × (s.file_bytes ≤ s.memory_bytes)

-- so many bytes from an address on are in a RAM of so many bytes
abbrev pub IsInRam : ℕ → ℕ → ℕ → Type 0
IsInRam ram address count = (ram_base ≤ address) × (address + count ≤ ram_base + ram)

-- A segment fits a RAM: where it is loaded (p_paddr), and where it runs (p_vaddr), since no hart translates addresses.
abbrev pub FitsRam : ℕ → Segment → Type 0
FitsRam ram s = IsInRam ram s.loaded_at s.memory_bytes × IsInRam ram s.runs_at s.memory_bytes

-- where a segment is loaded, from the start of RAM on
abbrev pub start_of : Segment → ℕ
start_of s = s.loaded_at - ram_base

-- segment k is loaded after the end of each that is loaded before it in the table
abbrev pub IsAfterAll : List ℕ → ℕ → Type 0
IsAfterAll bytes k =
    (j : ℕ) → j < k → Loads bytes j → (segment_at bytes j).loaded_at + (segment_at bytes j).memory_bytes ≤ (segment_at bytes k).loaded_at

-- the segments are loaded in ascending order, none over another, each in the RAM, and the entry is where a board starts
pub record AreLaidOut (bytes : List ℕ) (ram : ℕ) : Type 0 where
  pub fit : (k : ℕ) → Loads bytes k → FitsRam ram (segment_at bytes k)
  pub ascend : (k : ℕ) → Loads bytes k → IsAfterAll bytes k
  pub entry : number_at 8 24 bytes ≡ ram_base
