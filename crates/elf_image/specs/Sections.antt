-- The section headers, and the symbol table among them. Source: System V gABI, "Sections": entries of 64 bytes; the table of symbols
-- has type SHT_SYMTAB (2), and its sh_link names the section of its names.
use Rattle.std.specs.Prelude.{◌≡◌, ◌≢◌, ℕ, ◌*◌, ◌<◌, List, [], drop}
use Rattle.elf_image.specs.Fields.{number_at, IsPart, part_of}
use Rattle.elf_image.specs.declared.sections.Section.{Section}

-- e_shnum
abbrev pub sections_of : List ℕ → ℕ
sections_of bytes = number_at 2 60 bytes

-- where there are sections, e_shentsize is 64, and all e_shnum entries from e_shoff on are there
abbrev pub HasSections : List ℕ → Type 0
HasSections bytes =
    0 < sections_of bytes → (number_at 2 58 bytes ≡ 64) × IsPart (number_at 8 40 bytes) (64 * sections_of bytes) bytes

-- the section of an entry: sh_type, sh_offset, sh_size, sh_link
abbrev pub section_of : List ℕ → Section
section_of entry = record {
  kind = number_at 4 4 entry;
  offset = number_at 8 24 entry;
  size = number_at 8 32 entry;
  link = number_at 4 40 entry;
}

-- section k of a file
unfoldable pub section_at : List ℕ → ℕ → Section
section_at bytes k = section_of (drop (64 * k) (drop (number_at 8 40 bytes) bytes))

-- the first of the sections with symbols
pub record IsSymbolSection (bytes : List ℕ) (k : ℕ) : Type 0 where
  pub there : k < sections_of bytes
  pub symbols : (section_at bytes k).kind ≡ 2
  pub first : (j : ℕ) → j < k → (section_at bytes j).kind ≢ 2

-- there is none
abbrev pub HasNoSymbols : List ℕ → Type 0
HasNoSymbols bytes = (k : ℕ) → k < sections_of bytes → (section_at bytes k).kind ≢ 2

-- a section's bytes are in the file
abbrev pub IsSectionIn : List ℕ → Section → Type 0
IsSectionIn bytes s = IsPart s.offset s.size bytes

-- the section, and that of its names, are there
pub record HasTables (bytes : List ℕ) (k : ℕ) : Type 0 where
  pub symbols : IsSectionIn bytes (section_at bytes k)
  pub link : (section_at bytes k).link < sections_of bytes
  pub names : IsSectionIn bytes (section_at bytes (section_at bytes k).link)

abbrev pub bytes_of : List ℕ → Section → List ℕ
bytes_of bytes s = part_of s.offset s.size bytes

-- these are the table of symbols and that of their names: none where no section has symbols
pub record AreTables (bytes symbols names : List ℕ) : Type 0 where
  pub none : HasNoSymbols bytes → (symbols ≡ []) × (names ≡ [])
  pub some : (k : ℕ) → IsSymbolSection bytes k → HasTables bytes k
      × (symbols ≡ bytes_of bytes (section_at bytes k)) × (names ≡ bytes_of bytes (section_at bytes (section_at bytes k).link))
