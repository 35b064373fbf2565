-- What a file has to be, and what each fault says of it.
use Rattle.std.specs.Prelude.{◌≡◌, ◌≢◌, ℕ, ◌<◌, List, length, slice_index, ⊤}
use Rattle.elf_image.specs.Header.{IsElf, IsRiscv64, machine_of, type_of, entry_of}
use Rattle.elf_image.specs.Program.{HasHeaders, Loads, IsInFile, FitsRam, IsAfterAll, segment_at, ram_base}
use Rattle.elf_image.specs.Sections.{HasSections, HasTables, IsSymbolSection}
use Rattle.elf_image.specs.declared.fault.ElfFault.{ElfFault}
use Rattle.elf_image.specs.declared.fault.ElfFault.TheVariants as faults

-- an executable for RISC-V of 64 bits whose tables and loaded bytes are all in the file, with something to load
pub record IsKernel (bytes : List ℕ) : Type 0 where
  pub riscv : IsRiscv64 bytes
  pub headers : HasHeaders bytes
  pub sections : HasSections bytes
  pub tables : (k : ℕ) → IsSymbolSection bytes k → HasTables bytes k
  pub segments : (k : ℕ) → Loads bytes k → IsInFile bytes (segment_at bytes k)
  pub loads : (k : ℕ) × Loads bytes k

-- what a fault of `parse` says of the file
abbrev pub IsFaulty : List ℕ → ElfFault → Type 0
IsFaulty bytes faults.NotElf = IsElf bytes → ⊥
IsFaulty bytes faults.CutOff = length bytes < 64
IsFaulty bytes faults.Not64Bits = slice_index bytes 4 ≢ 2
IsFaulty bytes faults.NotLittleEndian = slice_index bytes 5 ≢ 1
IsFaulty bytes (faults.AnotherMachine machine) = (machine ≡ machine_of bytes) × (machine ≢ 243)
IsFaulty bytes (faults.NotExecutable kind) = (kind ≡ type_of bytes) × (kind ≢ 2)
IsFaulty bytes faults.ProgramHeaders = HasHeaders bytes → ⊥
IsFaulty bytes faults.SectionHeaders = HasSections bytes → ⊥
IsFaulty bytes faults.SymbolTable = (k : ℕ) × IsSymbolSection bytes k × (HasTables bytes k → ⊥)
IsFaulty bytes (faults.SegmentBytes k) = Loads bytes k × (IsInFile bytes (segment_at bytes k) → ⊥)
IsFaulty bytes faults.NoSegment = (k : ℕ) → Loads bytes k → ⊥
IsFaulty bytes (faults.OutsideRam k ram) = ⊥
IsFaulty bytes (faults.Overlapping k) = ⊥
IsFaulty bytes (faults.EntryElsewhere entry) = ⊥
IsFaulty bytes faults.Memory = ⊥

-- what a fault of `load` says of the file, at a RAM of so many bytes
abbrev pub IsMisplaced : List ℕ → ℕ → ElfFault → Type 0
IsMisplaced bytes ram (faults.SegmentBytes k) = Loads bytes k × (IsInFile bytes (segment_at bytes k) → ⊥)
IsMisplaced bytes ram (faults.OutsideRam k size) = (size ≡ ram) × Loads bytes k × (FitsRam ram (segment_at bytes k) → ⊥)
IsMisplaced bytes ram (faults.Overlapping k) = Loads bytes k × (IsAfterAll bytes k → ⊥)
IsMisplaced bytes ram (faults.EntryElsewhere entry) = (entry ≡ entry_of bytes) × (entry ≢ ram_base)
IsMisplaced bytes ram faults.Memory = ⊤
IsMisplaced bytes ram faults.NotElf = ⊥
IsMisplaced bytes ram faults.CutOff = ⊥
IsMisplaced bytes ram faults.Not64Bits = ⊥
IsMisplaced bytes ram faults.NotLittleEndian = ⊥
IsMisplaced bytes ram (faults.AnotherMachine machine) = ⊥
IsMisplaced bytes ram (faults.NotExecutable kind) = ⊥
IsMisplaced bytes ram faults.ProgramHeaders = ⊥
IsMisplaced bytes ram faults.SectionHeaders = ⊥
IsMisplaced bytes ram faults.SymbolTable = ⊥
IsMisplaced bytes ram faults.NoSegment = ⊥
