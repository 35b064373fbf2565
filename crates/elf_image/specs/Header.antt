-- The file header. Source: System V gABI, "ELF Header": e_ident, e_type and the fields after it at their places for 64 bits.
use Rattle.std.specs.Prelude.{◌≡◌, ℕ, ◌≤◌, List, [], ◌∷◌, length, slice_index, IsTrue, nat_eq}
use Rattle.std.specs.List.{starts_with}
use Rattle.elf_image.specs.Fields.{number_at}

-- the file begins with EI_MAG0 to EI_MAG3: 7f, E, L, F
abbrev pub IsElf : List ℕ → Type 0
IsElf bytes = IsTrue (starts_with nat_eq bytes (127 ∷ 69 ∷ 76 ∷ 70 ∷ []))

abbrev pub type_of : List ℕ → ℕ
type_of bytes = number_at 2 16 bytes

abbrev pub machine_of : List ℕ → ℕ
machine_of bytes = number_at 2 18 bytes

abbrev pub entry_of : List ℕ → ℕ
entry_of bytes = number_at 8 24 bytes

-- an executable at fixed addresses (ET_EXEC, 2), little-endian (ELFDATA2LSB, 1), of 64 bits (ELFCLASS64, 2), for RISC-V (EM_RISCV, 243)
pub record IsRiscv64 (bytes : List ℕ) : Type 0 where
  pub magic : IsElf bytes
  pub whole : 64 ≤ length bytes
  pub class : slice_index bytes 4 ≡ 2
  pub order : slice_index bytes 5 ≡ 1
  pub machine : machine_of bytes ≡ 243
  pub executable : type_of bytes ≡ 2
