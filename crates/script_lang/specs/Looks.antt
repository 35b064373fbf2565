-- The lines that show memory or harts: the row of each, its range, and its one spelling.
use Rattle.std.specs.Prelude.{ℕ, ◌+◌, ◌<◌, ◌≤◌, ◌≡◌, ◌⊎◌, Bool, List, [], ◌∷◌, Option, Some, None, nat_le, ◌&&◌, ◌||◌, ◌==◌, if◌then◌else◌}
use Rattle.std.specs.Fmt.{decimal}
use Rattle.std.specs.Str.{bytes_eq}
use Rattle.board_model.specs.Shapes.{Size, ram_bytes_of}
use Rattle.script_lang.specs.declared.looks.Look.{Look}
use Rattle.script_lang.specs.declared.looks.Look.TheVariants.{Reg, Pc, Csr, Pending, Mem}
use Rattle.script_lang.specs.Words.{◌>>=◌, alone, number_of, ranged, one_of, two_of}
use lib.Chars.{codes}

-- `reg H R`
abbrev pub reg_of : Size → List (List ℕ) → Option Look
reg_of size words = do
  pair ← two_of words
  hart ← ranged 0 size.harts pair.0
  register ← ranged 0 32 pair.1
  Some (Reg hart register)

-- `pc H`
abbrev pub pc_of : Size → List (List ℕ) → Option Look
pc_of size words = do
  word ← one_of words
  hart ← ranged 0 size.harts word
  Some (Pc hart)

-- sstatus, sie and stvec; sscratch, sepc, scause, stval and sip; satp
abbrev pub is_csr : ℕ → Bool
is_csr n = ((n == 0x100) || ((n == 0x104) || (n == 0x105))) || ((nat_le 0x140 n && nat_le n 0x144) || (n == 0x180))

abbrev pub csr_number_of : List ℕ → Option ℕ
csr_number_of word = do
  number ← number_of word
  if is_csr number then Some number else None

-- `csr H C`
abbrev pub csr_of : Size → List (List ℕ) → Option Look
csr_of size words = do
  pair ← two_of words
  hart ← ranged 0 size.harts pair.0
  csr ← csr_number_of pair.1
  Some (Csr hart csr)

-- `mem A N`: bytes that are all in RAM
abbrev pub mem_of : Size → List (List ℕ) → Option Look
mem_of size words = do
  pair ← two_of words
  address ← number_of pair.0
  count ← ranged 1 65 pair.1
  if nat_le 0x80000000 address && nat_le (address + count) (0x80000000 + ram_bytes_of size)
      then Some (Mem address count) else None

-- what a keyword and the words after it are to show
abbrev pub look_said : Size → List ℕ → List (List ℕ) → Option Look
look_said size keyword words =
    if bytes_eq keyword (codes "reg") then reg_of size words else
    (if bytes_eq keyword (codes "pc") then pc_of size words else
    (if bytes_eq keyword (codes "csr") then csr_of size words else
    (if bytes_eq keyword (codes "pending") then alone Pending words else
    (if bytes_eq keyword (codes "mem") then mem_of size words else None))))

abbrev pub IsCsr : ℕ → Type 0
IsCsr n = (n ≡ 0x100) ⊎ (n ≡ 0x104) ⊎ (n ≡ 0x105) ⊎ ((0x140 ≤ n) × (n ≤ 0x144)) ⊎ (n ≡ 0x180)

-- the last column of the table of lines in docs/SCRIPT.md
abbrev pub IsLookInRange : Size → Look → Type 0
IsLookInRange size (Reg hart register) = (hart < size.harts) × (register ≤ 31)
IsLookInRange size (Pc hart) = hart < size.harts
IsLookInRange size (Csr hart csr) = (hart < size.harts) × IsCsr csr
IsLookInRange size Pending = Unit {0}
IsLookInRange size (Mem address count) =
    (1 ≤ count) × (count ≤ 64) × (0x80000000 ≤ address) × (address + count ≤ 0x80000000 + ram_bytes_of size)

-- its words, where a line is written out
abbrev pub look_spelling : Look → List (List ℕ)
look_spelling (Reg hart register) = codes "reg" ∷ decimal hart ∷ decimal register ∷ []
look_spelling (Pc hart) = codes "pc" ∷ decimal hart ∷ []
look_spelling (Csr hart csr) = codes "csr" ∷ decimal hart ∷ decimal csr ∷ []
look_spelling Pending = codes "pending" ∷ []
look_spelling (Mem address count) = codes "mem" ∷ decimal address ∷ decimal count ∷ []
