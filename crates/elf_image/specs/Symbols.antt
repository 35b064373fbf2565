-- Symbols. Source: System V gABI, "Symbol Table": entries of 24 bytes, and "String Table": a name ends at a zero. RISC-V psABI,
-- "Mapping Symbol": names that begin with $ mark code and data, and name nothing.
use Rattle.std.specs.Prelude.{◌≡◌, ◌≢◌, ℕ, ◌*◌, ◌/◌, ◌%◌, ◌<◌, ◌≤◌, ◌⊎◌, List, length, drop, slice_index, slice_get, Some, IsTrue, nat_eq, take_while, not, ◌==◌}
use Rattle.std.specs.List.{starts_with}
use Rattle.elf_image.specs.Fields.{number_at}
use Rattle.elf_image.specs.declared.labels.Named.{Named}
use Rattle.elf_image.specs.declared.labels.Named.TheVariants.{Code, Data}
use Rattle.elf_image.specs.declared.symbols.Symbol.{Symbol}

-- how many symbols a table has
abbrev pub symbols_of : List ℕ → ℕ
symbols_of table = length table / 24

-- the bytes from symbol k on
abbrev pub entry_at : List ℕ → ℕ → List ℕ
entry_at table k = drop (24 * k) table

-- st_value
abbrev pub address_of : List ℕ → ℕ
address_of entry = number_at 8 8 entry

-- st_value and st_size
abbrev pub symbol_of : List ℕ → Symbol
symbol_of entry = record { address = number_at 8 8 entry; size = number_at 8 16 entry }

-- the names from st_name on
abbrev pub names_from : List ℕ → List ℕ → List ℕ
names_from names entry = drop (number_at 4 0 entry) names

-- the symbol has that name: it stands at st_name, and a zero after it
abbrev pub HasName : List ℕ → List ℕ → List ℕ → Type 0
HasName names name entry =
    IsTrue (starts_with nat_eq (names_from names entry) name) × (slice_get (names_from names entry) (length name) ≡ Some 0)

-- the symbol's name
abbrev pub name_of : List ℕ → List ℕ → List ℕ
name_of names entry = take_while (λ b. not (b == 0)) (names_from names entry)

-- symbol k is the first of that name
pub record IsFirstNamed (table names name : List ℕ) (k : ℕ) : Type 0 where
  pub there : k < symbols_of table
  pub named : HasName names name (entry_at table k)
  pub first : (j : ℕ) → j < k → HasName names name (entry_at table j) → ⊥

-- the type of the symbols that name such things: STT_FUNC (2) and STT_OBJECT (1)
abbrev pub type_of : Named → ℕ
type_of Code = 2
type_of Data = 1

-- The symbol names such a thing: it has that type, or none (STT_NOTYPE, 0), as assembly's labels have none, and it is in a section
-- (st_shndx is neither SHN_UNDEF nor reserved), and neither without a name, nor a mapping symbol, nor an assembler's own label, as .L1.
abbrev pub IsLabel : Named → List ℕ → List ℕ → Type 0
IsLabel named names entry =
    (0 < number_at 2 6 entry) × (number_at 2 6 entry < 65280)
    × ((slice_index entry 4 % 16 ≡ type_of named) ⊎ (slice_index entry 4 % 16 ≡ 0))
    × (slice_index (names_from names entry) 0 ≢ 0) × (slice_index (names_from names entry) 0 ≢ 36)
    × (slice_index (names_from names entry) 0 ≢ 46)

-- symbol k names such a thing, at or below the address
pub record IsAtOrBelow (named : Named) (table names : List ℕ) (address k : ℕ) : Type 0 where
  pub label : IsLabel named names (entry_at table k)
  pub below : address_of (entry_at table k) ≤ address

-- no symbol of the first n that names such a thing is nearer below the address than symbol k, and none before it is as near
pub record IsNearest (named : Named) (table names : List ℕ) (address n k : ℕ) : Type 0 where
  pub there : k < n
  pub candidate : IsAtOrBelow named table names address k
  pub nearest : (j : ℕ) → j < n → IsAtOrBelow named table names address j → address_of (entry_at table j) ≤ address_of (entry_at table k)
  pub first : (j : ℕ) → j < k → IsAtOrBelow named table names address j → address_of (entry_at table j) < address_of (entry_at table k)
