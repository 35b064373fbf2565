-- Sectors as fields in a row, each a number in little-endian order, with zeros after them.
-- Source: docs/STORE.md, "Sectors".
use Rattle.std.specs.Prelude.{ℕ, ◌+◌, ◌-◌, ◌^◌, ◌<◌, ⊤, List, [], ◌∷◌, ◌++◌, length, drop, replicate}
use Rattle.byteorder.specs.Endian.{little_bytes, little_number}

-- a field: how many bytes it has, and its number
abbrev pub Field : Type 0
Field = ℕ × ℕ

-- the bytes of a number
unfoldable pub number_bytes : ℕ → ℕ → List ℕ
number_bytes n x = little_bytes n x

-- the bytes of fields in a row
unfoldable pub fields_bytes : List Field → List ℕ
fields_bytes [] = []
fields_bytes (field ∷ fields) = number_bytes field.0 field.1 ++ fields_bytes fields

-- how many bytes fields have
abbrev pub width_of : List Field → ℕ
width_of [] = 0
width_of (field ∷ fields) = field.0 + width_of fields

-- each number fits its field
abbrev pub FitAll : List Field → Type 0
FitAll [] = ⊤
FitAll (field ∷ fields) = (field.1 < 256 ^ field.0) × FitAll fields

-- a sector: these bytes, and zeros to its end
unfoldable pub sector_of : List ℕ → List ℕ
sector_of bytes = bytes ++ replicate (512 - length bytes) 0

-- the number in the n bytes of a sector from a place on
unfoldable pub number_at : ℕ → ℕ → List ℕ → ℕ
number_at n place sector = little_number n (drop place sector)
