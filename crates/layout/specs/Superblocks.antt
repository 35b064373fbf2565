-- Sector 0: the mark of a formatted disk, and the shape of the board.
-- Source: docs/STORE.md, "Superblock".
use Rattle.std.specs.Prelude.{◌≡◌, ℕ, List, [], ◌∷◌, ◌++◌, IsTrue, nat_eq}
use Rattle.std.specs.List.{starts_with}
use Rattle.board_model.specs.Shapes.{Size, IsSize}
use Rattle.layout.specs.Fields.{Field, fields_bytes, sector_of}
use lib.Chars.{codes}

abbrev pub magic : List ℕ
magic = codes "SBIDISK1"

-- the sector begins with the mark
abbrev pub HasMagic : List ℕ → Type 0
HasMagic sector = IsTrue (starts_with nat_eq sector magic)

abbrev pub size_fields : Size → List Field
size_fields size = (4, size.harts) ∷ (4, size.pages) ∷ (4, size.lanes) ∷ []

abbrev pub superblock_of : Size → List ℕ
superblock_of size = sector_of (magic ++ fields_bytes (size_fields size))

-- the sector is the superblock of a board of this size
abbrev pub IsSuperblock : Size → List ℕ → Type 0
IsSuperblock size sector = IsSize size × (sector ≡ superblock_of size)
