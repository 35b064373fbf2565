-- The fields of a file: little-endian numbers, and parts. Source: System V gABI, "Data Representation" and "Data Encoding".
use Rattle.std.specs.Prelude.{ℕ, ◌+◌, ◌≤◌, List, length, take, drop, nat_le, if◌then◌else◌}
use Rattle.byteorder.specs.Endian.{little_number}

-- the number in the n bytes from a place on, the lowest first; 0 where they are not all there
unfoldable pub number_at : ℕ → ℕ → List ℕ → ℕ
number_at n place bytes = if nat_le (place + n) (length bytes) then little_number n (drop place bytes) else 0

-- so many bytes from a place on are all there
abbrev pub IsPart : ℕ → ℕ → List ℕ → Type 0
IsPart place count bytes = place + count ≤ length bytes

-- these bytes
abbrev pub part_of : ℕ → ℕ → List ℕ → List ℕ
part_of place count bytes = take count (drop place bytes)
