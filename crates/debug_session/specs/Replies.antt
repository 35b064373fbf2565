-- The exact texts of replies. Source: "Debugging with GDB", appendix "GDB Remote Serial Protocol", "Packets", "General Query
-- Packets" and "RISC-V Features".
use Rattle.std.specs.Prelude.{ℕ, ◌+◌, ◌/◌, ◌%◌, List, [], ◌∷◌, ◌++◌, Option, Some, None, length, take, drop, replicate, nat_lt, ◌==◌, if◌then◌else◌}
use Rattle.std.specs.Int.{to_le_bytes, w64}
use Rattle.std.specs.List.{flat_map, range_with_len}
use Rattle.std.specs.Fmt.{decimal}
use Rattle.board_model.specs.Shapes.{Size, ram_bytes_of}
use Rattle.debug_session.specs.Packets.{digit_of, framed_of}
use lib.Chars.{codes}

-- a byte in two digits
abbrev pub pair_of : ℕ → List ℕ
pair_of b = digit_of (b / 16) ∷ digit_of (b % 16) ∷ []

abbrev pub pairs_of : List ℕ → List ℕ
pairs_of bytes = flat_map pair_of bytes

-- Register n by its value, the lowest byte first. Of what is not available each digit is x, but 0 of the pc (32), since
-- GDB takes no stop without one.
abbrev pub register_text : ℕ → Option ℕ → List ℕ
register_text n (Some value) = pairs_of (to_le_bytes w64 value)
register_text n None = if n == 32 then replicate 16 48 else replicate 16 120

-- the first registers, in the order of their numbers
abbrev pub registers_text : ℕ → (ℕ → Option ℕ) → List ℕ
registers_text count value_of = flat_map (λ n. register_text n (value_of n)) (range_with_len 0 count)

-- a part of an object, after the sign that there is more, or that there is none
abbrev pub part_text : List ℕ → ℕ → ℕ → List ℕ
part_text object offset count =
    if nat_lt (offset + count) (length object) then 109 ∷ take count (drop offset object) else 108 ∷ drop offset object

-- the threads of so many harts, each one more than its hart, with a comma before each but the first
abbrev pub others_text : ℕ → List ℕ
others_text harts = flat_map (λ h. 44 ∷ digit_of (h + 1) ∷ []) (range_with_len 0 harts)

abbrev pub threads_text : ℕ → List ℕ
threads_text harts = 109 ∷ drop 1 (others_text harts)

-- the RAM, as GDB has a memory described
abbrev pub memory_map_text : Size → List ℕ
memory_map_text size =
    codes "<?xml version=\"1.0\"?>\n<!DOCTYPE memory-map PUBLIC \"+//IDN gnu.org//DTD GDB Memory Map V1.0//EN\" "
    ++ codes "\"http://sourceware.org/gdb/gdb-memory-map.dtd\">\n<memory-map><memory type=\"ram\" start=\"0x80000000\" length=\""
    ++ decimal (ram_bytes_of size) ++ codes "\"/></memory-map>\n"

-- payloads one after another, each in its packet
abbrev pub packets_of : List (List ℕ) → List ℕ
packets_of payloads = flat_map framed_of payloads
