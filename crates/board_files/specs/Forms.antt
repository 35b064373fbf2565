-- The two forms of a disk's file: its sectors lie one after the other, or each alone at the head of a block. Source: docs/DISK.md,
-- "Larger blocks".
use Rattle.std.specs.Prelude.{ℕ, ◌%◌, ◌==◌, ◌&&◌, List, length, take, if◌then◌else◌, nat_le}
use Rattle.board_files.specs.Blocks.{told_by}

-- How many bytes each block of a file has: as its first sector says, where it is whole blocks of them, and else 512.
abbrev pub form_of : List ℕ → ℕ
form_of all = let n = told_by (take 512 all) in if nat_le 512 (length all) && length all % n == 0 then n else 512
