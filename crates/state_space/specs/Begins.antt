-- Where a part begins, of parts end to end.
use Rattle.std.specs.Prelude.{ℕ, zero, suc, List, slice_index}

-- where the part of that number begins, by where each ends
abbrev pub begin_of : List ℕ → ℕ → ℕ
begin_of ends zero = 0
begin_of ends (suc k) = slice_index ends k
