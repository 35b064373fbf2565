-- Parts of a run, for several machines. Source: docs/SCRIPT.md, "Over many machines".
use Rattle.std.specs.Prelude.{◌+◌, ◌-◌, ◌*◌, ◌/◌, ℕ, zero, suc, List, [], ◌++◌, Option, None, Some, length, min, take, drop}
use Rattle.std.specs.Fmt.{decimal}
use Rattle.crew.specs.declared.part.Part.{Part}
use lib.Chars.{codes}

-- of some things those from that number on, counted from 0, up to another one
abbrev pub window : {X : Type 0} → ℕ → ℕ → List X → List X
window from to xs = take (to - from) (drop from xs)

-- the number with which chunk k of a window begins, k from 0, and the first after it: a chunk has `each` of them, and the last may have
-- fewer
abbrev pub chunk_from : ℕ → ℕ → ℕ → ℕ
chunk_from from each k = from + k * each

abbrev pub chunk_to : ℕ → ℕ → ℕ → ℕ → ℕ
chunk_to from to each k = min to (chunk_from from each k + each)

-- part k of `of`, k from 1
abbrev pub piece : {X : Type 0} → ℕ → ℕ → List X → List X
piece k of xs = window ((k - 1) * length xs / of) (k * length xs / of) xs

abbrev pub part_of : {X : Type 0} → Part → List X → List X
part_of part xs = piece part.number part.of xs

-- what a run has of some things: its part, or all
abbrev pub own_of : {X : Type 0} → Option Part → List X → List X
own_of None xs = xs
own_of (Some part) xs = part_of part xs

-- the number of the first that a run has of n things, counted from 0, and of the first after its last
abbrev pub begin_of : Option Part → ℕ → ℕ
begin_of None n = 0
begin_of (Some part) n = (part.number - 1) * n / part.of

abbrev pub end_of : Option Part → ℕ → ℕ
end_of None n = n
end_of (Some part) n = part.number * n / part.of

-- the first k of `of` parts, one after another
abbrev pub joined : {X : Type 0} → ℕ → ℕ → List X → List X
joined zero of xs = []
joined (suc k) of xs = joined k of xs ++ piece (suc k) of xs

-- how the last line of a part begins
abbrev pub part_text : Option Part → List ℕ
part_text None = []
part_text (Some part) = codes "part " ++ decimal part.number ++ codes "/" ++ decimal part.of ++ codes " "
