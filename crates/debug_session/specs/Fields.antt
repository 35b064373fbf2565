-- The fields of packets. Source: "Debugging with GDB", appendix "GDB Remote Serial Protocol", "Overview": numbers are
-- hexadecimal digits, without a prefix.
use Rattle.std.specs.Prelude.{ℕ, ◌+◌, ◌*◌, ◌^◌, List, [], ◌∷◌, ◌++◌, length, take, drop, Option, Some, None, nat_lt, ◌==◌, if◌then◌else◌, bytes_eq}
use Rattle.debug_session.specs.Packets.{value_of}

-- the number that one digit more makes: none from 2 ^ 64 on
abbrev pub shifted : ℕ → Option ℕ → Option ℕ
shifted n None = None
shifted n (Some d) = if nat_lt (n * 16 + d) (2 ^ 64) then Some (n * 16 + d) else None

abbrev pub with_digit : Option ℕ → ℕ → Option ℕ
with_digit None c = None
with_digit (Some n) c = shifted n (value_of c)

abbrev pub with_digits : Option ℕ → List ℕ → Option ℕ
with_digits n [] = n
with_digits n (c ∷ more) = with_digits (with_digit n c) more

-- the number below 2 ^ 64 that digits of either case write, one digit at least
abbrev pub number_of : List ℕ → Option ℕ
number_of word = if length word == 0 then None else with_digits (Some 0) word

-- what stands before the first such byte and after it
abbrev pub parted_behind : List ℕ → Option (List ℕ × List ℕ) → Option (List ℕ × List ℕ)
parted_behind front None = None
parted_behind front (Some parts) = Some (front ++ parts.0, parts.1)

abbrev pub parted_at : ℕ → List ℕ → Option (List ℕ × List ℕ)
parted_at c [] = None
parted_at c (b ∷ more) = if b == c then Some ([], more) else parted_behind (b ∷ []) (parted_at c more)

abbrev pub both : Option ℕ → Option ℕ → Option (ℕ × ℕ)
both None b = None
both (Some a) None = None
both (Some a) (Some b) = Some (a, b)

abbrev pub numbers_in : Option (List ℕ × List ℕ) → Option (ℕ × ℕ)
numbers_in None = None
numbers_in (Some parts) = both (number_of parts.0) (number_of parts.1)

-- two numbers with a comma between them
abbrev pub two_numbers : List ℕ → Option (ℕ × ℕ)
two_numbers word = numbers_in (parted_at 44 word)

-- what stands after a prefix
abbrev pub stripped : List ℕ → List ℕ → Option (List ℕ)
stripped prefix word =
    if bytes_eq (take (length prefix) word) prefix then Some (drop (length prefix) word) else None
