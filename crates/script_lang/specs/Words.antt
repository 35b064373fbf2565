-- The words of a line, and the numbers and bytes that they write.
use Rattle.std.specs.Prelude.{ℕ, ◌+◌, ◌*◌, ◌^◌, ◌<◌, ◌≤◌, List, [], ◌∷◌, length, drop, take, Option, Some, None, Result, Ok, Err, nat_lt, nat_le, ◌&&◌, ◌==◌, if◌then◌else◌}
use Rattle.std.specs.List.{slice_split}
use Rattle.std.specs.Char.{digit_value}
use Rattle.std.specs.Str.{bytes_eq}
use Rattle.hex.specs.Hex.{decode_of, encode_lower}
use Rattle.hex.specs.declared.FromHexError.{FromHexError}
use Rattle.simdisk.specs.declared.fill.Fill.{Fill}
use Rattle.simdisk.specs.declared.fill.Fill.TheVariants.{Old, New, Byte, Alternating}
use lib.Chars.{codes}

infixl 10 ◌>>=◌
abbrev pub ◌>>=◌ : {A B : Type 0} → Option A → (A → Option B) → Option B
None >>= f = None
(Some x) >>= f = f x

-- what is read, as that kind of line, or else the other reading
abbrev pub or_else : {A B : Type 0} → (A → B) → Option A → Option B → Option B
or_else kind None other = other
or_else kind (Some x) other = Some (kind x)

-- the parts between spaces: single spaces between words and none at the ends leave no part empty
abbrev pub words_of : List ℕ → List (List ℕ)
words_of line = slice_split (λ b. b == 32) line

-- the number that the digits in a radix write, after those of n; nothing where one is no digit
abbrev pub digits_after : ℕ → ℕ → List ℕ → Option ℕ
digits_after radix n [] = Some n
digits_after radix n (c ∷ cs) =
    if nat_lt (digit_value c) radix then digits_after radix (n * radix + digit_value c) cs else None

-- a number below a bound
abbrev pub below : ℕ → Option ℕ → Option ℕ
below bound None = None
below bound (Some n) = if nat_lt n bound then Some n else None

-- a number of 1 to `most` digits, below 2 ^ 64
abbrev pub numeral_of : ℕ → ℕ → List ℕ → Option ℕ
numeral_of radix most digits =
    if nat_lt 0 (length digits) && nat_le (length digits) most then below (2 ^ 64) (digits_after radix 0 digits)
    else None

-- decimal digits (1 to 20), or 0x and hexadecimal digits (1 to 16)
abbrev pub number_of : List ℕ → Option ℕ
number_of word = if bytes_eq (take 2 word) (codes "0x") then numeral_of 16 16 (drop 2 word) else numeral_of 10 20 word

-- the seed that a word spells, if there is one; 1 where there is none
abbrev pub seed_of : Option (List ℕ) → Option ℕ
seed_of None = Some 1
seed_of (Some word) = number_of word

-- a number from `least` on and below a bound
abbrev pub ranged : ℕ → ℕ → List ℕ → Option ℕ
ranged least bound word = do
  n ← number_of word
  if nat_le least n && nat_lt n bound then Some n else None

-- `old`, `new`, `alt` or two hexadecimal digits
abbrev pub fill_byte : Option ℕ → Option Fill
fill_byte None = None
fill_byte (Some b) = Some (Byte b)

abbrev pub fill_of : List ℕ → Option Fill
fill_of word =
    if bytes_eq word (codes "old") then Some Old else
    (if bytes_eq word (codes "new") then Some New else
    (if bytes_eq word (codes "alt") then Some Alternating else
    (if length word == 2 then fill_byte (digits_after 16 0 word) else None)))

-- a fill as it is written out, and its byte, which fits the code's type for it
abbrev pub fill_text : Fill → List ℕ
fill_text Old = codes "old"
fill_text New = codes "new"
fill_text Alternating = codes "alt"
fill_text (Byte b) = encode_lower (b ∷ [])

abbrev pub FitsFill : Fill → Type 0
FitsFill Old = Unit {0}
FitsFill New = Unit {0}
FitsFill Alternating = Unit {0}
FitsFill (Byte b) = b < 256

-- how many disk calls or turns a line may name
abbrev pub IsCount : ℕ → Type 0
IsCount n = (1 ≤ n) × (n ≤ 1000000)

abbrev pub decoded : Result (List ℕ) FromHexError → Option (List ℕ)
decoded (Ok bytes) = Some bytes
decoded (Err e) = None

-- the bytes that an even number of hexadecimal digits write, two digits at least
abbrev pub hex_of : List ℕ → Option (List ℕ)
hex_of word = if length word == 0 then None else decoded (decode_of word)

-- just these many words
abbrev pub none_of : List (List ℕ) → Option (Unit {0})
none_of [] = Some tt
none_of (a ∷ more) = None

-- what has no words of its own
abbrev pub alone : {A : Type 0} → A → List (List ℕ) → Option A
alone said words = do
  nothing ← none_of words
  Some said

abbrev pub one_of : List (List ℕ) → Option (List ℕ)
one_of [] = None
one_of (a ∷ []) = Some a
one_of (a ∷ b ∷ more) = None

abbrev pub two_of : List (List ℕ) → Option (List ℕ × List ℕ)
two_of [] = None
two_of (a ∷ []) = None
two_of (a ∷ b ∷ []) = Some (a, b)
two_of (a ∷ b ∷ c ∷ more) = None

abbrev pub three_of : List (List ℕ) → Option (List ℕ × List ℕ × List ℕ)
three_of [] = None
three_of (a ∷ []) = None
three_of (a ∷ b ∷ []) = None
three_of (a ∷ b ∷ c ∷ []) = Some (a, b, c)
three_of (a ∷ b ∷ c ∷ d ∷ more) = None
