-- The words of a spelling: none holds a space, and each reads as what it was written for.
use Rattle.std.proofs.Common.{nat_lt, ◌≡◌, ℕ, zero, suc, ◌+◌, ◌*◌, ◌/◌, ◌%◌, ◌^◌, ◌<◌, ◌≤◌, ◌&&◌, ◌==◌, Bool, true, false, List, [], ◌∷◌, length, take, Option, Some, None, All, ap, ◌∙◌, refl, arith, slice_index, inl, inr, if◌then◌else◌, lit<}
use Rattle.std.proofs.lemmas.{Fmt.{decimal_is_IsNumeral, length-decimal-le}, Str.Parse.digit_from_value, Bool.Decides.nat_tests}
use Rattle.std.{proofs.lemmas.{Bool.{and_parts, cases_lt, eqb-true}, List.Elements.{All-cons, All-nil}}, specs.{Fmt.decimal, Str.bytes_eq}}
use Rattle.std.{proofs.lemmas.List.Splits.{slice_split_none, slice_split_at}, specs.{Char.digit_value, List.{join_with_byte, slice_split}}}
use Rattle.std.specs.Str.Parse.{AllDigits, digits_value_after}
use Rattle.hex.{specs.Hex.{encode_lower, encode_with, lower_digits, IsBytes}, proofs.HexLemmas.{decode_of-encode_lower, length-encode_with}}
use Rattle.script_lang.specs.Words.{words_of, digits_after, number_of, ranged, hex_of, fill_of, fill_text, FitsFill}
use Rattle.simdisk.specs.declared.fill.Fill.{Fill, TheVariants.{Old, New, Byte, Alternating}}
use lib.Chars.{codes}

-- each byte of the word is a digit's code or a later one, so it is no space, no line feed and no `#`; a test
-- that computes on a text
abbrev pub is_word : List ℕ → Bool
is_word [] = true
is_word (b ∷ bs) = if nat_lt 47 b then is_word bs else false

abbrev pub IsWord : List ℕ → Type 0
IsWord word = is_word word ≡ true

abbrev pub AreWords : List (List ℕ) → Type 0
AreWords [] = Unit {0}
AreWords (w ∷ ws) = IsWord w × AreWords ws

by_test : (t rest : Bool) → (if t then rest else false) ≡ true → (t ≡ true) × (rest ≡ true)
by_test true rest h = (refl, h)
by_test false rest h = cc

word_parts : (b : ℕ) (bs : List ℕ) → IsWord (b ∷ bs) → (nat_lt 47 b ≡ true) × IsWord bs
word_parts b bs h = by_test (nat_lt 47 b) (is_word bs) h

-- the word does not hold an earlier code
pub IsWord-free : (c : ℕ) (word : List ℕ) → c < 48 → IsWord word → All (λ b. (b == c) ≡ false) word
IsWord-free c [] s h = All-nil (λ b. (b == c) ≡ false)
IsWord-free c (b ∷ bs) s h =
    let parts = word_parts b bs h in
    let later : nat_lt 47 b ≡ true = parts.0 in
    let e : (b == c) ≡ false = grind (arith, nat_tests, later, s) in
    All-cons (λ b. (b == c) ≡ false) b bs e (IsWord-free c bs s parts.1)

eqb_same : (c : ℕ) → (c == c) ≡ true
eqb_same c = grind (arith, nat_tests)

-- parts that are joined by a byte that none of them holds are parted again
abbrev pub AreFree : ℕ → List (List ℕ) → Type 0
AreFree c [] = Unit {0}
AreFree c (w ∷ ws) = All (λ b. (b == c) ≡ false) w × AreFree c ws

pub slice_split-join : (c : ℕ) (w : List ℕ) (ws : List (List ℕ)) → AreFree c (w ∷ ws) → slice_split (λ b. b == c) (join_with_byte c (w ∷ ws)) ≡ w ∷ ws
slice_split-join c w [] h = slice_split_none (λ b. b == c) w h.0
slice_split-join c w (v ∷ ws) h = slice_split_at (λ b. b == c) w c (join_with_byte c (v ∷ ws)) h.0 (eqb_same c) ∙ ap (λ rest. w ∷ rest) (slice_split-join c v ws h.1)

AreWords-free : (ws : List (List ℕ)) → AreWords ws → AreFree 32 ws
AreWords-free [] h = tt
AreWords-free (w ∷ ws) h = (IsWord-free 32 w (lit< tt) h.0, AreWords-free ws h.1)

-- words that are joined by spaces are parted again
pub words_of-join : (w : List ℕ) (ws : List (List ℕ)) → AreWords (w ∷ ws) → words_of (join_with_byte 32 (w ∷ ws)) ≡ w ∷ ws
words_of-join w ws h = slice_split-join 32 w ws (AreWords-free (w ∷ ws) h)

longer_word : (b : ℕ) (bs : List ℕ) → nat_lt 47 b ≡ true → IsWord bs → IsWord (b ∷ bs)
longer_word b bs e h = rw e h

-- the text of digits is a word
pub IsWord-digits : (ds : List ℕ) → AllDigits 10 ds → IsWord ds
IsWord-digits [] h = refl
IsWord-digits (c ∷ cs) h = let d = digit_from_value c h.0 in longer_word c cs (grind (arith, nat_tests, d)) (IsWord-digits cs h.1)

-- the digits' value is that of the library's words
pub digits_after-value : (n : ℕ) (ds : List ℕ) → AllDigits 10 ds → digits_after 10 n ds ≡ Some (digits_value_after 10 n ds)
digits_after-value n [] h = refl
digits_after-value n (c ∷ cs) h = let more = digits_after-value (n * 10 + digit_value c) cs h.1 in let d : digit_value c < 10 = h.0 in grind (arith, nat_tests, more, d)

-- decimal digits do not begin like a hexadecimal number
pub no_prefix : (ds : List ℕ) → AllDigits 10 ds → bytes_eq (take 2 ds) (codes "0x") ≡ false
no_prefix [] h = refl
no_prefix (a ∷ []) h = grind (arith, nat_tests)
no_prefix (a ∷ b ∷ more) h =
    let d = digit_from_value b h.1.0 in
    let e : (b == 120) ≡ false = grind (arith, nat_tests, d) in
    grind (arith, nat_tests, e)

numeral : (ds : List ℕ) (n : ℕ) → bytes_eq (take 2 ds) (codes "0x") ≡ false → 0 < length ds → length ds ≤ 20 → digits_after 10 0 ds ≡ Some n → n < 2 ^ 64 → number_of ds ≡ Some n
numeral ds n prefix some short value small = rw prefix (grind (arith, nat_tests, some, short, value, small))

-- a number is read as it was written
pub number_of-decimal : (n : ℕ) → n < 2 ^ 64 → number_of (decimal n) ≡ Some n
number_of-decimal n h =
    let is = decimal_is_IsNumeral n h in
    let prefix = no_prefix (decimal n) is.0.1 in
    let value = digits_after-value 0 (decimal n) is.0.1 in
    let short : length (decimal n) ≤ 20 = length-decimal-le 20 n (omega arith) (omega arith) h in
    let some : 0 < length (decimal n) = is.0.0 in
    numeral (decimal n) n prefix some short (value ∙ ap Some is.1) h

-- the text of a number is a word
pub IsWord-decimal : (n : ℕ) → n < 2 ^ 64 → IsWord (decimal n)
IsWord-decimal n h = IsWord-digits (decimal n) (decimal_is_IsNumeral n h).0.1

-- a number in its range is read so
pub ranged-decimal : (least bound n : ℕ) → least ≤ n → n < bound → n < 2 ^ 64 → ranged least bound (decimal n) ≡ Some n
ranged-decimal least bound n low high h = rw (number_of-decimal n h) (grind (arith, nat_tests, low, high))

-- a test of each number below a bound, which computes
abbrev all_pass : (ℕ → Bool) → ℕ → Bool
all_pass p zero = true
all_pass p (suc n) = p n && all_pass p n

all_pass-at : (p : ℕ → Bool) (n k : ℕ) → all_pass p n ≡ true → k < n → p k ≡ true
all_pass-at p zero k h lt = absurd (omega arith)
all_pass-at p (suc n) k h lt =
    let parts = and_parts (p n) (all_pass p n) h in
    elim (cases_lt k n) [
      | inl below ↦ all_pass-at p n k parts.1 below
      | inr top ↦
          let e : k ≡ n = omega arith in
          rw e parts.0
    ]

-- a hexadecimal digit of the table is a word
digit_word : (d : ℕ) → d < 16 → nat_lt 47 (slice_index lower_digits d) ≡ true
digit_word d h = all_pass-at (λ d. nat_lt 47 (slice_index lower_digits d)) 16 d refl h

-- the text of bytes is a word
pub IsWord-encode : (bytes : List ℕ) → IsBytes bytes → IsWord (encode_lower bytes)
unfolding encode_with
IsWord-encode [] h = refl
IsWord-encode (b ∷ rest) h =
    let small : b < 256 = h 0 in
    longer_word (slice_index lower_digits (b / 16)) (slice_index lower_digits (b % 16) ∷ encode_with lower_digits rest) (digit_word (b / 16) (omega arith))
    (longer_word (slice_index lower_digits (b % 16)) (encode_with lower_digits rest) (digit_word (b % 16) (omega arith)) (IsWord-encode rest (λ i. h (suc i))))

not_empty : (word bytes : List ℕ) → length word ≡ 2 * length bytes → 1 ≤ length bytes → (length word == 0) ≡ false
not_empty word bytes twice some = grind (arith, nat_tests, twice, some)

-- bytes are read as they were written
pub hex_of-encode : (bytes : List ℕ) → IsBytes bytes → 1 ≤ length bytes → hex_of (encode_lower bytes) ≡ Some bytes
hex_of-encode bytes h some =
    let back = decode_of-encode_lower bytes h in
    let full = not_empty (encode_lower bytes) bytes (length-encode_with lower_digits bytes) some in
    rw (back, full)

-- the byte of a fill, and 256 for the others
abbrev byte_of : Option Fill → ℕ
byte_of None = 256
byte_of (Some Old) = 256
byte_of (Some New) = 256
byte_of (Some Alternating) = 256
byte_of (Some (Byte b)) = b

fill_from_byte : (fill : Option Fill) (b : ℕ) → b < 256 → byte_of fill ≡ b → fill ≡ Some (Byte b)
fill_from_byte None b h e = absurd (omega arith)
fill_from_byte (Some Old) b h e = absurd (omega arith)
fill_from_byte (Some New) b h e = absurd (omega arith)
fill_from_byte (Some Alternating) b h e = absurd (omega arith)
fill_from_byte (Some (Byte c)) b h e = ap (λ n. Some (Byte n)) e

fill_byte_back : (b : ℕ) → b < 256 → fill_of (encode_lower (b ∷ [])) ≡ Some (Byte b)
unfolding encode_with
fill_byte_back b h =
    let t = all_pass-at (λ b. byte_of (fill_of (encode_lower (b ∷ []))) == b) 256 b refl h in
    fill_from_byte (fill_of (encode_lower (b ∷ []))) b h (eqb-true (byte_of (fill_of (encode_lower (b ∷ [])))) b t)

-- a fill is read as it was written
pub fill_of-text : (fill : Fill) → FitsFill fill → fill_of (fill_text fill) ≡ Some fill
fill_of-text Old h = refl
fill_of-text New h = refl
fill_of-text Alternating h = refl
fill_of-text (Byte b) h = fill_byte_back b h

one_byte : (b : ℕ) → b < 256 → IsBytes (b ∷ [])
one_byte b h zero = h
one_byte b h (suc i) = lit< tt

pub IsWord-fill : (fill : Fill) → FitsFill fill → IsWord (fill_text fill)
IsWord-fill Old h = refl
IsWord-fill New h = refl
IsWord-fill Alternating h = refl
IsWord-fill (Byte b) h = IsWord-encode (b ∷ []) (one_byte b h)
