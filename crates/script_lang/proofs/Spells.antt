-- What is asked of the words of a line that is written out, and what follows for its text.
use Rattle.std.proofs.Common.{◌≡◌, ℕ, ◌+◌, ◌^◌, ◌<◌, ◌≤◌, ◌==◌, false, List, [], ◌∷◌, ◌++◌, length, arith, length-append}
use Rattle.std.{proofs.lemmas.{Bool.Decides.nat_tests, Fmt.length-decimal-le}, specs.{Fmt.decimal, List.join_with_byte}}
use Rattle.hex.{specs.Hex.lower_digits, proofs.HexLemmas.length-encode_with}
use Rattle.script_lang.{specs.{Scripts.is_passed, Words.{words_of, fill_text}}, proofs.Numerals.{AreWords, words_of-join}}
use Rattle.simdisk.specs.declared.fill.Fill.{Fill, TheVariants.{Old, New, Byte, Alternating}}

-- how long a text is at most
abbrev pub long : List (List ℕ) → ℕ
long [] = 0
long (w ∷ ws) = (length w + 1) + long ws

-- the first word is no comment's
abbrev pub BeginsLine : List (List ℕ) → Type 0
BeginsLine [] = ⊥
BeginsLine ([] ∷ ws) = ⊥
BeginsLine ((c ∷ cs) ∷ ws) = (c == 35) ≡ false

-- words with no space in them, which a line has room for, and which are no comment
pub record SpellsLine (words : List (List ℕ)) : Type 0 where
  pub are : AreWords words
  pub begins : BeginsLine words
  pub room : long words ≤ 4096

pub short : (n : ℕ) → n < 2 ^ 64 → length (decimal n) ≤ 20
short n h = length-decimal-le 20 n (omega arith) (omega arith) h

pub fill_short : (fill : Fill) → length (fill_text fill) ≤ 3
fill_short Old = omega arith
fill_short New = omega arith
fill_short Alternating = omega arith
fill_short (Byte b) = omega (arith, length-encode_with lower_digits (b ∷ []))

length-join : (words : List (List ℕ)) → length (join_with_byte 32 words) ≤ long words
length-join [] = omega arith
length-join (w ∷ []) = omega arith
length-join (w ∷ v ∷ ws) = let more = length-join (v ∷ ws) in omega (arith, more, length-append w (32 ∷ join_with_byte 32 (v ∷ ws)))

-- a text is as short as its words
pub text_short : (words : List (List ℕ)) (most : ℕ) → long words ≤ most → length (join_with_byte 32 words) ≤ most
text_short words most h = omega (arith, length-join words, h)

not_passed : (c : ℕ) (cs : List ℕ) → (c == 35) ≡ false → is_passed (c ∷ cs) ≡ false
not_passed c cs e = grind (arith, nat_tests, e)

-- it is not passed over, and not empty
pub text_not_passed : (words : List (List ℕ)) → BeginsLine words → is_passed (join_with_byte 32 words) ≡ false
text_not_passed [] h = absurd h
text_not_passed ([] ∷ ws) h = absurd h
text_not_passed ((c ∷ cs) ∷ []) h = not_passed c cs h
text_not_passed ((c ∷ cs) ∷ w ∷ ws) h = not_passed c (cs ++ 32 ∷ join_with_byte 32 (w ∷ ws)) h

pub text_filled : (words : List (List ℕ)) → BeginsLine words → 0 < length (join_with_byte 32 words)
text_filled [] h = absurd h
text_filled ([] ∷ ws) h = absurd h
text_filled ((c ∷ cs) ∷ []) h = omega arith
text_filled ((c ∷ cs) ∷ w ∷ ws) h = omega arith

-- its words are found again
pub join_back : (words : List (List ℕ)) → BeginsLine words → AreWords words → words_of (join_with_byte 32 words) ≡ words
join_back [] begins h = absurd begins
join_back (w ∷ ws) begins h = words_of-join w ws h
