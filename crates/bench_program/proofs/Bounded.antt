-- The script of an input that is read up to a bound: what more bytes than any script has say is told by the
-- first of them.
use Rattle.std.proofs.Common.{◌≡◌, ℕ, ◌+◌, ◌-◌, ◌*◌, ◌≤◌, ◌<◌, Bool, true, false, List, [], ◌∷◌, ◌++◌, length, take, All, Option, Some, None, IfSome, Ok, ◌⊎◌, inl, inr, ◌==◌, if◌then◌else◌, zero, suc, refl, ap, ◌∙◌, arith}
use Rattle.std.proofs.lemmas.{Bool.{cases_lt, eqb-true, Decides.nat_tests}, List.{take_all, length-take-le, take-append-le}}
use Rattle.std.{proofs.{lemmas.List.Elements.{All-cons, All-head, All-nil, All-tail}, Math.Seq.take-append-add}, specs.List.slice_split}
use Rattle.std.proofs.lemmas.List.Splits.{length-slice_split, slice_split_none, slice_split_at}
use Rattle.board_model.specs.Shapes.{Size}
use Rattle.script_lang.specs.Words.{words_of}
use Rattle.script_lang.specs.Scripts.{◌>>>◌, is_sound, whole_lines, lines_of, rest_of, board_of, from_board, lines_from, script_of}

abbrev Free : List ℕ → Type 0
Free w = All (λ b. (b == 10) ≡ false) w

-- ---- the first line of a text

-- a text has a first line feed, or none
abbrev HasFeed : List ℕ → Type 0
HasFeed xs = (w : List ℕ) × (ys : List ℕ) × (xs ≡ w ++ 10 ∷ ys) × Free w

parted-cons : (x : ℕ) (xs : List ℕ) (b : Bool) → (x == 10) ≡ b → Free xs ⊎ HasFeed xs → Free (x ∷ xs) ⊎ HasFeed (x ∷ xs)
parted-cons x xs true e later = inr ([], xs, ap (λ c. c ∷ xs) (eqb-true x 10 e), All-nil (λ b. (b == 10) ≡ false))
parted-cons x xs false e (inl free) = inl (All-cons (λ b. (b == 10) ≡ false) x xs e free)
parted-cons x xs false e (inr p) = inr (x ∷ p.0, p.1, ap (λ rest. x ∷ rest) p.2, All-cons (λ b. (b == 10) ≡ false) x p.0 e p.3)

parted : (xs : List ℕ) → Free xs ⊎ HasFeed xs
parted [] = inl (All-nil (λ b. (b == 10) ≡ false))
parted (x ∷ xs) = parted-cons x xs (x == 10) refl (parted xs)

either_after : (b : Bool) (w : List ℕ) (x y : List (List ℕ)) → (if b then w ∷ x else w ∷ y) ≡ w ∷ (if b then x else y)
either_after true w x y = refl
either_after false w x y = refl

whole_lines-cons : (w s : List ℕ) (ss : List (List ℕ)) → whole_lines (w ∷ s ∷ ss) ≡ w ∷ whole_lines (s ∷ ss)
whole_lines-cons w s ss =
    let long : length (w ∷ s ∷ ss) - 1 ≡ suc (length ss) = omega arith in
    let short : length (s ∷ ss) - 1 ≡ length ss = omega arith in
    rw (long, short) (either_after _ w (take (length ss) (s ∷ ss)) (s ∷ ss))

whole_lines-onto : (w : List ℕ) (parts : List (List ℕ)) → 0 < length parts → whole_lines (w ∷ parts) ≡ w ∷ whole_lines parts
whole_lines-onto w [] some = absurd (omega (arith, some))
whole_lines-onto w (s ∷ ss) some = whole_lines-cons w s ss

-- ---- the lines of a text

parts_some : (xs : List ℕ) → 0 < length (slice_split (λ b. b == 10) xs)
parts_some xs = omega (arith, length-slice_split (λ b. b == 10) xs)

lines_of-feed : (w ys : List ℕ) → Free w → lines_of (w ++ 10 ∷ ys) ≡ w ∷ lines_of ys
lines_of-feed w ys free = ap whole_lines (slice_split_at (λ b. b == 10) w 10 ys free refl) ∙ whole_lines-onto w (slice_split (λ b. b == 10) ys) (parts_some ys)

lone : (w : List ℕ) → 0 < length w → whole_lines (w ∷ []) ≡ w ∷ []
lone [] some = absurd (omega (arith, some))
lone (b ∷ bs) some =
    let e : (length (b ∷ bs) == 0) ≡ false = grind (arith, nat_tests) in
    rw e refl

lines_of-lone : (w : List ℕ) → Free w → 0 < length w → lines_of w ≡ w ∷ []
lines_of-lone w free some = ap whole_lines (slice_split_none (λ b. b == 10) w free) ∙ lone w some

free-take : (m : ℕ) (w : List ℕ) → Free w → Free (take m w)
free-take zero w free = All-nil (λ b. (b == 10) ≡ false)
free-take (suc m) [] free = free
free-take (suc m) (b ∷ bs) free = All-cons (λ b. (b == 10) ≡ false) b (take m bs) (All-head (λ b. (b == 10) ≡ false) b bs free) (free-take m bs (All-tail (λ b. (b == 10) ≡ false) b bs free))

-- ---- lists of lines that say the same from line number n on

record Agree (n : ℕ) (ms bs : List (List ℕ)) : Type 0 where
  whole : lines_from n ms ≡ lines_from n bs
  rest : (size : Size) → rest_of size n ms ≡ rest_of size n bs

agree : (n : ℕ) (ms bs : List (List ℕ)) → ms ≡ bs → Agree n ms bs
agree n ms bs e = record { whole = ap (lines_from n) e; rest = λ size. ap (rest_of size n) e }

agree-unsound : (n : ℕ) (a b : List ℕ) (ms bs : List (List ℕ)) → is_sound n a ≡ false → is_sound n b ≡ false → Agree n (a ∷ ms) (b ∷ bs)
unfolding lines_from rest_of
agree-unsound n a b ms bs e f = record { whole = rw (e, f) refl; rest = λ size. rw (e, f) refl }

from_board-same : (n : ℕ) (line : List ℕ) (ms bs : List (List ℕ)) → ((size : Size) → rest_of size (n + 1) ms ≡ rest_of size (n + 1) bs) → from_board n line ms ≡ from_board n line bs
from_board-same n line ms bs same = λ i. board_of n (words_of line) >>> λ size. same size i >>> λ lines. Ok (record { size = size; lines = lines })

agree-next : (n : ℕ) (line : List ℕ) (ms bs : List (List ℕ)) → Agree (n + 1) ms bs → Agree n (line ∷ ms) (line ∷ bs)
unfolding lines_from rest_of
agree-next n line ms bs next = record { whole = rw (next.whole, from_board-same n line ms bs next.rest) refl; rest = λ size. rw (next.rest size) refl }

long_line : (n : ℕ) (line : List ℕ) → (65536 < n) ⊎ (4096 < length line) → is_sound n line ≡ false
long_line n line (inl far) = grind (arith, nat_tests, far)
long_line n line (inr long) = grind (arith, nat_tests, long)

unsound_at : (k n : ℕ) (line : List ℕ) → n + k ≡ 65537 → k * 4097 + 1 ≤ length line → is_sound n line ≡ false
unsound_at zero n line e long = long_line n line (inl (omega (arith, e)))
unsound_at (suc k) n line e long = long_line n line (inr (omega (arith, long)))

-- a first line that alone is longer than the bound
agree-long : (k n m : ℕ) (w : List ℕ) (ms : List (List ℕ)) → n + k ≡ 65537 → k * 4097 + 1 ≤ m → m ≤ length w → Free w → Agree n (lines_of (take m w)) (w ∷ ms)
agree-long k n m w ms e bound long free =
    let exact = length-take-le m w long in
    let first = lines_of-lone (take m w) (free-take m w free) (omega (arith, exact, bound)) in
    rw first (agree-unsound n (take m w) w [] ms (unsound_at k n (take m w) e (omega (arith, exact, bound))) (unsound_at k n w e (omega (arith, bound, long))))

bounded-one : (k n m : ℕ) (w : List ℕ) → n + k ≡ 65537 → k * 4097 + 1 ≤ m → Free w → Agree n (lines_of (take m w)) (lines_of w)
bounded-one k n m w e bound free =
    elim (cases_lt m (length w)) [
      | inl long ↦ rw (lines_of-lone w free (omega (arith, long))) (agree-long k n m w [] e bound (omega (arith, long)) free)
      | inr all ↦ agree n (lines_of (take m w)) (lines_of w) (ap lines_of (take_all m w all))
    ]

take-feed : (m j : ℕ) (w ys : List ℕ) → m ≡ length w + suc j → take m (w ++ 10 ∷ ys) ≡ w ++ 10 ∷ take j ys
take-feed m j w ys e = rw e (take-append-add w (10 ∷ ys) (suc j))

agree-fed : (n : ℕ) (w : List ℕ) (ms bs : List (List ℕ)) (b : Bool) → is_sound n w ≡ b → (is_sound n w ≡ true → Agree (n + 1) ms bs) → Agree n (w ∷ ms) (w ∷ bs)
agree-fed n w ms bs true e next = agree-next n w ms bs (next e)
agree-fed n w ms bs false e next = agree-unsound n w w ms bs e e

bounded-feed : (k n m : ℕ) (w ys : List ℕ) → n + k ≡ 65537 → k * 4097 + 1 ≤ m → Free w
    → ((j : ℕ) → m ≡ length w + suc j → is_sound n w ≡ true → Agree (n + 1) (lines_of (take j ys)) (lines_of ys))
    → Agree n (lines_of (take m (w ++ 10 ∷ ys))) (lines_of (w ++ 10 ∷ ys))
bounded-feed k n m w ys e bound free next =
    elim (cases_lt (length w) m) [
      | inl short ↦
          let left : m ≡ length w + suc (m - length w - 1) = omega (arith, short) in
          rw (take-feed m (m - length w - 1) w ys left, lines_of-feed w (take (m - length w - 1) ys) free, lines_of-feed w ys free)
          (agree-fed n w (lines_of (take (m - length w - 1) ys)) (lines_of ys) (is_sound n w) refl (next (m - length w - 1) left))
      | inr long ↦ rw (take-append-le m w (10 ∷ ys) long, lines_of-feed w ys free) (agree-long k n m w (lines_of ys) e bound long free)
    ]

sound_few : (n : ℕ) (w : List ℕ) → is_sound n w ≡ true → n ≤ 65536
sound_few n w s = grind (arith, nat_tests, s)

sound_short : (n : ℕ) (w : List ℕ) → is_sound n w ≡ true → length w ≤ 4096
sound_short n w s = grind (arith, nat_tests, s)

-- the lines of a text agree with those of its beginning, where that is longer than the k lines that are left
-- can be
bounded : (k n m : ℕ) (xs : List ℕ) → n + k ≡ 65537 → k * 4097 + 1 ≤ m → Agree n (lines_of (take m xs)) (lines_of xs)
bounded zero n m xs e bound =
    elim (parted xs) [
      | inl free ↦ bounded-one zero n m xs e bound free
      | inr p ↦ rw p.2 (bounded-feed zero n m p.0 p.1 e bound p.3 (λ j left sound. absurd (omega (arith, e, sound_few n p.0 sound))))
    ]
bounded (suc k) n m xs e bound =
    elim (parted xs) [
      | inl free ↦ bounded-one (suc k) n m xs e bound free
      | inr p ↦ rw p.2 (bounded-feed (suc k) n m p.0 p.1 e bound p.3 (λ j left sound.
          bounded k (n + 1) j p.1 (omega (arith, e)) (omega (arith, bound, left, sound_short n p.0 sound))))
    ]

-- ---- the input

-- what was read of bytes that are more than any script has says what they say
pub read_says : (known : Option (List ℕ)) (read : List ℕ) → IfSome known (λ bytes. read ≡ take 268500993 bytes) → IfSome known (λ bytes. script_of read ≡ script_of bytes)
read_says None read e = e
read_says (Some bytes) read e = ap script_of e ∙ (bounded 65536 1 268500993 bytes (omega arith) (omega arith)).whole
