-- Lines of a bench, one after another, as tests.
use Rattle.std.proofs.Common.{◌≡◌, ◌∙◌, ℕ, ◌+◌, ◌-◌, ◌<◌, ◌≤◌, Bool, true, false, nat_eq, Bor, List, [], ◌∷◌, ◌++◌, Option, length, map, take, drop, get_or, append_assoc, length-drop, if◌then◌else◌, refl, sym, ap, subst, arith}
use Rattle.std.{proofs.lemmas.List.{append-nil, drop_more, take_all}, specs.{Io.KnownBytes.Appends, List.starts_with}}
use Rattle.bench_program.specs.Taps.{failed_count, failed_lines, failed_text, has_word, last_behind, last_of_two, tells_apart}
use Rattle.board_model.proofs.Written.{appended}

-- ---- a line that tells of a difference
here : (word : List ℕ) (b : ℕ) (bs : List ℕ) → starts_with nat_eq (b ∷ bs) word ≡ true → has_word word (b ∷ bs) ≡ true
here word b bs is = rw is refl

past : (word : List ℕ) (b : ℕ) (bs : List ℕ) → starts_with nat_eq (b ∷ bs) word ≡ false → has_word word (b ∷ bs) ≡ has_word word bs
past word b bs not = rw not refl

module _ (word line : List ℕ) (i : ℕ) (less : i < length line) (so_far : has_word word (drop i line) ≡ has_word word line) where
  pub word_here : starts_with nat_eq (drop i line) word ≡ true → has_word word line ≡ true
  word_here is =
      let e = drop_more line i 0 less in
      let P : List ℕ → Type 0 = λ xs. starts_with nat_eq xs word ≡ true in
      sym so_far ∙ ap (has_word word) e ∙ here word (get_or line i 0) (drop (i + 1) line) (subst P e is)

  pub word_later : starts_with nat_eq (drop i line) word ≡ false → has_word word (drop (i + 1) line) ≡ has_word word line
  word_later not =
      let e = drop_more line i 0 less in
      let P : List ℕ → Type 0 = λ xs. starts_with nat_eq xs word ≡ false in
      sym (ap (has_word word) e ∙ past word (get_or line i 0) (drop (i + 1) line) (subst P e not)) ∙ so_far

-- ---- lines after others
pub failed_more : (n : ℕ) (line : List ℕ) (more : List (List ℕ)) → failed_lines n (line ∷ more) ≡ failed_lines n (line ∷ []) ++ failed_lines (n + failed_count (line ∷ [])) more
failed_more n line more = by_case (tells_apart line) (failed_text (n + 1) line) (λ k. failed_lines k more)
  where
    by_case : (b : Bool) (text : List ℕ) (rest : ℕ → List ℕ) → (if b then (text ++ rest (n + 1)) else rest n) ≡ (if b then (text ++ []) else []) ++ rest (n + (if b then (0 + 1) else 0))
    by_case true text rest = ap (λ t. t ++ rest (n + 1)) (sym (append-nil text))
    by_case false text rest = ap rest (let e : n ≡ n + 0 = omega arith in e)

pub count_more : (line : List ℕ) (more : List (List ℕ)) → failed_count (line ∷ more) ≡ failed_count (line ∷ []) + failed_count more
count_more line more = by_case (tells_apart line) (failed_count more)
  where
    by_case : (b : Bool) (rest : ℕ) → (if b then (rest + 1) else rest) ≡ (if b then (0 + 1) else 0) + rest
    by_case true rest = omega arith
    by_case false rest = omega arith

-- ---- a loop over lines
pub all_from : (line : List ℕ) (i : ℕ) → i ≤ length line → take (length line - i) (drop i line) ≡ drop i line
all_from line i within = take_all (length line - i) (drop i line) (let e = length-drop i line in omega (arith, e))

pub all_left : (line : List ℕ) (i : ℕ) → i < length line → take (length line - i) (drop i line) ≡ drop i line
all_left line i less = all_from line i (omega (arith, less))

pub last_next : (lines : List (Bor (List ℕ))) (i : ℕ) (d : Bor (List ℕ)) (last next : List ℕ) → i < length lines → next ≡ last_of_two last (get_or lines i d).now
    → last_behind last (map (λ w. w.now) (drop i lines)) ≡ last_behind [] (map (λ w. w.now) lines) → last_behind next (map (λ w. w.now) (drop (i + 1) lines)) ≡ last_behind [] (map (λ w. w.now) lines)
last_next lines i d last next less is so_far =
    ap (λ n. last_behind n (map (λ (w : Bor (List ℕ)). w.now) (drop (i + 1) lines))) is
    ∙ sym (ap (λ (ls : List (Bor (List ℕ))). last_behind last (map (λ w. w.now) ls)) (drop_more lines i d less)) ∙ so_far

module _ (lines : List (Bor (List ℕ))) (i : ℕ) (d : Bor (List ℕ)) (told next : ℕ) (less : i < length lines) (is : next ≡ told + failed_count ((get_or lines i d).now ∷ [])) where
  abbrev rest : List (List ℕ)
  rest = map (λ w. w.now) (drop (i + 1) lines)

  abbrev now : List (List ℕ)
  now = map (λ w. w.now) (drop i lines)

  abbrev all : List (List ℕ)
  all = map (λ w. w.now) lines

  first : now ≡ (get_or lines i d).now ∷ rest
  first = ap (λ (ls : List (Bor (List ℕ))). map (λ w. w.now) ls) (drop_more lines i d less)

  pub count_next : told + failed_count now ≡ failed_count all → next + failed_count rest ≡ failed_count all
  count_next so_far =
      let e : failed_count now ≡ failed_count ((get_or lines i d).now ∷ []) + failed_count rest = ap failed_count first ∙ count_more (get_or lines i d).now rest in
      omega (arith, so_far, e, is)

  pub wrote_next : (a b c : Option (List ℕ)) → ((text : List ℕ) × Appends a b text × (text ++ failed_lines told now ≡ failed_lines 0 all)) → Appends b c (failed_lines told ((get_or lines i d).now ∷ []))
      → (text : List ℕ) × Appends a c text × (text ++ failed_lines next rest ≡ failed_lines 0 all)
  wrote_next a b c (text, wrote, so_far) one =
      let own : List ℕ = failed_lines told ((get_or lines i d).now ∷ []) in (
        text ++ own,
        appended a b c text own wrote one,
        append_assoc text own (failed_lines next rest)
            ∙ ap (λ n. text ++ (own ++ failed_lines n rest)) is
            ∙ ap (λ x. text ++ x) (sym (ap (failed_lines told) first ∙ failed_more told (get_or lines i d).now rest))
            ∙ so_far,
      )
