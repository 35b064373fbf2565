-- One more line read, in the words of the loop over the lines.
use Rattle.std.proofs.Common.{◌≡◌, ◌∙◌, ℕ, ◌+◌, ◌-◌, ◌<◌, ◌≤◌, Bool, true, false, Bor, List, [], ◌∷◌, ◌++◌, length, length-drop, get_or, take, drop, Result, Ok, Err, if◌then◌else◌, append_assoc, inl, inr, refl, sym, ap, subst, arith}
use Rattle.std.{specs.List.All, proofs.lemmas.List.{append-nil, drop_more, drop_all, take_all, Elements.All-nil}}
use Rattle.board_model.specs.{declared.refusal.Refusal.{Refusal, TheVariants.BadScript}, Shapes.Size}
use Rattle.script_lang.{specs.declared.line.Line.Line, proofs.Classes.seen}
use Rattle.script_lang.specs.Scripts.{◌>>>◌, Fails, Script, from_board, is_passed, is_sound, lines_from, said_of, rest_of, with_front}

front-step : (said others : Result (List Line) Refusal) (old new : List Line) → (said >>> (λ s. Ok (old ++ s))) ≡ Ok new → with_front new others ≡ with_front old (said >>> (λ s. others >>> (λ o. Ok (s ++ o))))
front-step (Err e) others old new h = cc
front-step (Ok s) (Err e) old new h = refl
front-step (Ok s) (Ok o) old new h =
    let e : old ++ s ≡ new = cc in
    let a : (old ++ s) ++ o ≡ old ++ (s ++ o) = simp append_assoc in
    cc

front-err : (said others : Result (List Line) Refusal) (old : List Line) (e : Refusal) → (said >>> (λ s. Ok (old ++ s))) ≡ Err e → with_front old (said >>> (λ s. others >>> (λ o. Ok (s ++ o)))) ≡ Err e
front-err (Err d) others old e h = cc
front-err (Ok s) others old e h = cc

-- what is found with the line, and the lines after it
pub rest_of-step : (size : Size) (n : ℕ) (line : List ℕ) (more : List (List ℕ)) (old new : List Line) → (said_of size n line >>> (λ said. Ok (old ++ said))) ≡ Ok new → with_front new (rest_of size (n + 1) more) ≡ with_front old (rest_of size n (line ∷ more))
unfolding rest_of
rest_of-step size n line more old new h = front-step (said_of size n line) (rest_of size (n + 1) more) old new h

-- a fault of the line is the fault of the lines from it on
pub rest_of-fault : (size : Size) (n : ℕ) (line : List ℕ) (more : List (List ℕ)) (old : List Line) (e : Refusal) → (said_of size n line >>> (λ said. Ok (old ++ said))) ≡ Err e → with_front old (rest_of size n (line ∷ more)) ≡ Err e
unfolding rest_of
rest_of-fault size n line more old e h = front-err (said_of size n line) (rest_of size (n + 1) more) old e h

-- ---- the loop over the lines

front_none : (r : Result (List Line) Refusal) → with_front [] r ≡ r
front_none (Ok x) = refl
front_none (Err e) = refl

pub begun : (size : Size) (start : ℕ) (lines : List (List ℕ)) (none : List Line) → none ≡ [] → with_front none (rest_of size start lines) ≡ rest_of size start lines
begun size start lines none is = ap (λ (l : List Line). with_front l (rest_of size start lines)) is ∙ front_none (rest_of size start lines)

pub all_of_none : (P : Line → Type 0) (none : List Line) → none ≡ [] → All P none
all_of_none P none is = subst (λ (l : List Line). All P l) (sym is) (All-nil P)

pub few_begun : (none : List Line) (start : ℕ) → none ≡ [] → length none + start ≤ start
few_begun none start is = omega (arith, ap (λ (l : List Line). length l) is)

pub few_more : (a b start n : ℕ) → b ≤ a + 1 → a + start ≤ n → b + start ≤ n + 1
few_more a b start n more few = omega (arith, more, few)

pub next_few : (n : ℕ) → n ≤ 65536 → n + 1 ≤ 65537
next_few n few = omega (arith, few)

pub found_few : (a start n : ℕ) → a + start ≤ n → n ≤ 65537 → a + start ≤ 65537
found_few a start n found few = omega (arith, found, few)

rest_of-none : (size : Size) (n : ℕ) → rest_of size n [] ≡ Ok []
unfolding rest_of
rest_of-none size n = refl

module _ (size : Size) (start n i : ℕ) (lines : List (Bor (List ℕ))) (old : List Line) (so_far : with_front old (rest_of size n (seen (drop i lines))) ≡ rest_of size start (seen lines)) where
  abbrev front : List (Bor (List ℕ)) → Result (List Line) Refusal
  front l = with_front old (rest_of size n (seen l))

  pub ended : length lines ≤ i → rest_of size start (seen lines) ≡ Ok old
  ended all =
      sym so_far
      ∙ ap (λ (l : List (Bor (List ℕ))). front l) (drop_all i lines all)
      ∙ ap (λ (r : Result (List Line) Refusal). with_front old r) (rest_of-none size n)
      ∙ ap (λ (l : List Line). Ok l) (append-nil old)

  module _ (less : i < length lines) where
    abbrev this : Bor (List ℕ)
    this = get_or lines i (record { ref_ptr = (0, 0); now = [] })

    split : front (this ∷ drop (i + 1) lines) ≡ rest_of size start (seen lines)
    split = sym (ap (λ (l : List (Bor (List ℕ))). front l) (drop_more lines i (record { ref_ptr = (0, 0); now = [] }) less)) ∙ so_far

    pub one_on : (new : List Line) → (said_of size n this.now >>> (λ said. Ok (old ++ said))) ≡ Ok new → with_front new (rest_of size (n + 1) (seen (drop (i + 1) lines))) ≡ rest_of size start (seen lines)
    one_on new said = rest_of-step size n this.now (seen (drop (i + 1) lines)) old new said ∙ split

    pub fails_on : (e : Refusal) → Fails e (said_of size n this.now >>> (λ said. Ok (old ++ said))) → Fails e (rest_of size start (seen lines))
    fails_on e fails = elim fails [
      | inl memory ↦ inl memory
      | inr fault ↦ inr (sym split ∙ rest_of-fault size n this.now (seen (drop (i + 1) lines)) old e fault)
    ]

-- ---- the loop up to the board line

lines_from-none : (n : ℕ) → lines_from n [] ≡ Err (BadScript 1)
unfolding lines_from
lines_from-none n = refl

abbrev by_first : ℕ → List ℕ → List (List ℕ) → Bool → Bool → Result Script Refusal
by_first n line more sound passed = if sound then (if passed then lines_from (n + 1) more else from_board n line more) else Err (BadScript n)

lines_from-first : (n : ℕ) (line : List ℕ) (more : List (List ℕ)) → lines_from n (line ∷ more) ≡ by_first n line more (is_sound n line) (is_passed line)
unfolding lines_from
lines_from-first n line more = refl

module _ (n i : ℕ) (lines : List (Bor (List ℕ))) (so_far : lines_from n (seen (drop i lines)) ≡ lines_from 1 (seen lines)) where
  pub no_board_line : length lines ≤ i → lines_from 1 (seen lines) ≡ Err (BadScript 1)
  no_board_line all = sym so_far ∙ ap (λ (l : List (Bor (List ℕ))). lines_from n (seen l)) (drop_all i lines all) ∙ lines_from-none n

  module _ (less : i < length lines) where
    abbrev first : Bor (List ℕ)
    first = get_or lines i (record { ref_ptr = (0, 0); now = [] })

    abbrev others : List (Bor (List ℕ))
    others = drop (i + 1) lines

    parted : lines_from 1 (seen lines) ≡ by_first n first.now (seen others) (is_sound n first.now) (is_passed first.now)
    parted =
        sym so_far
        ∙ ap (λ (l : List (Bor (List ℕ))). lines_from n (seen l)) (drop_more lines i (record { ref_ptr = (0, 0); now = [] }) less)
        ∙ lines_from-first n first.now (seen others)

    pub unsound_first : false ≡ is_sound n first.now → lines_from 1 (seen lines) ≡ Err (BadScript n)
    unsound_first f = parted ∙ sym (ap (λ (b : Bool). by_first n first.now (seen others) b (is_passed first.now)) f)

    module _ (sound : true ≡ is_sound n first.now) where
      sound_first : lines_from 1 (seen lines) ≡ by_first n first.now (seen others) true (is_passed first.now)
      sound_first = parted ∙ sym (ap (λ (b : Bool). by_first n first.now (seen others) b (is_passed first.now)) sound)

      pub passed_first : true ≡ is_passed first.now → lines_from (n + 1) (seen others) ≡ lines_from 1 (seen lines)
      passed_first t = ap (λ (b : Bool). by_first n first.now (seen others) true b) t ∙ sym sound_first

      pub board_first : false ≡ is_passed first.now → from_board n first.now (seen (take (length lines - (i + 1)) others)) ≡ lines_from 1 (seen lines)
      board_first f =
          ap (λ (l : List (Bor (List ℕ))). from_board n first.now (seen l)) (take_all (length lines - (i + 1)) others (omega (arith, length-drop (i + 1) lines)))
          ∙ ap (λ (b : Bool). by_first n first.now (seen others) true b) f
          ∙ sym sound_first
