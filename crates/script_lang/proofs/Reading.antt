-- One line of a script is read, and kept or refused.
use Rattle.std.proofs.Common.{◌≡◌, ◌∙◌, ℕ, ◌+◌, ◌≤◌, Bool, true, false, List, [], ◌∷◌, ◌++◌, length, Result, Ok, Err, if◌then◌else◌, inl, inr, sym, ap, subst, arith}
use Rattle.std.{specs.{List.All, Result.{OnOk, IsErr, IsErrAnd}}, proofs.lemmas.{Bool.{and_parts, leb-true}, List.Elements.All-push}}
use Rattle.std.proofs.lemmas.{List.{append-nil, length_push}, Result.{IfOk-from_err, err_from_is_err_and}}
use Rattle.board_model.specs.{Shapes.Size, declared.refusal.Refusal.{Refusal, TheVariants.BadScript}}
use Rattle.script_lang.specs.{declared.line.Line.Line, Lines.line_of, Scripts.{◌>>>◌, Fails, Gives, is_passed, is_sound, or_fault, said_of}}
use Rattle.script_lang.specs.Words.{words_of}

-- what the exit of a `?` gives
pub gives_fault : {X Y : Type 0} (view : X → Y) (r : Result X Refusal) (read : Result Y Refusal) (e : Refusal) → IsErrAnd r (λ x. x ≡ e) → Fails e read → Gives view r read
gives_fault {X} {Y} view r read e is fails =
    let p = err_from_is_err_and r is in
    subst (λ (x : Result X Refusal). Gives view x read) (sym p.1) (subst (λ (x : Refusal). Fails x read) (sym p.2) fails)

pub not_ok : {X : Type 0} (r : Result X Refusal) (P : Type 0) → IsErr r → OnOk r P
not_ok r P err = IfOk-from_err r (λ _. P) err

pub sound_few : (n : ℕ) (line : List ℕ) → true ≡ is_sound n line → n ≤ 65536
sound_few n line sound = leb-true n 65536 (and_parts _ _ (sym sound)).0

pub one_past : (n : ℕ) → 1 ≤ n + 1
one_past n = omega arith

-- a line more
module _ {S : Type 0} (before now : List S) (x : S) (is : now ≡ before ++ x ∷ []) where
  pub one_more : length now ≤ length before + 1
  one_more = omega (arith, ap (λ (l : List S). length l) is, length_push before x)

  pub all_more : (P : S → Type 0) → All P before → P x → All P now
  all_more P each here = subst (λ (l : List S). All P l) (sym is) (All-push P before x each here)

pub no_more : (n m : ℕ) → n ≡ m → n ≤ m + 1
no_more n m e = omega (arith, e)

module _ (size : Size) (n : ℕ) (line : List ℕ) (old : List Line) where
  abbrev kept : Result (List Line) Refusal → Result (List Line) Refusal
  kept said = said >>> λ s. Ok (old ++ s)

  abbrev one : Result Line Refusal → Result (List Line) Refusal
  one said = said >>> λ x. Ok (x ∷ [])

  abbrev of_sound : Bool → Result (List Line) Refusal
  of_sound passed = if passed then Ok [] else one (or_fault n (line_of size (words_of line)))

  pub read_unsound : false ≡ is_sound n line → kept (said_of size n line) ≡ Err (BadScript n)
  read_unsound f = sym (ap (λ (b : Bool). kept (if b then of_sound (is_passed line) else Err (BadScript n))) f)

  module _ (sound : true ≡ is_sound n line) where
    read_sound : kept (said_of size n line) ≡ kept (of_sound (is_passed line))
    read_sound = sym (ap (λ (b : Bool). kept (if b then of_sound (is_passed line) else Err (BadScript n))) sound)

    pub read_passed : true ≡ is_passed line → kept (said_of size n line) ≡ Ok old
    read_passed passed = read_sound ∙ sym (ap (λ (b : Bool). kept (of_sound b)) passed) ∙ ap (λ (l : List Line). Ok l) (append-nil old)

    module _ (words : false ≡ is_passed line) where
      read_words : kept (said_of size n line) ≡ kept (one (or_fault n (line_of size (words_of line))))
      read_words = read_sound ∙ sym (ap (λ (b : Bool). kept (of_sound b)) words)

      pub read_fault : (e : Refusal) → Fails e (or_fault n (line_of size (words_of line))) → Fails e (kept (said_of size n line))
      read_fault e fails = elim fails [
        | inl memory ↦ inl memory
        | inr fault ↦ inr (read_words ∙ ap (λ (r : Result Line Refusal). kept (one r)) fault)
      ]

      pub read_line : (x : Line) (now : List Line) → or_fault n (line_of size (words_of line)) ≡ Ok x → now ≡ old ++ x ∷ [] → kept (said_of size n line) ≡ Ok now
      read_line x now is pushed = read_words ∙ ap (λ (r : Result Line Refusal). kept (one r)) is ∙ sym (ap (λ (l : List Line). Ok l) pushed)
