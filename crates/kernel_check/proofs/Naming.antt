-- Words, and the looks that they name.
use Rattle.std.proofs.Common.{◌≡◌, ◌∙◌, ℕ, ◌+◌, ◌<◌, List, [], ◌∷◌, ◌++◌, Bor, Option, append_assoc, ap, arith, get_or, inr, length, map, subst, sym, take}
use Rattle.std.proofs.lemmas.List.{map-append, take_more}
use Rattle.elf_image.specs.declared.kernel_file.Elf.{Elf}
use Rattle.kernel_check.specs.{Looks.{AreLooks, AreLooksOf, IsLookOf, IsOwnLook}, Options.AreForms, declared.given.LookWord.LookWord}
use Rattle.kernel_check.specs.declared.looks.Look.{Look}

-- the look of one word more
pub one_more : (elf : Option Elf) (words : List LookWord) (looks : List Look) (word : LookWord) (look : Look)
    → AreLooksOf elf words looks → IsLookOf elf word look → AreLooksOf elf (words ++ (word ∷ [])) (looks ++ (look ∷ []))
one_more elf [] [] word look are is = (is, tt)
one_more elf [] (l ∷ ls) word look are is = absurd are
one_more elf (w ∷ ws) [] word look are is = absurd are
one_more elf (w ∷ ws) (l ∷ ls) word look are is = (are.0, one_more elf ws ls word look are.1 is)

-- the one look where nothing is said
pub own_one : (elf : Option Elf) (look : Look) (looks : List Look) → looks ≡ look ∷ [] → IsOwnLook elf look → AreLooks elf [] looks
own_one elf look looks e own = inr (look, e, own)

-- there are words
pub some_words : (elf : Option Elf) (words : List LookWord) (looks : List Look) → 0 < length words → AreLooksOf elf words looks
    → AreLooks elf words looks
some_words elf [] looks h are = absurd (omega arith)
some_words elf (word ∷ words) looks h are = are

-- there are none
pub no_words : (elf : Option Elf) (words : List LookWord) (looks : List Look) → length words ≡ 0 → AreLooks elf [] looks
    → AreLooks elf words looks
no_words elf [] looks h are = are
no_words elf (word ∷ words) looks h are = absurd (omega arith)

-- what one word more says
pub form_more : (Is : List ℕ → LookWord → Type 0) (words : List (List ℕ)) (looks : List LookWord) (word : List ℕ) (look : LookWord)
    → AreForms Is words looks → Is word look → AreForms Is (words ++ (word ∷ [])) (looks ++ (look ∷ []))
form_more Is [] [] word look are is = (is, tt)
form_more Is [] (l ∷ ls) word look are is = absurd are
form_more Is (w ∷ ws) [] word look are is = absurd are
form_more Is (w ∷ ws) (l ∷ ls) word look are is = (are.0, form_more Is ws ls word look are.1 is)

-- and in a list that grows
pub forms_on : (Is : List ℕ → LookWord → Type 0) (words : List (Bor (List ℕ))) (i : ℕ) (d : Bor (List ℕ)) (old before after : List LookWord)
    (look : LookWord) → i < length words
    → ((more : List LookWord) × (before ≡ old ++ more) × AreForms Is (map (λ w. w.now) (take i words)) more)
    → after ≡ before ++ (look ∷ []) → Is (get_or words i d).now look
    → (more : List LookWord) × (after ≡ old ++ more) × AreForms Is (map (λ w. w.now) (take (i + 1) words)) more
forms_on Is words i d old before after look h (more, e, are) pushed is =
    let text = λ (w : Bor (List ℕ)). w.now in
    let eq : map text (take (i + 1) words) ≡ map text (take i words) ++ ((get_or words i d).now ∷ []) =
    ap (map text) (take_more words i d h) ∙ map-append text (take i words) (get_or words i d ∷ []) in (
      more ++ (look ∷ []),
      pushed ∙ ap (λ (b : List LookWord). b ++ (look ∷ [])) e ∙ append_assoc old more (look ∷ []),
      subst (λ (ws : List (List ℕ)). AreForms Is ws (more ++ (look ∷ []))) (sym eq)
          (form_more Is (map text (take i words)) more (get_or words i d).now look are is),
    )
