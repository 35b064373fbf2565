-- Schedules that were run and told, one after another.
use Rattle.std.proofs.Common.{◌≡◌, ◌∙◌, ℕ, suc, ◌+◌, List, [], ◌∷◌, ◌++◌, ◌≤◌, Option, Some, None, length, refl, sym, ap, subst, arith, append_assoc, length-append}
use Rattle.std.{proofs.lemmas.List.{append-nil, Elements.{All-append, All-cons, All-nil}}, specs.{Fmt.decimal, Io.KnownBytes.Appends}}
use Rattle.script_lang.specs.Scripts.{Script}
use Rattle.board_model.proofs.Written.{appended, unwritten}
use Rattle.report_lines.specs.declared.printed.Answer.{Answer}
use Rattle.bench_schedules.specs.{declared.runs.Difference.Difference, Schedules.{Ran, RunText, RunsText, Wrote, differing, tight_text}}
use lib.Chars.{codes}

texts_more : (number : ℕ → ℕ) (k : ℕ) (runs : List (Option Difference)) (text : List ℕ) (run : Option Difference) (more : List ℕ) → RunsText number k runs text
    → RunText number (k + length runs) run more → RunsText number k (runs ++ run ∷ []) (text ++ more)
texts_more number k [] text run more tells told =
    let P : ℕ → Type 0 = λ n. RunText number n run more in
    (more, [], subst P (zero_right k) told, refl, ap (λ x. x ++ more) tells ∙ sym (append-nil more))
  where
    zero_right : (k : ℕ) → k + 0 ≡ k
    zero_right k = omega arith
texts_more number k (first ∷ runs) text run more tells told =
    let P : ℕ → Type 0 = λ n. RunText number n run more in (
      tells.0,
      tells.1 ++ more,
      tells.2,
      texts_more number (k + 1) runs tells.1 run more tells.3 (subst P (next k (length runs)) told),
      ap (λ x. x ++ more) tells.4 ∙ append_assoc tells.0 tells.1 more,
    )
  where
    next : (k n : ℕ) → k + suc n ≡ k + 1 + n
    next k n = omega arith

differing_more : (runs : List (Option Difference)) (run : Option Difference) → differing (runs ++ run ∷ []) ≡ differing runs + differing (run ∷ [])
differing_more [] run = omega arith
differing_more (None ∷ runs) run = differing_more runs run
differing_more (Some d ∷ runs) run = omega (arith, differing_more runs run)

pub wrote_none : (said : Script) (start : List (List ℕ)) (number : ℕ → ℕ) (own : List Answer) (k : ℕ) (now : Option (List ℕ)) → Wrote said start number own k 0 now now 0
wrote_none said start number own k now = record {
  runs = [];
  all = refl;
  each = All-nil (Ran said start own);
  count = refl;
  text = [];
  tells = refl;
  written = unwritten now;
}

pub wrote_more : (said : Script) (start : List (List ℕ)) (number : ℕ → ℕ) (own : List Answer) (k n differ m : ℕ) (old mid new : Option (List ℕ)) (run : Option Difference)
    → Wrote said start number own k n old mid differ → Ran said start own run
    → ((text : List ℕ) × RunText number (k + n) run text × Appends mid new text × (m ≡ differing (run ∷ [])))
    → Wrote said start number own k (n + 1) old new (differ + m)
wrote_more said start number own k n differ m old mid new run so_far ran told =
    let P : ℕ → Type 0 = λ i. RunText number (k + i) run told.0 in
    record {
      runs = so_far.runs ++ run ∷ [];
      all = length-append so_far.runs (run ∷ []) ∙ ap (λ k. k + 1) so_far.all;
      each = All-append (Ran said start own) so_far.runs (run ∷ []) so_far.each (All-cons (Ran said start own) run [] ran (All-nil (Ran said start own)));
      count = (let more = differing_more so_far.runs run in omega (arith, more, so_far.count, told.3));
      text = so_far.text ++ told.0;
      tells = texts_more number k so_far.runs so_far.text run told.0 so_far.tells (subst P (sym so_far.all) told.1);
      written = appended old mid new so_far.text told.0 so_far.written told.2;
    }

pub tight_more : (a b c : Option (List ℕ)) (x y : List ℕ) → Appends a b (tight_text x) → Appends b c (tight_text y) → Appends a c (tight_text (x ++ y))
tight_more a b c x y h g =
    let P : List ℕ → Type 0 = λ z. Appends a c z in subst P (sym (tight_append x y)) (appended a b c (tight_text x) (tight_text y) h g)
  where
    one : ℕ → List ℕ
    one n = codes "line " ++ decimal n ++ codes " tight\n"

    tight_append : (x y : List ℕ) → tight_text (x ++ y) ≡ tight_text x ++ tight_text y
    tight_append [] y = refl
    tight_append (n ∷ x) y = ap (λ z. one n ++ z) (tight_append x y) ∙ sym (append_assoc (one n) (tight_text x) (tight_text y))

pub one_differs : (run : Option Difference) → differing (run ∷ []) ≤ 1
one_differs None = omega arith
one_differs (Some d) = omega arith
