-- Lines that make no turns, and lines noted one after another.
use Rattle.std.{proofs.Common.{◌≡◌, ◌<◌, ◌+◌, ℕ, List, [], ◌∷◌, ◌++◌, length, take, get_or, refl, sym, subst}, specs.Prelude.All}
use Rattle.std.proofs.lemmas.List.{take_more, Elements.{All-append, All-cons, All-nil}}
use Rattle.script_lang.specs.declared.line.Line.{Line}
use Rattle.script_lang.specs.declared.line.Line.TheVariants as lines
use Rattle.report_lines.specs.declared.printed.Answer.{Answer}
use Rattle.debug_session.specs.{Ats.IsNoted, Steps.{AreNoted, MakesNone}}

pub makes_none : (line : Line) → ((h n : ℕ) → line ≡ lines.Turn h n → ⊥) → MakesNone line
makes_none (lines.Turn h n) not = absurd (not h n refl)
makes_none line not = tt

pub more_none : (xs : List Line) (i : ℕ) (d : Line) → i < length xs → All MakesNone (take i xs) → MakesNone (get_or xs i d) → All MakesNone (take (i + 1) xs)
more_none xs i d less all none =
    let P : List Line → Type 0 = λ ys. All MakesNone ys in
    subst P (sym (take_more xs i d less)) (All-append MakesNone (take i xs) (get_or xs i d ∷ []) all (All-cons MakesNone (get_or xs i d) [] none (All-nil MakesNone)))

-- one line more
pub noted_more : (xs : List Line) (line : Line) (answer : Answer) (old mid new : List Line) → AreNoted xs old mid → IsNoted line answer mid new → AreNoted (xs ++ line ∷ []) old new
noted_more [] line answer old mid new noted is =
    let P : List Line → Type 0 = λ past. IsNoted line answer past new in
    (answer, new, subst P noted is, refl)
noted_more (x ∷ xs) line answer old mid new (said, next, first, more) is = (said, next, first, noted_more xs line answer next mid new more is)
