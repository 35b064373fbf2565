-- The first line in which what is told of two answers is another.
use borrow.Author.Count.{below_more}
use Rattle.std.proofs.Common.{◌≡◌, ◌≢◌, ◌∙◌, ◌+◌, ◌<◌, ℕ, zero, suc, List, [], ◌∷◌, ◌++◌, Option, None, Some, MatchOption, get_or, refl, sym, ap, subst, arith}
use Rattle.board_model.specs.{Texts.state_text, declared.durable.Durable.Durable}
use Rattle.board_model.specs.declared.console_command.ConsoleCommand.TheVariants as commands
use Rattle.machine.specs.declared.line.MachineLine.TheVariants as lines
use Rattle.report_lines.specs.{Texts.line_text, declared.printed.{Answer.Answer, Printed.Printed}}
use Rattle.report_lines.specs.declared.printed.Printed.TheVariants as printed
use Rattle.bench_schedules.specs.Told.{IsFirstApart, line_at, told_at, told_lines, told_states, told_text}
use Rattle.bench_schedules.specs.declared.told.{ToldApart.ToldApart, ToldLine.ToldLine}
use Rattle.bench_schedules.specs.declared.told.ToldLine.TheVariants as told
use lib.Chars.{codes}

-- no other line of a report begins as a line `found` does
pub found_no_line : (d : Durable) (line : Printed) → codes "found " ++ state_text d ≢ line_text line
found_no_line d printed.Formatted e = let no : 117 ≡ 114 = ap (λ t. get_or t 2 0) e in absurd (let never : ⊥ = omega (arith, no) in never)
found_no_line d (printed.FormatRefused n) e = let no : 117 ≡ 114 = ap (λ t. get_or t 2 0) e in absurd (let never : ⊥ = omega (arith, no) in never)
found_no_line d (printed.Acknowledged (commands.Slot s) n) e = let no : 102 ≡ 115 = ap (λ t. get_or t 0 0) e in absurd (let never : ⊥ = omega (arith, no) in never)
found_no_line d (printed.Acknowledged commands.Discard n) e = let no : 102 ≡ 100 = ap (λ t. get_or t 0 0) e in absurd (let never : ⊥ = omega (arith, no) in never)
found_no_line d (printed.Acknowledged (commands.Tries s b) n) e = let no : 102 ≡ 116 = ap (λ t. get_or t 0 0) e in absurd (let never : ⊥ = omega (arith, no) in never)
found_no_line d (printed.Acknowledged commands.Good n) e = let no : 102 ≡ 103 = ap (λ t. get_or t 0 0) e in absurd (let never : ⊥ = omega (arith, no) in never)
found_no_line d (printed.CommandRefused (commands.Slot s) n) e = let no : 102 ≡ 115 = ap (λ t. get_or t 0 0) e in absurd (let never : ⊥ = omega (arith, no) in never)
found_no_line d (printed.CommandRefused commands.Discard n) e = let no : 102 ≡ 100 = ap (λ t. get_or t 0 0) e in absurd (let never : ⊥ = omega (arith, no) in never)
found_no_line d (printed.CommandRefused (commands.Tries s b) n) e = let no : 102 ≡ 116 = ap (λ t. get_or t 0 0) e in absurd (let never : ⊥ = omega (arith, no) in never)
found_no_line d (printed.CommandRefused commands.Good n) e = let no : 102 ≡ 103 = ap (λ t. get_or t 0 0) e in absurd (let never : ⊥ = omega (arith, no) in never)
found_no_line d (printed.Shown (lines.Turn h k w)) e = let no : 102 ≡ 116 = ap (λ t. get_or t 0 0) e in absurd (let never : ⊥ = omega (arith, no) in never)
found_no_line d line e = absurd (let never : ⊥ = omega (arith, ap (λ t. get_or t 0 0) e) in never)

pub line_no_found : (line : Printed) (d : Durable) → line_text line ≢ codes "found " ++ state_text d
line_no_found line d e = found_no_line d line (sym e)

pub first_here : (x y : List ℕ) (xs ys : List (List ℕ)) → x ≢ y → IsFirstApart (x ∷ xs) (y ∷ ys) x y
first_here x y xs ys apart = record { before = []; own_more = xs; more = ys; here = refl; there = refl; apart = apart }

pub first_behind : (a b : List ℕ) (xs ys : List (List ℕ)) (x y : List ℕ) → a ≡ b → IsFirstApart xs ys x y → IsFirstApart (a ∷ xs) (b ∷ ys) x y
first_behind a b xs ys x y same is = record {
  before = a ∷ is.before;
  own_more = is.own_more;
  more = is.more;
  here = ap (λ z. a ∷ z) is.here;
  there = ap (λ z. b ∷ z) is.there ∙ ap (λ c. c ∷ (is.before ++ y ∷ is.more)) (sym same);
  apart = is.apart;
}

-- ---- the lines that are told, one after another
pub at_last : (d : Durable) (line : Printed) (k : ℕ) → (k ≡ 0 → ⊥) → (k ≡ 1 → ⊥) → told.Line line ≡ line_at (Some d) line k
at_last d line zero first second = absurd (first refl)
at_last d line (suc zero) first second = absurd (second refl)
at_last d line (suc (suc k)) first second = refl

-- the lines at the first n places are alike
abbrev pub AreAlike : Answer → Answer → ℕ → Type 0
AreAlike own other n = (k : ℕ) → k < n → told_text (told_at own k) ≡ told_text (told_at other k)

abbrev Alike : Option Durable → Option Durable → Printed → Printed → ℕ → Type 0
Alike f g l m n = (k : ℕ) → k < n → told_text (line_at f l k) ≡ told_text (line_at g m k)

pub all_alike : (f g : Option Durable) (l m : Printed) → Alike f g l m 3 → told_states f ++ line_text l ∷ [] ≡ told_states g ++ line_text m ∷ []
all_alike None None l m same = ap (λ t. t ∷ []) (same 0 (omega arith))
all_alike None (Some e) l m same = absurd (line_no_found l e (same 0 (omega arith)))
all_alike (Some d) None l m same = absurd (found_no_line d m (same 0 (omega arith)))
all_alike (Some d) (Some e) l m same =
    ap (λ t. t ∷ told_text (told.Image d.image) ∷ line_text l ∷ []) (same 0 (omega arith)) ∙ ap (λ t. told_text (told.Found e) ∷ t ∷ line_text l ∷ []) (same 1 (omega arith))
    ∙ ap (λ t. told_text (told.Found e) ∷ told_text (told.Image e.image) ∷ t ∷ []) (same 2 (omega arith))

-- the lines at that place are the first that are not
first_of : (f g : Option Durable) (l m : Printed) (p : ℕ) → p < 3 → Alike f g l m p → told_text (line_at f l p) ≢ told_text (line_at g m p)
    → IsFirstApart (told_states f ++ line_text l ∷ []) (told_states g ++ line_text m ∷ []) (told_text (line_at f l p)) (told_text (line_at g m p))
first_of None None l m zero few same apart = first_here (line_text l) (line_text m) [] [] apart
first_of None None l m (suc p) few same apart = absurd (apart (same 0 (omega arith)))
first_of None (Some e) l m zero few same apart = first_here (line_text l) (told_text (told.Found e)) [] (told_text (told.Image e.image) ∷ line_text m ∷ []) apart
first_of None (Some e) l m (suc p) few same apart = absurd (line_no_found l e (same 0 (omega arith)))
first_of (Some d) None l m zero few same apart = first_here (told_text (told.Found d)) (line_text m) (told_text (told.Image d.image) ∷ line_text l ∷ []) [] apart
first_of (Some d) None l m (suc p) few same apart = absurd (found_no_line d m (same 0 (omega arith)))
first_of (Some d) (Some e) l m zero few same apart =
    first_here (told_text (told.Found d)) (told_text (told.Found e)) (told_text (told.Image d.image) ∷ line_text l ∷ []) (told_text (told.Image e.image) ∷ line_text m ∷ []) apart
first_of (Some d) (Some e) l m (suc zero) few same apart =
    first_behind (told_text (told.Found d)) (told_text (told.Found e)) _ _ _ _ (same 0 (omega arith))
    (first_here (told_text (told.Image d.image)) (told_text (told.Image e.image)) (line_text l ∷ []) (line_text m ∷ []) apart)
first_of (Some d) (Some e) l m (suc (suc zero)) few same apart =
    first_behind (told_text (told.Found d)) (told_text (told.Found e)) _ _ _ _ (same 0 (omega arith))
    (first_behind (told_text (told.Image d.image)) (told_text (told.Image e.image)) _ _ _ _ (same 1 (omega arith)) (first_here (line_text l) (line_text m) [] [] apart))
first_of (Some d) (Some e) l m (suc (suc (suc p))) few same apart = absurd (let never : ⊥ = omega (arith, few) in never)

pub first_at : (own other : Answer) (p : ℕ) (x y : ToldLine) (pair : ToldApart) → p < 3 → AreAlike own other p → x ≡ told_at own p → y ≡ told_at other p
    → (pair.own ≡ x) × (pair.other ≡ y) × (told_text x ≢ told_text y) → IsFirstApart (told_lines own) (told_lines other) (told_text pair.own) (told_text pair.other)
first_at own other p x y pair few same own_is other_is is =
    let P : ToldLine → Type 0 = λ t. IsFirstApart (told_lines own) (told_lines other) (told_text t) (told_text pair.other) in
    let Q : ToldLine → Type 0 = λ t. IsFirstApart (told_lines own) (told_lines other) (told_text (told_at own p)) (told_text t) in
    let apart : told_text (told_at own p) ≢ told_text (told_at other p) = λ e. is.2 (ap told_text own_is ∙ e ∙ ap told_text (sym other_is)) in
    subst P (sym (is.0 ∙ own_is)) (subst Q (sym (is.1 ∙ other_is)) (first_of own.found other.found own.line other.line p few same apart))

-- where no pair is told, the lines are alike
pub no_pair : (found : Option ToldApart) (N : Type 0) (S : ToldApart → Type 0) → ((pair : ToldApart) → found ≡ Some pair → ⊥) → MatchOption found N S → N
no_pair None N S never m = m
no_pair (Some pair) N S never m = absurd (never pair refl)

pub one_more : (own other : Answer) (p : ℕ) (x y : ToldLine) → AreAlike own other p → x ≡ told_at own p → y ≡ told_at other p → told_text x ≡ told_text y → AreAlike own other (p + 1)
one_more own other p x y same own_is other_is is =
    below_more (λ k. told_text (told_at own k) ≡ told_text (told_at other k)) p same (ap told_text (sym own_is) ∙ is ∙ ap told_text other_is)
