-- The place of the k-th line that is no turn.
use Rattle.std.proofs.Common.{◌≡◌, ℕ, suc, ◌+◌, true, false, List, ◌∷◌, refl}
use Rattle.script_lang.specs.declared.line.Line.{Line}
use Rattle.script_lang.specs.declared.line.Line.TheVariants as lines
use Rattle.bench_schedules.specs.{Orders.is_other, Numbers.place_of_other}

pub place_here : (line : Line) (more : List Line) → is_other line ≡ true → place_of_other 0 (line ∷ more) ≡ 0
place_here (lines.Turn h n) more other = absurd (let no : ⊥ = cc in no)
place_here line more other = refl

pub place_turn : (k : ℕ) (line : Line) (more : List Line) → is_other line ≡ false → place_of_other k (line ∷ more) ≡ 1 + place_of_other k more
place_turn k (lines.Turn h n) more turns = refl
place_turn k line more turns = absurd (let never : ⊥ = cc in never)

pub place_next : (k : ℕ) (line : Line) (more : List Line) → is_other line ≡ true → place_of_other (suc k) (line ∷ more) ≡ 1 + place_of_other k more
place_next k (lines.Turn h n) more other = absurd (let no : ⊥ = cc in no)
place_next k line more other = refl
