-- One turn more of a row, and how that goes on.
use Rattle.std.proofs.Common.{◌≡◌, ◌<◌, ◌≤◌, ◌+◌, ◌^◌, inl, inr, ◌∙◌, ℕ, Bool, true, false, not, true≢false, List, Option, None, refl, sym, ap, subst, arith}
use Rattle.sbi.specs.Words.{ends}
use Rattle.machine.specs.Machine.{Machine}
use Rattle.bench_report.specs.{declared.rows.TurnRow.TurnRow, Rows.{IsOpenRow, IsWithin, goes_on, is_idle_row, made_in, row_then}}
use Rattle.bench_report.specs.declared.rows.TurnRow.TheVariants as rows
use Rattle.debug_session.specs.Lives.{HasHalted, pc_in, stands_in}
use Rattle.debug_session.specs.declared.to_points.Next.TheVariants as nexts

pub rests_halts : nexts.Rests ≡ nexts.Halts → ⊥
rests_halts e = let no : ⊥ = cc in no

pub rests_goes : nexts.Rests ≡ nexts.Goes → ⊥
rests_goes e = let no : ⊥ = cc in no

pub halts_rests : nexts.Halts ≡ nexts.Rests → ⊥
halts_rests e = let no : ⊥ = cc in no

pub halts_goes : nexts.Halts ≡ nexts.Goes → ⊥
halts_goes e = let no : ⊥ = cc in no

pub goes_rests : nexts.Goes ≡ nexts.Rests → ⊥
goes_rests e = let no : ⊥ = cc in no

pub goes_halts : nexts.Goes ≡ nexts.Halts → ⊥
goes_halts e = let no : ⊥ = cc in no

-- a row with one turn more
pub then_fits : (row next : TurnRow) → made_in row < 1000000 → IsWithin 1 next → made_in row + made_in next < 2 ^ 32
then_fits row rows.Off few one = omega (arith, few)
then_fits row (rows.Made n word) few one = omega (arith, few, one)
then_fits row (rows.Lost n) few one = omega (arith, few, one)

pub then_within : (row next all : TurnRow) → all ≡ row_then row next → IsWithin 1 next → (most : ℕ) → made_in row < most → IsWithin most row → IsWithin most all
then_within row rows.Off all is one most less within = subst (IsWithin most) (sym is) within
then_within row (rows.Made n word) all is one most less within =
    let some : rows.Made (made_in row + n) word ≡ all = sym is in
    subst (IsWithin most) some (omega (arith, one), omega (arith, one, less))
then_within row (rows.Lost n) all is one most less within =
    let some : rows.Lost (made_in row + n) ≡ all = sym is in
    subst (IsWithin most) some (omega (arith, one), omega (arith, one, less))

pub then_busy : (row next all : TurnRow) → all ≡ row_then row next → is_idle_row row ≡ false → is_idle_row next ≡ false → is_idle_row all ≡ false
then_busy row rows.Off all is had busy = ap is_idle_row is ∙ had
then_busy row (rows.Made n word) all is had busy = ap is_idle_row is ∙ busy
then_busy row (rows.Lost n) all is had busy = ap is_idle_row is

open_by : (b : Bool) → not b ≡ true → b ≡ false
open_by true e = sym e
open_by false e = refl

pub then_goes : (row next all : TurnRow) → all ≡ row_then row next → goes_on next ≡ true → IsWithin 1 next → IsOpenRow all × (made_in all ≡ made_in row + 1)
then_goes row rows.Off all is goes one = absurd (true≢false (sym goes))
then_goes row (rows.Made n word) all is goes one =
    let P : TurnRow → Type 0 = λ r. IsOpenRow r × (made_in r ≡ made_in row + 1) in
    subst P (sym is) (open_by (ends word) goes, omega (arith, one))
then_goes row (rows.Lost n) all is goes one = absurd (true≢false (sym goes))

-- why it halts
pub then_ended : (h : ℕ) (points : List ℕ) (row next all : TurnRow) (m : Option Machine) → all ≡ row_then row next → goes_on next ≡ false → (next ≡ rows.Off → pc_in h m ≡ None) → HasHalted h points all m
then_ended h points row rows.Off all m is ended off = inr (off refl)
then_ended h points row (rows.Made n word) all m is ended off =
    subst (λ (x : TurnRow). HasHalted h points x m) (sym is) (inl (refl, inl ended))
then_ended h points row (rows.Lost n) all m is ended off =
    subst (λ (x : TurnRow). HasHalted h points x m) (sym is) (inl (refl, inl refl))

pub then_stands : (h : ℕ) (points : List ℕ) (row next all : TurnRow) (m : Option Machine) → all ≡ row_then row next → goes_on next ≡ true → stands_in points (pc_in h m) ≡ true → HasHalted h points all m
then_stands h points row rows.Off all m is goes stands = absurd (true≢false (sym goes))
then_stands h points row (rows.Made n word) all m is goes stands =
    subst (λ (x : TurnRow). HasHalted h points x m) (sym is) (inl (refl, inr stands))
then_stands h points row (rows.Lost n) all m is goes stands = absurd (true≢false (sym goes))

-- as many as may be made
pub all_made : (most made : ℕ) (row : TurnRow) → made ≡ made_in row → most ≤ made → IsWithin most row → made_in row ≡ most
all_made most made rows.Off is all within = omega (arith, is, all)
all_made most made (rows.Made n word) is all within = omega (arith, is, all, within)
all_made most made (rows.Lost n) is all within = omega (arith, is, all, within)
