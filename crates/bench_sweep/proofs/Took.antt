-- Disks on which lines were run one after another.
use Rattle.std.proofs.Common.{◌≡◌, ◌<◌, ◌+◌, ◌∷◌, ◌++◌, [], ℕ, List, length, take, get_or, refl, sym, ◌∙◌, ap, subst}
use Rattle.std.proofs.lemmas.List.{take_more}
use Rattle.board_model.specs.Shapes.{Size}
use Rattle.simdisk.specs.declared.SimDisk.{SimDisk}
use Rattle.script_lang.specs.declared.line.Line.{Line}
use Rattle.bench_report.specs.{Agree.HasDisk, Bench.Bench, declared.power.Power.{Power, TheVariants.{Off, On}}}
use Rattle.bench_sweep.specs.{declared.site.Going.Going, Lines.LineMoves, Runs.RunsCalm}
use Rattle.bench_sweep.specs.Took.{CountsAlike, LineTook, RunTook, disk_at, own_disk}

-- ---- the disk of a board
pub has_disk : (power : Power) → HasDisk power (disk_at power)
has_disk (Off off) = refl
has_disk (On board) = refl

pub disk_is : (power : Power) (disk : SimDisk) → HasDisk power disk → disk ≡ disk_at power
disk_is (Off off) disk has = has
disk_is (On board) disk has = has

-- ---- lines
-- a line's step was made
pub moved_took : (size : Size) (line : Line) (b : Bench) (old new : Going) → RunsCalm size b old → LineMoves size line b old new → LineTook size line (own_disk old) (own_disk new)
moved_took size line b old new r m =
    (b, m.bench, m.does.0, (old.bench.power, r.agrees, has_disk old.bench.power), m.does.1, (new.bench.power, m.runs.agrees, has_disk new.bench.power))

-- from a disk that has counted the same
pub took_since : (size : Size) (lines : List Line) (old mid new : SimDisk) → CountsAlike old mid → RunTook size lines mid new → RunTook size lines old new
took_since size [] old mid new alike took = λ caller. took caller ∙ alike caller
took_since size (line ∷ more) old mid new alike took = (took.0, took.1, (λ caller. took.2 caller ∙ alike caller), took.3, took.4)

-- some lines, and then others
pub took_both : (size : Size) (xs ys : List Line) (old mid new : SimDisk) → RunTook size xs old mid → RunTook size ys mid new → RunTook size (xs ++ ys) old new
took_both size [] ys old mid new first second = took_since size ys old mid new first second
took_both size (x ∷ xs) ys old mid new first second = (first.0, first.1, first.2, first.3, took_both size xs ys first.1 mid new first.4 second)

-- one line more
pub took_more : (size : Size) (lines : List Line) (i : ℕ) (line d : Line) (old mid new : SimDisk) → i < length lines → line ≡ get_or lines i d → RunTook size (take i lines) old mid → LineTook size line mid new → RunTook size (take (i + 1) lines) old new
took_more size lines i line d old mid new less is so_far took =
    let L : List Line → Type 0 = λ ls. RunTook size ls old new in
    let more : take i lines ++ line ∷ [] ≡ take (i + 1) lines = ap (λ (l : Line). take i lines ++ l ∷ []) is ∙ sym (take_more lines i d less) in
    subst L more (took_both size (take i lines) (line ∷ []) old mid new so_far (mid, new, (λ caller. refl), took, (λ caller. refl)))
