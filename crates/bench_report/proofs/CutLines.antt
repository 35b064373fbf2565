-- A line between two lines: as it was run, or cut within.
use Rattle.std.proofs.Common.{◌≡◌, ◌∙◌, true, false, ℕ, List, inl, inr, Ok, refl, sym, subst}
use Rattle.board_model.specs.Shapes.{Size}
use Rattle.script_lang.specs.declared.line.Line.{Line}
use Rattle.simdisk.specs.declared.{SimDisk.SimDisk, fill.Fill.Fill}
use Rattle.bench_report.specs.{Agree.{Agrees, HasDisk, IsBench, IsCutBy, Matches}, Bench.Bench, Happens.{says, unpowered}, Steps.{Moves, Step}}
use Rattle.bench_report.{specs.{Lives.LineDid, Uncut.LineLeft, declared.power.Power.Power}, proofs.Armed.{unstruck_arming, unstruck_cut, unstruck_poke}}
use Rattle.report_lines.specs.declared.printed.Answer.{Answer}
use Rattle.report_lines.specs.declared.printed.Printed.TheVariants as printed

-- As far as no armed cut strikes the line said `would`, and left `mid` with these payloads. Between the two lines stands `left`, with `now`.
module _ (size : Size) (line : Line) (b : Bench) (would : Answer) (mid left : Power) (slots now : List (List ℕ)) (same : now ≡ slots) where
  -- none had struck
  module _ (kept : left ≡ mid) (calm : (x : Bench) → Agrees size x mid → x.fault_state.struck ≡ false) where
    pub ran_whole : (x : Bench) → Step size line b would x → Matches size x mid slots → Moves size line b would x × IsBench size x left now
    ran_whole x step matches =
        let P : Power → Type 0 = λ p. Agrees size x p in
        let quiet = calm x matches.0 in
        (inl (step, quiet), (subst P (sym kept) matches.0, same ∙ matches.1, quiet))

    pub did_whole : (fill : Fill) (before : Power) → LineLeft line would before mid → (x : Bench) → Step size line b would x → Matches size x mid slots → LineDid size line fill b would before left
    did_whole fill before did x step matches =
        let P : Power → Type 0 = λ p. LineLeft line would before p in
        let at = subst P (sym kept) did in
        (inl (x, step, calm x matches.0), at.0, at.1, at.2, inr at.3)

  -- one had, and power was taken; it strikes within no line that arms one, cuts power or writes past the firmware
  module _ (answer : Answer) (is : answer ≡ says printed.PowerLost) (hit : (x : Bench) → Agrees size x mid → x.fault_state.struck ≡ true) where
    pub ran_lost : ((x : Bench) → Agrees size x mid → Agrees size (unpowered x) left) → (x : Bench) → Step size line b would x → Matches size x mid slots → Moves size line b answer (unpowered x) × IsBench size (unpowered x) left now
    ran_lost cuts x step matches = (inr (would, x, step, hit x matches.0, is, refl), (cuts x matches.0, same ∙ matches.1, refl))

    pub did_lost : (fill : Fill) (before : Power) (disk : SimDisk) → HasDisk mid disk → IsCutBy fill disk left → b.fault_state.struck ≡ false → (x : Bench) → Step size line b would x → Matches size x mid slots → LineDid size line fill b answer before left
    did_lost fill before disk has by calm x step matches =
        let struck = hit x matches.0 in (
          inr (would, x, mid, disk, step, struck, matches.0, has, by),
          unstruck_arming size line b would x left step calm struck,
          unstruck_cut size line b would x before left step struck,
          unstruck_poke size line b would x before left (Ok answer) step calm struck,
          inl is,
        )
