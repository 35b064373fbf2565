-- What a question of the disk is answered at any point of a run in which nothing failed.
use Rattle.std.proofs.Common.{◌≡◌, ℕ, inl, inr, List, [], ◌∷◌, Option, None, Some, refl, sym, ◌∙◌, ap, subst}
use Rattle.board_model.specs.{Kept.Kept, Shapes.Size}
use Rattle.script_lang.specs.Scripts.{Script}
use Rattle.report_lines.specs.declared.printed.Answer.{Answer}
use Rattle.report_lines.specs.declared.printed.Printed.TheVariants as printed
use Rattle.bench_report.specs.{Bench.{DiskState, BenchLife, Bench, IsFailureFree, IsClean, bench_with}, Deeds.OfDisk, Happens.says}
use Rattle.bench_report.specs.{Examined.{InspectsOn, InspectStep}, Steps.DeedMoves, Reports.{AreByFirmware, IsReportWith}}
use Rattle.bench_report.proofs.{Determined.{HasFailed, IsCalm, starves, hinders}, Inspected.{ContentLaws, said_of, clean_or, clean_tells}}
use Rattle.bench_report.proofs.Single.{moves_fair, struck_fails, run_fair, clean}
use Rattle.bench_report.specs.Deeds as deeds

-- by the power
abbrev pub said_by : Option BenchLife → DiskState → Kept → Answer
said_by None disk_state kept = says (said_of disk_state kept)
said_by (Some life) disk_state kept = says printed.Busy

-- on a calm bench that is not spoilt after it
module _ (laws : ContentLaws) (size : Size) (b : Bench) (a : Answer) (new : Bench) (never : HasFailed new → ⊥) (calm : IsCalm b) (moved : DeedMoves size (deeds.Ask OfDisk) b a new) where
  is_clean : IsClean b
  is_clean = elim (clean_or b b.growths b.failures refl refl calm.2) [ inl failed ↦ absurd (never ((moves_fair size (deeds.Ask OfDisk) b a new tt moved).0 failed)) | inr clean ↦ clean ]

  abbrev Said : Answer → Type 0
  Said answer = (a ≡ answer) × (new ≡ b)

  of_disk : InspectsOn size b a new → Said (says (said_of b.disk_state b.kept))
  of_disk (inl (c, reads, inl (line, tells, e, is))) = (e ∙ ap says (clean_tells laws size b c line is_clean calm reads tells), is)
  of_disk (inl (c, reads, inr x)) = absurd (never (starves b new x.2))
  of_disk (inr x) = absurd (never (hinders b new x.1))

  at_power : (p : Option BenchLife) → InspectStep size p b a new → Said (said_by p b.disk_state b.kept)
  at_power None x = of_disk x
  at_power (Some life) x = x

  by_move : DeedMoves size (deeds.Ask OfDisk) b a new → Said (said_by b.power b.disk_state b.kept)
  by_move (inl x) = at_power b.power x.0
  by_move (inr (would, mid, x, struck, e, is)) =
      let P : Bench → Type 0 = HasFailed in
      absurd (never (subst P (sym is) (inr (struck_fails size (deeds.Ask OfDisk) b would mid tt calm x struck))))

  pub said : Said (said_by b.power b.disk_state b.kept)
  said = by_move moved

pub said_so : ContentLaws → (payloads : List (List ℕ)) (script : Script) (answers : List Answer) (b : Bench) → AreByFirmware script.lines → IsReportWith payloads script answers b → b.power ≡ None → (a : Answer) (new : Bench) → DeedMoves script.size (deeds.Ask OfDisk) b a new → IsFailureFree new
    → (a ≡ says (said_of b.disk_state b.kept)) × (new ≡ b)
said_so laws payloads script [] b by h off a new moved free = absurd h
said_so laws payloads script (board ∷ answers) b by h off a new moved free =
    let P : Option BenchLife → Type 0 = λ p. (a ≡ said_by p b.disk_state b.kept) × (new ≡ b) in
    elim ((run_fair script.size script.lines (bench_with payloads) answers b by h.1).1 (tt, refl, refl)) [
      | inl spoilt ↦ clean new free ((moves_fair script.size (deeds.Ask OfDisk) b a new tt moved).0 (inr spoilt))
      | inr calm ↦ subst P off (said laws script.size b a new (λ failed. clean new free failed) calm moved)
    ]
