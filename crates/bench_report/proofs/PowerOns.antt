-- Power-ons at any point of a run.
use Rattle.std.proofs.Common.{◌≡◌, ◌≢◌, ◌⊎◌, ℕ, zero, suc, inl, inr, List, [], ◌∷◌, ◌++◌, Option, None, Some, Result, Ok, Err, refl, sym, ◌∙◌, ap, subst, arith}
use Rattle.board_model.specs.{Durable.{DurableState, Image, Change, Suspend, Consume, formatted, refusal_of, after, fold}, Shapes.Size}
use Rattle.board_model.{proofs.Steps.{ByImage, Made, Dropped, Left, by_image, left_image}, specs.Views.durable_of}
use Rattle.board_model.specs.{Kept.{Kept, MayKeep, MayFind, TakesIn, found_of}, declared.durable.Durable.Durable}
use Rattle.board_model.specs.declared.boot_mode.BootMode.{BootMode}
use Rattle.board_model.specs.declared.boot_mode.BootMode.TheVariants as modes
use Rattle.board.specs.Boots.{boot_refusal}
use Rattle.script_lang.specs.Scripts.{Script}
use Rattle.script_lang.specs.declared.line.Line.TheVariants as lines
use Rattle.report_lines.specs.declared.printed.{Answer.Answer, Printed.Printed}
use Rattle.report_lines.specs.declared.printed.Printed.TheVariants as printed
use Rattle.bench_report.specs.Bench.{DiskState, Blank, Unknown, Formatted, BenchLife, Bench, IsFailureFree, bench_with}
use Rattle.bench_report.specs.{Happens.{says, on_with, settled, has_machine, acknowledged}, Commands.{Writes, Issued, IssuesAll}}
use Rattle.bench_report.specs.PowerOns.{life_begun, ShowsFound, IsBooted, BootsFrom, Resumes, Boots, Opens, IsOpenRefusal, PowersOn}
use Rattle.bench_report.specs.{Steps.{OnStep, Moves}, Reports.{AreByFirmware, IsReportWith}, Resumes.{IsMadeIn, IsResumedFrom}}
use Rattle.bench_report.proofs.Determined.{HasFailed, CalmDisk, found_as, starves, hinders, some_inj}
use Rattle.bench_report.proofs.Single.{run_fair, clean, moves_fair}
use Rattle.bench_report.specs.Deeds as deeds

-- ---- the suspension that made an image
abbrev MadeSince : DurableState → List Change → Image → Type 0
MadeSince s cs i = (before later : List Change) × (cs ≡ before ++ Suspend i.hart i.address i.opaque i.memory ∷ later) × (i.serial ≡ (fold s before).next)

made_by : (s : DurableState) (c : Change) (cs : List Change) (i : Image) → ByImage c → (after s c).image ≡ Some i → (s.image ≡ Some i) ⊎ MadeSince s (c ∷ cs) i
made_by s c cs i (Made h a o m) e =
    let it : Image = record { serial = s.next; hart = h; address = a; opaque = o; memory = m } in
    let same : i ≡ it = (let f : i ≡ it = cc in f) in
    let P : Image → Type 0 = λ j. (◌≡◌ {A = List Change} (Suspend h a o m ∷ cs) (Suspend j.hart j.address j.opaque j.memory ∷ cs)) × (j.serial ≡ s.next) in
    let at : P i = subst P (sym same) (refl, refl) in
    inr ([], cs, at.0, at.1)
made_by s c cs i (Dropped step drops) e =
    let none : ◌≡◌ {A = Option Image} None (Some i) = sym (ap (λ (x : DurableState). x.image) (drops s)) ∙ e in
    absurd (let no : ⊥ = cc in no)
made_by s c cs i (Left leaves) e = inl (sym (left_image c leaves s) ∙ e)

made_at : (s : DurableState) (c : Change) (cs : List Change) (i : Image) → (after s c).image ≡ Some i → (s.image ≡ Some i) ⊎ MadeSince s (c ∷ cs) i
made_at s c cs i e = made_by s c cs i (by_image c) e

made_since : (s : DurableState) (cs : List Change) (i : Image) → (fold s cs).image ≡ Some i → (s.image ≡ Some i) ⊎ MadeSince s cs i
made_since s [] i e = inl e
made_since s (c ∷ cs) i e = by_rest (made_since (after s c) cs i e)
  where
    by_rest : ((after s c).image ≡ Some i) ⊎ MadeSince (after s c) cs i → (s.image ≡ Some i) ⊎ MadeSince s (c ∷ cs) i
    by_rest (inl first) = made_at s c cs i first
    by_rest (inr (before, later, is, serial)) = inr (c ∷ before, later, ap (λ xs. c ∷ xs) is, serial)

made_in : (changes : List Change) (i : Image) → (found_of changes).image ≡ Some i → IsMadeIn i changes
made_in changes i e = by_made (made_since formatted changes i e)
  where
    by_made : (formatted.image ≡ Some i) ⊎ MadeSince formatted changes i → IsMadeIn i changes
    by_made (inl no_image) = absurd (let no : ⊥ = cc in no)
    by_made (inr (before, later, is, serial)) = record { before = before; later = later; suspended = is; serial = serial }

-- ---- a line that says another word than `on resume`
other : {A : Type 0} (x y : Printed) → x ≡ y → y ≢ printed.On modes.Resume → x ≡ printed.On modes.Resume → A
other x y e differs is = absurd (differs (sym e ∙ is))

said : {A : Type 0} (a : Answer) (y : Printed) → a ≡ says y → y ≢ printed.On modes.Resume → a.line ≡ printed.On modes.Resume → A
said a y e differs is = other a.line y (ap (λ (x : Answer). x.line) e) differs is

-- ---- the command of the resume
one_writes : (c : Change) (life : BenchLife) (b : Bench) (o : Result ℕ ℕ) (new : Bench) (n : ℕ) → o ≡ Ok n → (r : Option ℕ) → Writes r c life b o new → new ≡ acknowledged c life b
one_writes c life b o new n ok (Some k) w = absurd (let g : ◌≡◌ {A = Result ℕ ℕ} (Ok n) (Err k) = sym ok ∙ w.0 in let no : ⊥ = cc in no)
one_writes c life b o new n ok None (inl w) = w.1
one_writes c life b o new n ok None (inr (inl w)) = absurd (let g : ◌≡◌ {A = Result ℕ ℕ} (Ok n) (Err 5) = sym ok ∙ w.0 in let no : ⊥ = cc in no)
one_writes c life b o new n ok None (inr (inr w)) = absurd (let g : ◌≡◌ {A = Result ℕ ℕ} (Ok n) (Err 6) = sym ok ∙ w.0 in let no : ⊥ = cc in no)

one_issued : (c : Change) (s : DurableState) (z : Size) (b : Bench) (o : Result ℕ ℕ) (new : Bench) (n : ℕ) → o ≡ Ok n → Issued c (life_begun s z) b o new → new ≡ acknowledged c (life_begun s z) b
one_issued c s z b o new n ok (inl i) = absurd (let g : ◌≡◌ {A = Result ℕ ℕ} (Ok n) (Err 10) = sym ok ∙ i.1 in let no : ⊥ = cc in no)
one_issued c s z b o new n ok (inr i) = one_writes c (life_begun s z) b o new n ok (refusal_of s c) i.1

one_command : (c : Change) (s : DurableState) (z : Size) (b : Bench) (n : ℕ) (mid : Bench) → IssuesAll (c ∷ []) (on_with (life_begun s z) b) (Ok n) mid → mid ≡ acknowledged c (life_begun s z) (on_with (life_begun s z) b)
one_command c s z b n mid (life, on, first, last, i, inl (k, ok, rest)) =
    let start : Bench = on_with (life_begun s z) b in
    let L : BenchLife → Type 0 = λ l. Issued c l start first last in
    rest.1 ∙ one_issued c s z start first last k ok (subst L (some_inj (life_begun s z) life start.power refl on) i)
one_command c s z b n mid (life, on, first, last, i, inr (k, err, same, e)) = absurd (let no : ⊥ = cc in no)

-- ---- the board that is resumed
module _ (size : Size) (b : Bench) (a : Answer) (new : Bench) (changes : List Change) (may : MayKeep b.kept changes) (found : a.found ≡ Some (durable_of (found_of changes))) where
  resumes_ok : (n : ℕ) (mid : Bench) → mid ≡ acknowledged Consume (life_begun (found_of changes) size) (on_with (life_begun (found_of changes) size) (settled changes b)) → IsBooted (Ok n) modes.Resume size (found_of changes) mid a.line new
      → IsResumedFrom size b a new
  resumes_ok n mid e (life, on, line, m, is, made) = record {
    changes = changes;
    may = may;
    found = found;
    image = is.image;
    stands = is.stands;
    made = made_in changes is.image is.stands;
    hart = is.hart;
    life = has_machine m life;
    on = ap (λ (x : Bench). x.power) made;
    machine = is.is;
    consumed = ap (λ (x : Bench). x.kept) made ∙ ap (λ (x : Bench). x.kept) e;
  }

  starts : a.line ≡ printed.On modes.Resume → BootsFrom modes.Resume size (found_of changes) (settled changes b) a.line new → IsResumedFrom size b a new
  starts line (Ok n, mid, all, on) = resumes_ok n mid (one_command Consume (found_of changes) size (settled changes b) n mid all) on
  starts line (Err n, mid, all, on) = other a.line (printed.OnRefused n) on.0 (λ f. (let no : ⊥ = cc in no)) line

  resumes : a.line ≡ printed.On modes.Resume → Resumes size (found_of changes) (settled changes b) a.line new → IsResumedFrom size b a new
  resumes line (inl x) = starts line x
  resumes line (inr x) = other a.line (printed.OnRefused 13) x.1 (λ f. (let no : ⊥ = cc in no)) line

  boots : (r : Option ℕ) → a.line ≡ printed.On modes.Resume → Boots r modes.Resume size (found_of changes) (settled changes b) a.line new → IsResumedFrom size b a new
  boots None line (inl x) = resumes line x.1
  boots None line (inr (inl x)) = other a.line (printed.OnRefused 3) x.1 (λ f. (let no : ⊥ = cc in no)) line
  boots None line (inr (inr x)) = other a.line (printed.OnRefused 11) x.1 (λ f. (let no : ⊥ = cc in no)) line
  boots (Some n) line x = other a.line (printed.OnRefused n) x.0 (λ f. (let no : ⊥ = cc in no)) line

opens : (size : Size) (m : DiskState) (b : Bench) (a : Answer) (new mid : Bench) (s : DurableState) (z : Size) → b.disk_state ≡ m → b.disk_state ≡ Formatted → Opens size m b s z mid → ShowsFound a.found s → a.line ≡ printed.On modes.Resume
    → Boots (boot_refusal s modes.Resume) modes.Resume z s mid a.line new → IsResumedFrom size b a new
opens size Blank b a new mid s z at disk_state h shows line boot = absurd h
opens size Unknown b a new mid s z at disk_state h shows line boot = absurd (let e : Unknown ≡ Formatted = sym at ∙ disk_state in let no : ⊥ = cc in no)
opens size Formatted b a new mid s z at disk_state (changes, may, is, sized, e) shows line boot =
    let P : DurableState → Type 0 = λ x. Boots (boot_refusal x modes.Resume) modes.Resume z x mid a.line new in
    let Z : Size → Type 0 = λ y. Boots (boot_refusal (found_of changes) modes.Resume) modes.Resume y (found_of changes) mid a.line new in
    let Q : Bench → Type 0 = λ x. Boots (boot_refusal (found_of changes) modes.Resume) modes.Resume size (found_of changes) x a.line new in
    boots size b a new changes may (found_as a.found s shows ∙ ap (λ x. Some (durable_of x)) is) (boot_refusal (found_of changes) modes.Resume) line (subst Q e (subst Z sized (subst P is boot)))

powers : (size : Size) (b : Bench) (a : Answer) (new : Bench) → b.disk_state ≡ Formatted → a.line ≡ printed.On modes.Resume → PowersOn size modes.Resume b a new → IsResumedFrom size b a new
powers size b a new disk_state line (inl (s, z, mid, found, shows, boot)) = opens size b.disk_state b a new mid s z refl disk_state found shows line boot
powers size b a new disk_state line (inr (inl h)) = said a (printed.OnRefused h.0) h.2 (λ f. (let no : ⊥ = cc in no)) line
powers size b a new disk_state line (inr (inr (inl h))) = said a (printed.OnRefused 11) h.1 (λ f. (let no : ⊥ = cc in no)) line
powers size b a new disk_state line (inr (inr (inr h))) = said a (printed.OnRefused 5) h.0 (λ f. (let no : ⊥ = cc in no)) line

on_at : (size : Size) (p : Option BenchLife) (b : Bench) (a : Answer) (new : Bench) → b.disk_state ≡ Formatted → a.line ≡ printed.On modes.Resume → OnStep size p modes.Resume b a new → IsResumedFrom size b a new
on_at size None b a new disk_state line h = powers size b a new disk_state line h
on_at size (Some life) b a new disk_state line h = said a printed.Busy h.0 (λ f. (let no : ⊥ = cc in no)) line

pub resumed_from : (size : Size) (b : Bench) (a : Answer) (new : Bench) → b.disk_state ≡ Formatted → Moves size (lines.On modes.Resume) b a new → a.line ≡ printed.On modes.Resume → IsResumedFrom size b a new
resumed_from size b a new disk_state (inl h) line = on_at size b.power b a new disk_state line h.0
resumed_from size b a new disk_state (inr (would, mid, h, struck, e, is)) line = said a printed.PowerLost e (λ f. (let no : ⊥ = cc in no)) line

-- ---- without failures
-- nothing is in doubt on the formatted disk of a run in which memory was never refused and no failure was
-- answered
pub sure : (payloads : List (List ℕ)) (script : Script) (answers : List Answer) (b : Bench) → AreByFirmware script.lines → IsReportWith payloads script answers b → IsFailureFree b → b.disk_state ≡ Formatted → b.kept.doubt ≡ None
sure payloads script [] b by h failure_free_bench disk_state = absurd h
sure payloads script (board ∷ answers) b by h failure_free_bench disk_state =
    let P : DiskState → Type 0 = λ m. CalmDisk m b.kept.doubt in
    elim ((run_fair script.size script.lines (bench_with payloads) answers b by h.1).1 (tt, refl, refl)) [ inl spoilt ↦ clean b failure_free_bench (inr spoilt) | inr calm ↦ subst P disk_state calm.0 ]

kept_as : (k : Kept) (changes : List Change) → k.doubt ≡ None → MayKeep k changes → changes ≡ k.changes
kept_as k changes calm (inl e) = e
kept_as k changes calm (inr t) = let P : Option Change → Type 0 = λ d. TakesIn d k.changes changes in absurd (subst P calm t)

opens_sure : (size : Size) (m : DiskState) (b : Bench) (s : DurableState) (z : Size) (mid : Bench) → b.disk_state ≡ m → b.disk_state ≡ Formatted → b.kept.doubt ≡ None → Opens size m b s z mid → s ≡ found_of b.kept.changes
opens_sure size Blank b s z mid at disk_state calm h = absurd h
opens_sure size Unknown b s z mid at disk_state calm h = absurd (let e : Unknown ≡ Formatted = sym at ∙ disk_state in let no : ⊥ = cc in no)
opens_sure size Formatted b s z mid at disk_state calm (changes, may, is, sized, e) = is ∙ ap found_of (kept_as b.kept changes calm may)

powers_sure : (size : Size) (mode : BootMode) (b : Bench) (a : Answer) (new : Bench) → b.disk_state ≡ Formatted → b.kept.doubt ≡ None → IsFailureFree new → PowersOn size mode b a new → a.found ≡ Some (durable_of (found_of b.kept.changes))
powers_sure size mode b a new disk_state calm failure_free_bench (inl (s, z, mid, found, shows, boot)) = found_as a.found s shows ∙ ap (λ x. Some (durable_of x)) (opens_sure size b.disk_state b s z mid refl disk_state calm found)
powers_sure size mode b a new disk_state calm failure_free_bench (inr (inl h)) = let P : DiskState → Type 0 = λ m. IsOpenRefusal m h.0 in absurd (subst P disk_state h.1)
powers_sure size mode b a new disk_state calm failure_free_bench (inr (inr (inl h))) = clean new failure_free_bench (starves b new h.2)
powers_sure size mode b a new disk_state calm failure_free_bench (inr (inr (inr h))) = clean new failure_free_bench (hinders b new h.1)

spoilt_before : (b : Bench) → IsFailureFree b ⊎ HasFailed b
spoilt_before b = by_counts b.growths b.failures refl refl
  where
    by_counts : (g f : ℕ) → b.growths ≡ g → b.failures ≡ f → IsFailureFree b ⊎ HasFailed b
    by_counts zero zero e h = inl (e, h)
    by_counts (suc n) f e h = inr (inl (omega (arith, e)))
    by_counts zero (suc n) e h = inr (inr (omega (arith, h)))

pub finds_all : (payloads : List (List ℕ)) (script : Script) (answers : List Answer) (b : Bench) (mode : BootMode) (a : Answer) (new : Bench) → AreByFirmware script.lines → IsReportWith payloads script answers b → b.disk_state ≡ Formatted → b.power ≡ None → Moves script.size (lines.On mode) b a new
    → a.line ≢ printed.PowerLost → IsFailureFree new → a.found ≡ Some (durable_of (found_of b.kept.changes))
finds_all payloads script answers b mode a new by h disk_state none (inl move) lost failure_free_bench =
    let P : Option BenchLife → Type 0 = λ p. OnStep script.size p mode b a new in
    elim (spoilt_before b) [
      | inl was ↦ powers_sure script.size mode b a new disk_state (sure payloads script answers b by h was disk_state) failure_free_bench (subst P none move.0)
      | inr spoilt ↦ clean new failure_free_bench ((moves_fair script.size (deeds.PowerOn mode) b a new tt (inl move)).0 spoilt)
    ]
finds_all payloads script answers b mode a new by h disk_state none (inr (would, mid, step, struck, e, is)) lost failure_free_bench = absurd (lost (ap (λ (x : Answer). x.line) e))

-- ---- what any open finds
untold : {A : Type 0} (a : Answer) (line : Printed) (d : Durable) → a ≡ says line → a.found ≡ Some d → A
untold a line d e reported = let g : ◌≡◌ {A = Option Durable} None (Some d) = ap (λ (x : Answer). x.found) (sym e) ∙ reported in absurd (let no : ⊥ = cc in no)

powers_find : (size : Size) (mode : BootMode) (b : Bench) (a : Answer) (new : Bench) (d : Durable) → b.disk_state ≡ Formatted → PowersOn size mode b a new → a.found ≡ Some d → (s : DurableState) × MayFind b.kept s × (d ≡ durable_of s)
powers_find size mode b a new d disk_state (inl (s, z, mid, found, shows, boot)) reported = (s, opens_find b.disk_state refl found, shown (found_as a.found s shows))
  where
    opens_find : (m : DiskState) → b.disk_state ≡ m → Opens size m b s z mid → MayFind b.kept s
    opens_find Blank at h = absurd h
    opens_find Unknown at h = absurd (let e : Unknown ≡ Formatted = sym at ∙ disk_state in let no : ⊥ = cc in no)
    opens_find Formatted at (changes, may, is, sized, e) = (changes, may, is)

    shown : a.found ≡ Some (durable_of s) → d ≡ durable_of s
    shown e = let g : Some d ≡ Some (durable_of s) = sym reported ∙ e in let h : d ≡ durable_of s = cc in h
powers_find size mode b a new d disk_state (inr (inl h)) reported = untold a (printed.OnRefused h.0) d h.2 reported
powers_find size mode b a new d disk_state (inr (inr (inl h))) reported = untold a (printed.OnRefused 11) d h.1 reported
powers_find size mode b a new d disk_state (inr (inr (inr h))) reported = untold a (printed.OnRefused 5) d h.0 reported

on_find : (size : Size) (p : Option BenchLife) (mode : BootMode) (b : Bench) (a : Answer) (new : Bench) (d : Durable) → b.disk_state ≡ Formatted → OnStep size p mode b a new → a.found ≡ Some d → (s : DurableState) × MayFind b.kept s × (d ≡ durable_of s)
on_find size None mode b a new d disk_state h reported = powers_find size mode b a new d disk_state h reported
on_find size (Some life) mode b a new d disk_state h reported = untold a printed.Busy d h.0 reported

pub finds : (size : Size) (mode : BootMode) (b : Bench) (a : Answer) (new : Bench) (d : Durable) → b.disk_state ≡ Formatted → Moves size (lines.On mode) b a new → a.found ≡ Some d → (s : DurableState) × MayFind b.kept s × (d ≡ durable_of s)
finds size mode b a new d disk_state (inl move) reported = on_find size b.power mode b a new d disk_state move.0 reported
finds size mode b a new d disk_state (inr (would, mid, step, struck, e, is)) reported = untold a printed.PowerLost d e reported
