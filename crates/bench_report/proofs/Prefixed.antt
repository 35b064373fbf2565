-- The prefix law, one induction over the lines, backwards: the state before a line comes of the one after it,
-- so that the fate of a command in doubt is reported by the open that settles it.
use Rattle.board_model.specs.{declared.call_words.CallWords.CallWords, Durable.{DurableState, Change, formatted}, Shapes.Size}
use Rattle.board_model.specs.{Kept.{Kept, nothing_kept, found_of, MayKeep, MayFind}, Views.durable_of, declared.durable.Durable.Durable}
use Rattle.board_model.specs.declared.{boot_mode.BootMode.BootMode, console_command.ConsoleCommand.ConsoleCommand}
use Rattle.board_model.specs.ConsoleCommands.{console_change}
use Rattle.std.proofs.Common.{◌≡◌, ◌≢◌, ◌⊎◌, ℕ, ◌-◌, ◌^◌, ◌==◌, inl, inr, List, [], ◌∷◌, Option, None, Some, Result, Ok, Err, refl, sym, ◌∙◌, ap, subst, Bool, true, false, MatchBool}
use Rattle.std.{specs.Bool.⊤, proofs.lemmas.List.Elements.{All-cons, All-nil}}
use Rattle.board_model.specs.declared.boot_mode.BootMode.TheVariants as modes
use Rattle.board.specs.{Boots.boot_refusal, Moments.commands_by}
use Rattle.script_lang.specs.{Scripts.Script, declared.line.Line.Line}
use Rattle.machine.specs.{Machine.{Machine, hart_at}, Shows.{own_line, own_line_by}, declared.line.MachineLine.MachineLine}
use Rattle.sbi_calls.specs.{Words.is_answered, declared.words.{Did.Did, Turned.Turned}}
use Rattle.hart.specs.State.{ArchState, reg}
use Rattle.sbi.specs.declared.words.Word.{Word}
use Rattle.sbi.specs.declared.words.Word.TheVariants as words
use Rattle.machine.specs.declared.line.MachineLine.TheVariants as shown_lines
use Rattle.report_lines.specs.declared.printed.{Printed.Printed, Answer.Answer}
use Rattle.report_lines.specs.declared.printed.Printed.TheVariants as printed
use Rattle.bench_report.{specs.Bench.{DiskState, Blank, Unknown, Formatted, BenchLife, Bench, bench_with}, proofs.Determined.found_as}
use Rattle.bench_report.specs.{Deeds.{Deed, deed_of, IsByFirmwareAlone}, Reports.{IsByFirmware, AreByFirmware, IsReportWith}}
use Rattle.bench_report.specs.Happens.{says, shows, out_of_memory, failed, on_with, unpowered, armed_with, formatted_anew, settled, has_machine}
use Rattle.bench_report.specs.PowerOns.{life_begun, commands_of, IsBooted, BootsFrom, Resumes, Begins, Boots, Opens, ShowsFound, IsOpenRefusal, PowersOn, FormatsOn}
use Rattle.bench_report.specs.Steps.{console_reported, FormatStep, OnStep, ConsoleStep, CallReported, GuestCall, TurnStep, CallStep, DeedStep, Moves, Run}
use Rattle.bench_report.specs.Prefix.{AskedLine, Boot, Command, Guest, Nothing, Keeps, Hides, TellsTurns, TellsLine, asked_of, asked_by, line_asks, RefusedChange, Lost, LineImplies, ShowsIts, ShowsBy, ShowsAt, IsPrefixedTo, resumes, RisesFrom, AreLoaded, is_format_ok, IsFoundByPrefix, KeepsPrefixLawTo, KeepsPrefixLaw, MayEndIn}
use Rattle.bench_report.proofs.{Refused.{WasRefused, one_life}, Lost.lost, Serials.serials_rise, Asks.{line_asks-asked_by, firmware_alone}}
use Rattle.bench_report.proofs.{Unsaid.{Hidden, TellsDid, TellsOne, GoesBy, TurnsGoBy, comes_back, turns_back}, Allowed.all_issued}
use Rattle.bench_report.proofs.{Wholes.{IsKeptWhole, LoadsWhole, BootsLoad, all_loaded}, Questions.{IsAsked, is_asked}}
use Rattle.bench_report.proofs.Issues.{takes_more, is_up, GoesOn, IsSound, Back, joined, said, Went, Does, issued_back, AllWent, all_back}
use Rattle.bench_report.specs.Asides.{Effect, Stays, SetsPayloads, Arms, CutsPower, SetsDoze, WritesPast, aside, affected}
use Rattle.bench_report.proofs.Beside.{OfFirmware, FitsPower, TellsNothing, is_aside}
use Rattle.bench_report.specs.Deeds as deeds

-- ---- a line that leaves what the disk stands for
abbrev pub LineReports : AskedLine → Answer → Bool → Bool → DurableState → DurableState → Type 0
LineReports asked a up now s t = ShowsAt a s × LineImplies asked a.line s up t now

abbrev pub Tell : AskedLine → Bench → Answer → Bench → Type 0
Tell asked b a new = Back b new (λ s t. LineReports asked a (is_up b.power) (is_up new.power) s t)

by_eqs : (asked : AskedLine) (b : Bench) (a x : Answer) (new n : Bench) → a ≡ x → new ≡ n → Tell asked b x n → Tell asked b a new
by_eqs asked b a x new n e f h =
    let P : Answer → Type 0 = λ y. Tell asked b y new in
    let Q : Bench → Type 0 = λ m. Tell asked b x m in
    subst P (sym e) (subst Q (sym f) h)

-- a line by which a board takes commands as before does not say that it is on
unshown : (asked : AskedLine) (x : Printed) (s : DurableState) (up : Bool) → LineImplies asked x s up s up → ShowsBy x None s
unshown (Boot mode) (printed.On m) s up h = let e : true ≡ false = sym h.3 ∙ h.1 in absurd (let no : ⊥ = cc in no)
unshown (Command c) (printed.On m) s up h = absurd h
unshown Guest (printed.On m) s up h = absurd h
unshown Nothing (printed.On m) s up h = absurd h
unshown asked x s up h = tt

-- it says a word that tells of no command, and the bench is as it was to an open
same : (asked : AskedLine) (b : Bench) (a : Answer) (x : Printed) (new n : Bench) → a ≡ says x → new ≡ n → n.kept ≡ b.kept → n.disk_state ≡ b.disk_state → is_up n.power ≡ is_up b.power → GoesOn n.kept n.power → IsSound b
    → ((s t : DurableState) → t ≡ s → LineImplies asked x s (is_up b.power) t (is_up b.power)) → Tell asked b a new
same asked b a x new n e f kept disk_state up goes sound tells =
    let P : Kept → DurableState → Type 0 = λ k t. MayFind k t in
    let Q : Bool → DurableState → Type 0 = λ now s. LineImplies asked x s (is_up b.power) s now in
    by_eqs asked b a (says x) new n e f
    ((disk_state ∙ sound.0, goes), λ t found. (t, (let R : Kept → Type 0 = λ k. MayFind k t in subst R kept found), (unshown asked x t (is_up b.power) (tells t t refl), (let S : Bool → Type 0 = λ now. LineImplies asked x t (is_up b.power) t now in subst S (sym up) (tells t t refl)))))

stays : (asked : AskedLine) (b : Bench) (a : Answer) (x : Printed) (new : Bench) → a ≡ says x → new ≡ b → IsSound b → ((s t : DurableState) → t ≡ s → LineImplies asked x s (is_up b.power) t (is_up b.power)) → Tell asked b a new
stays asked b a x new e f sound tells = same asked b a x new b e f refl refl refl sound.1 sound tells

-- ---- power on
by_parts : (mode : BootMode) (a : Answer) (f : Option Durable) (x : Printed) (up now : Bool) (s t : DurableState) → a.found ≡ f → a.line ≡ x → ShowsBy x f s → LineImplies (Boot mode) x s up t now → LineReports (Boot mode) a up now s t
by_parts mode a f x up now s t e g shows tells =
    let P : Option Durable → Type 0 = λ o. ShowsBy x o s in
    let R : Printed → Type 0 = λ y. ShowsBy y a.found s in
    let Q : Printed → Type 0 = λ y. LineImplies (Boot mode) y s up t now in
    (subst R (sym g) (subst P (sym e) shows), subst Q (sym g) tells)

-- an open: what is found stands
module _ (b : Bench) (changes : List Change) (may : MayKeep b.kept changes) (disk_state : b.disk_state ≡ Formatted) (on : b.power ≡ None) where
  opened : (x : Bench) → x.kept ≡ record { changes = changes; doubt = None } → IsSound x → Back b x (λ s t. (t ≡ s) × (s ≡ found_of changes))
  opened x e sound = (sound, λ t found. (found_of changes, (changes, may, refl), (let P : Kept → Type 0 = λ k. MayFind k t in alone t (subst P e found), refl)))
    where
      alone : (t : DurableState) → MayFind (record { changes = changes; doubt = None }) t → t ≡ found_of changes
      alone t (cs, inl e, is) = is ∙ ap found_of e
      alone t (cs, inr e, is) = absurd e

  off_now : is_up b.power ≡ false
  off_now = ap is_up on

  sound_off : (k : Kept) (p : Option BenchLife) → p ≡ b.power → GoesOn k p
  sound_off k p e = let F : Option BenchLife → Type 0 = λ q. GoesOn k q in subst F (sym (e ∙ on)) tt

  shown : (s : DurableState) → s ≡ found_of changes → ShowsIts (Some (durable_of (found_of changes))) s
  shown s e = ap durable_of (sym e)

  refused_boot : (n : ℕ) (mode : BootMode) (a : Answer) (x new : Bench) → a.found ≡ Some (durable_of (found_of changes)) → a.line ≡ printed.OnRefused n → new ≡ x
      → x.kept ≡ record { changes = changes; doubt = None } → x.power ≡ b.power → x.disk_state ≡ b.disk_state → Tell (Boot mode) b a new
  refused_boot n mode a x new found line e kept same_power same_disk_state =
      let Q : Bench → Type 0 = λ m. Tell (Boot mode) b a m in
      let back = opened x kept (same_disk_state ∙ disk_state, sound_off x.kept x.power same_power) in
      subst Q (sym e) (said b x (λ s t. (t ≡ s) × (s ≡ found_of changes)) (λ s t. LineReports (Boot mode) a (is_up b.power) (is_up x.power) s t) back
      (λ s t h. by_parts mode a _ (printed.OnRefused n) (is_up b.power) (is_up x.power) s t found line (shown s h.1) (off_now, ap is_up same_power ∙ off_now, inl h.0)))

  -- what a power-on finds by a mode that it allows, and the commands that were then issued
  abbrev WentFrom : Result ℕ ℕ → BootMode → Bool → DurableState → DurableState → Type 0
  WentFrom o mode up s t = (s ≡ found_of changes) × AllWent o (commands_of mode s) up s t

  is_on : (o : Result ℕ ℕ) (mode : BootMode) (z : Size) (a : Answer) (mid new : Bench) → boot_refusal (found_of changes) mode ≡ None → a.found ≡ Some (durable_of (found_of changes))
      → Back b mid (WentFrom o mode (is_up mid.power)) → IsBooted o mode z (found_of changes) mid a.line new → Tell (Boot mode) b a new
  is_on (Ok n) mode z a mid new allowed found back (life, at, line, m, boots, e) =
      let Q : Bench → Type 0 = λ m. Tell (Boot mode) b a m in
      let F : Option BenchLife → Type 0 = λ p. GoesOn mid.kept p in
      subst Q (sym e) (
        (back.0.0, subst F at back.0.1),
        λ t f. (
            let s = back.1 t f in (
              s.0,
              s.1,
              by_parts mode a _ (printed.On mode) (is_up b.power) (takes_more life.doubt) s.0 t found line (ap Some (shown s.0 s.2.0)) (refl, off_now, s.2.1.0, sym (ap is_up at) ∙ s.2.1.1, ap (λ (u : DurableState). boot_refusal u mode) s.2.0 ∙ allowed),
            )
            ),
      )
  is_on (Err n) mode z a mid new allowed found back (line, e) =
      let Q : Bench → Type 0 = λ m. Tell (Boot mode) b a m in
      subst Q (sym e) (
        (back.0.0, tt),
        λ t f. (let s = back.1 t f in (s.0, s.1, by_parts mode a _ (printed.OnRefused n) (is_up b.power) false s.0 t found line (shown s.0 s.2.0) (off_now, refl, inr s.2.1))),
      )

  -- the commands of the state found are those of any that it is
  went_from : (o : Result ℕ ℕ) (mode : BootMode) (up : Bool) (s u t : DurableState) → boot_refusal (found_of changes) mode ≡ None → u ≡ s → s ≡ found_of changes → AllWent o (commands_by mode (found_of changes)) up u t → WentFrom o mode up s t
  went_from o mode up s u t allowed same is went =
      let F : DurableState → Type 0 = λ v. AllWent o (commands_by mode (found_of changes)) up v t in
      let G : List Change → Type 0 = λ cs. AllWent o cs up s t in
      (is, subst G (all_issued mode (found_of changes) allowed ∙ ap (commands_of mode) (sym is)) (subst F same went))

  starts : (mode : BootMode) (z : Size) (a : Answer) (new : Bench) → boot_refusal (found_of changes) mode ≡ None → a.found ≡ Some (durable_of (found_of changes)) → BootsFrom mode z (found_of changes) (settled changes b) a.line new → Tell (Boot mode) b a new
  starts mode z a new allowed found (o, mid, all, on_h) =
      let start : Bench = on_with (life_begun (found_of changes) z) (settled changes b) in
      let sound : IsSound start = (disk_state, (refl, refl)) in
      let issued : List Change = commands_by mode (found_of changes) in
      let rest : Back start mid (AllWent o issued (is_up mid.power)) = all_back issued start o mid sound refl all in
      let whole : Back b mid (WentFrom o mode (is_up mid.power)) =
      joined b start mid (λ s t. (t ≡ s) × (s ≡ found_of changes)) (AllWent o issued (is_up mid.power)) (WentFrom o mode (is_up mid.power)) (opened start refl sound) rest
      (λ s u t x w. went_from o mode (is_up mid.power) s u t allowed x.0 x.1 w) in
      is_on o mode z a mid new allowed found whole on_h

  resumes_at : (z : Size) (a : Answer) (new : Bench) → boot_refusal (found_of changes) modes.Resume ≡ None → a.found ≡ Some (durable_of (found_of changes)) → Resumes z (found_of changes) (settled changes b) a.line new → Tell (Boot modes.Resume) b a new
  resumes_at z a new allowed found (inl h) = starts modes.Resume z a new allowed found h
  resumes_at z a new allowed found (inr h) = refused_boot 13 modes.Resume a (settled changes b) new found h.1 h.2 refl refl refl

  begins : (mode : BootMode) (z : Size) (a : Answer) (new : Bench) → boot_refusal (found_of changes) mode ≡ None → a.found ≡ Some (durable_of (found_of changes)) → Begins mode z (found_of changes) (settled changes b) a.line new → Tell (Boot mode) b a new
  begins modes.Fresh z a new allowed found h = starts modes.Fresh z a new allowed found h
  begins modes.Keep z a new allowed found h = starts modes.Keep z a new allowed found h
  begins modes.Discard z a new allowed found h = starts modes.Discard z a new allowed found h
  begins modes.Resume z a new allowed found h = resumes_at z a new allowed found h

  boots : (r : Option ℕ) (mode : BootMode) (z : Size) (a : Answer) (new : Bench) → boot_refusal (found_of changes) mode ≡ r → a.found ≡ Some (durable_of (found_of changes)) → Boots r mode z (found_of changes) (settled changes b) a.line new → Tell (Boot mode) b a new
  boots (Some n) mode z a new at found h = refused_boot n mode a (settled changes b) new found h.0 h.1 refl refl refl
  boots None mode z a new allowed found (inl h) = begins mode z a new allowed found h.1
  boots None mode z a new allowed found (inr (inl h)) = refused_boot 3 mode a (settled changes b) new found h.1 h.2 refl refl refl
  boots None mode z a new allowed found (inr (inr h)) = refused_boot 11 mode a (out_of_memory (settled changes b)) new found h.1 h.2 refl refl refl

opens : (size : Size) (m : DiskState) (mode : BootMode) (b : Bench) (a : Answer) (new mid : Bench) (s : DurableState) (z : Size) → b.disk_state ≡ m → b.disk_state ≡ Formatted → b.power ≡ None → Opens size m b s z mid → ShowsFound a.found s
    → Boots (boot_refusal s mode) mode z s mid a.line new → Tell (Boot mode) b a new
opens size Blank mode b a new mid s z at disk_state on h shows boot = absurd h
opens size Unknown mode b a new mid s z at disk_state on h shows boot = absurd (let e : Unknown ≡ Formatted = sym at ∙ disk_state in let no : ⊥ = cc in no)
opens size Formatted mode b a new mid s z at disk_state on (changes, may, is, sized, e) shows boot =
    let P : DurableState → Type 0 = λ x. Boots (boot_refusal x mode) mode z x mid a.line new in
    let Q : Bench → Type 0 = λ x. Boots (boot_refusal (found_of changes) mode) mode z (found_of changes) x a.line new in
    boots b changes may disk_state on (boot_refusal (found_of changes) mode) mode z a new refl (found_as a.found s shows ∙ ap (λ x. Some (durable_of x)) is) (subst Q e (subst P is boot))

powers : (size : Size) (mode : BootMode) (b : Bench) (a : Answer) (new : Bench) → IsSound b → b.power ≡ None → PowersOn size mode b a new → Tell (Boot mode) b a new
powers size mode b a new sound on (inl (s, z, mid, found, shows, boot)) = opens size b.disk_state mode b a new mid s z refl sound.0 on found shows boot
powers size mode b a new sound on (inr (inl h)) = let P : DiskState → Type 0 = λ m. IsOpenRefusal m h.0 in absurd (subst P sound.0 h.1)
powers size mode b a new sound on (inr (inr (inl h))) = same (Boot mode) b a (printed.OnRefused 11) new (out_of_memory b) h.1 h.2 refl refl refl sound.1 sound (λ s t e. (ap is_up on, ap is_up on, inl e))
powers size mode b a new sound on (inr (inr (inr h))) = same (Boot mode) b a (printed.OnRefused 5) new (failed h.1.0 b) h.0 h.1.2 refl refl refl sound.1 sound (λ s t e. (ap is_up on, ap is_up on, inl e))

-- ---- the other lines
console_says : (c : ConsoleCommand) (o : Result ℕ ℕ) (b : Bench) (a : Answer) (new : Bench) → Does (console_change c) (is_up b.power) b o new → a ≡ console_reported c o → Tell (Command (console_change c)) b a new
console_says c (Ok k) b a new one e =
    by_eqs (Command (console_change c)) b a _ new new e refl (said b new (Went (Ok k) (console_change c) (is_up b.power) (is_up new.power)) (λ s t. LineReports (Command (console_change c)) (says (printed.Acknowledged c k)) (is_up b.power) (is_up new.power) s t) one (λ s t w. (tt, (w.0, (w.1, w.2), w.3, refl))))
console_says c (Err k) b a new one e =
    by_eqs (Command (console_change c)) b a _ new new e refl (said b new (Went (Err k) (console_change c) (is_up b.power) (is_up new.power)) (λ s t. LineReports (Command (console_change c)) (says (printed.CommandRefused c k)) (is_up b.power) (is_up new.power) s t) one (λ s t w. (tt, (down s t w, refl))))
  where
    down : (s t : DurableState) → Went (Err k) (console_change c) (is_up b.power) (is_up new.power) s t → RefusedChange k (console_change c) s (is_up b.power) t (is_up new.power)
    down s t (inl w) = inl w
    down s t (inr (inl w)) = inr (w.0, w.3, inl w.1)
    down s t (inr (inr w)) = inr (w.0, w.2, inr (w.1, w.3))

consoles : (c : ConsoleCommand) (p : Option BenchLife) (b : Bench) (a : Answer) (new : Bench) → IsSound b → b.power ≡ p → ConsoleStep c p b a new → Tell (Command (console_change c)) b a new
consoles c None b a new sound on h = stays (Command (console_change c)) b a printed.Off new h.0 h.1 sound (λ s t e. (e, refl))
consoles c (Some life) b a new sound on (o, issued, e) = console_says c o b a new (issued_back (console_change c) life b o new sound on issued) e

formats : (m : DiskState) (b : Bench) (a : Answer) (new : Bench) → IsSound b → b.disk_state ≡ m → FormatsOn m b a new → Tell Nothing b a new
formats Blank b a new sound at h = absurd (let e : Blank ≡ Formatted = sym at ∙ sound.0 in let no : ⊥ = cc in no)
formats Unknown b a new sound at h = absurd (let e : Unknown ≡ Formatted = sym at ∙ sound.0 in let no : ⊥ = cc in no)
formats Formatted b a new sound at (inl h) = stays Nothing b a (printed.FormatRefused 2) new h.0 h.1 sound (λ s t e. (e, refl))
formats Formatted b a new sound at (inr h) = same Nothing b a (printed.FormatRefused 5) new (failed h.1.0 b) h.0 h.1.2 refl refl refl sound.1 sound (λ s t e. (e, refl))

format_at : (p : Option BenchLife) (b : Bench) (a : Answer) (new : Bench) → IsSound b → FormatStep p b a new → Tell Nothing b a new
format_at None b a new sound h = formats b.disk_state b a new sound refl h
format_at (Some life) b a new sound h = stays Nothing b a printed.Busy new h.0 h.1 sound (λ s t e. (e, refl))

on_at : (size : Size) (p : Option BenchLife) (mode : BootMode) (b : Bench) (a : Answer) (new : Bench) → IsSound b → b.power ≡ p → OnStep size p mode b a new → Tell (Boot mode) b a new
on_at size None mode b a new sound on h = powers size mode b a new sound on h
on_at size (Some life) mode b a new sound on h = stays (Boot mode) b a printed.Busy new h.0 h.1 sound (λ s t e. (e, refl))

-- turns and calls
turn_says : (word : Word) (h made : ℕ) (b : Bench) (a : Answer) (new : Bench) → TurnsGoBy made word b new → a ≡ shows (shown_lines.Turn h made word) → Tell Guest b a new
turn_says word h made b a new back e =
    by_eqs Guest b a _ new new e refl (said b new (λ s t. TellsTurns made word s (is_up b.power) t (is_up new.power)) (λ s t. LineReports Guest (shows (shown_lines.Turn h made word)) (is_up b.power) (is_up new.power) s t) back (λ s t w. (tt, w)))

line_says : (h : ℕ) (word : Word) (line : MachineLine) (b : Bench) (a : Answer) (new : Bench) → GoesBy h word b new → a ≡ shows line → ((s t : DurableState) → TellsOne h new word s (is_up b.power) t (is_up new.power) → TellsLine line s (is_up b.power) t (is_up new.power)) → Tell Guest b a new
line_says h word line b a new back e tells =
    by_eqs Guest b a _ new new e refl (said b new (λ s t. TellsOne h new word s (is_up b.power) t (is_up new.power)) (λ s t. LineReports Guest (shows line) (is_up b.power) (is_up new.power) s t) back (λ s t w. (tt, tells s t w)))

keeps_either : (hidden : Bool) (s t : DurableState) (up now : Bool) → Keeps s up t now → MatchBool hidden (Hides s up t now) (Keeps s up t now)
keeps_either true s t up now k = inl k
keeps_either false s t up now k = k

-- the line of a call shows the hart as the bench has it
module _ (h : ℕ) (new : Bench) (life : BenchLife) (on : new.power ≡ Some life) (s t : DurableState) (up now : Bool) where
  answer_tells : (did : Did) → Keeps s up t now ⊎ (WasRefused h new × Hidden s up t now) → TellsLine (own_line_by true h (hart_at life.machine h) did) s up t now
  answer_tells did (inl k) = keeps_either _ s t up now k
  answer_tells did (inr ((other, also, is), hid)) =
      let L : BenchLife → Type 0 = λ l. reg (hart_at l.machine h) 10 ≡ 2 ^ 64 - 1 in
      let P : ℕ → Type 0 = λ n. MatchBool (n == 2 ^ 64 - 1) (Hides s up t now) (Keeps s up t now) in
      subst P (sym (subst L (one_life new.power life other on also) is)) (inr hid)

  own_tells : (answered : Bool) (did : Did) → TellsDid answered h new s up t now → TellsLine (own_line_by answered h (hart_at life.machine h) did) s up t now
  own_tells true did w = answer_tells did w
  own_tells false did w = w

call_says : (word : Word) (h : ℕ) (b : Bench) (a : Answer) (new : Bench) → GoesBy h word b new → CallReported h word new a → Tell Guest b a new
call_says (words.Goes did) h b a new back (life, on, e) =
    line_says h (words.Goes did) (own_line h (hart_at life.machine h) did) b a new back e (λ s t w. own_tells h new life on s t (is_up b.power) (is_up new.power) (is_answered did) did w)
call_says (words.Over end) h b a new back e = line_says h (words.Over end) (shown_lines.Called h (words.Over end)) b a new back e (λ s t w. w)

stays_off : (b : Bench) (a : Answer) (new : Bench) → IsSound b → a ≡ shows shown_lines.Off → new ≡ b → Tell Guest b a new
stays_off b a new sound e f = stays Guest b a (printed.Shown shown_lines.Off) new e f sound (λ s t e. (e, refl))

turn_at : (p : Option BenchLife) (h n : ℕ) (b : Bench) (a : Answer) (new : Bench) → IsSound b → TurnStep p h n b a new → Tell Guest b a new
turn_at None h n b a new sound x = stays_off b a new sound x.0 x.1
turn_at (Some life) h n b a new sound (inl (has, made, word, x, e)) = turn_says word h made b a new (turns_back h n b made word new sound x) e
turn_at (Some life) h n b a new sound (inr x) = stays_off b a new sound x.1 x.2

called_at : (called : Option Turned) (h : ℕ) (m : Machine) (life : BenchLife) (b : Bench) (a : Answer) (new : Bench) → IsSound b → b.power ≡ Some life → GuestCall called h (has_machine m life) (on_with (has_machine m life) b) a new → Tell Guest b a new
called_at None h m life b a new sound on x =
    let F : Option BenchLife → Type 0 = λ p. GoesOn b.kept p in
    same Guest b a (printed.Shown (shown_lines.NotStarted h)) new (on_with (has_machine m life) b) x.0 x.1 refl refl (sym (ap is_up on)) (subst F on sound.1) sound (λ s t e. (e, refl))
called_at (Some did) h m life b a new sound on (word, x, e) = call_says word h b a new (comes_back did h life (has_machine m life) b word new sound on refl refl x) e

call_at : (p : Option BenchLife) (h : ℕ) (asked : CallWords) (b : Bench) (a : Answer) (new : Bench) → IsSound b → b.power ≡ p → CallStep p h asked b a new → Tell Guest b a new
call_at None h asked b a new sound on g = stays_off b a new sound g.0 g.1
call_at (Some life) h asked b a new sound on (inl (has, m, called, did, g)) = called_at called h m life b a new sound on g
call_at (Some life) h asked b a new sound on (inr g) = stays_off b a new sound g.1 g.2

-- a question
asked_at : (b : Bench) (a : Answer) (new : Bench) → IsSound b → IsAsked b a new → Tell Nothing b a new
asked_at b a new sound (inl (said, none, e, is)) = stays Nothing b a said new e is sound (λ s t e. none.tells s t (is_up b.power) e)
asked_at b a new sound (inr (inl x)) = same Nothing b a (printed.InspectRefused 11) new (out_of_memory b) x.0 x.1 refl refl refl sound.1 sound (λ s t e. (e, refl))
asked_at b a new sound (inr (inr x)) = same Nothing b a (printed.InspectRefused 5) new (failed x.1.0 b) x.0 x.1.2 refl refl refl sound.1 sound (λ s t e. (e, refl))

-- a deed that asks nothing of the disk and of no hart
aside_at : (said : Printed) (e : Effect) (b : Bench) (a : Answer) (new : Bench) → OfFirmware e → FitsPower b.power e → TellsNothing said e → IsSound b → a ≡ says said → new ≡ affected e b → Tell Nothing b a new
aside_at said Stays b a new by fits tells sound h x = stays Nothing b a said new h x sound (λ s t e. tells s t (is_up b.power) e)
aside_at said (SetsPayloads payloads) b a new by fits tells sound h x = same Nothing b a said new _ h x refl refl refl sound.1 sound (λ s t e. tells s t (is_up b.power) e)
aside_at said (Arms fault) b a new by fits tells sound h x = same Nothing b a said new (armed_with fault b) h x refl refl refl sound.1 sound (λ s t e. tells s t (is_up b.power) e)
aside_at said CutsPower b a new by fits tells sound h x =
    by_eqs Nothing b a (says printed.Cut) new (unpowered b) (h ∙ ap says tells) x ((sound.0, tt), λ t f. (t, f, (tt, (refl, refl))))
aside_at said (SetsDoze doze life) b a new by fits tells sound h x =
    let F : Option BenchLife → Type 0 = λ p. GoesOn b.kept p in
    same Nothing b a said new _ h x refl refl (sym (ap is_up fits)) (subst F fits sound.1) sound (λ s t e. tells s t (is_up b.power) e)
aside_at said WritesPast b a new by fits tells sound h x = absurd by

pub steps : (size : Size) (deed : Deed) (b : Bench) (a : Answer) (new : Bench) → IsByFirmwareAlone deed → IsSound b → DeedStep size deed b a new → Tell (asked_of deed) b a new
steps size deeds.Format b a new by sound h = format_at b.power b a new sound h
steps size (deeds.PowerOn mode) b a new by sound h = on_at size b.power mode b a new sound refl h
steps size (deeds.Issue c) b a new by sound h = consoles c b.power b a new sound refl h
steps size (deeds.Turns x y) b a new by sound h = turn_at b.power x y b a new sound h
steps size (deeds.Call i asked) b a new by sound h = call_at b.power i asked b a new sound refl h
steps size (deeds.Ask question) b a new by sound h = asked_at b a new sound (is_asked size question b.power b a new h)
steps size (deeds.Beside act) b a new by sound h =
    let is = is_aside act b.power b.payloads in
    let did = aside act b.power b.payloads in
    aside_at did.0 did.1 b a new (is.firmware by) is.fits is.tells sound h.0 h.1

lost_tells : (asked : AskedLine) (s t : DurableState) (up : Bool) → Lost asked s up t → LineImplies asked printed.PowerLost s up t false
lost_tells (Boot mode) s t up h = (h, refl)
lost_tells (Command c) s t up h = (h, refl)
lost_tells Guest s t up h = (h, refl)
lost_tells Nothing s t up h = (h, refl)

moves : (size : Size) (line : Line) (b : Bench) (a : Answer) (new : Bench) → IsByFirmware line → IsSound b → Moves size line b a new → Tell (asked_by line) b a new
moves size line b a new by sound (inl h) = steps size (deed_of line) b a new (firmware_alone line by) sound h.0
moves size line b a new by sound (inr (would, mid, step, struck, e, is)) =
    let reported : Tell (asked_by line) b would mid = steps size (deed_of line) b would mid (firmware_alone line by) sound step in
    by_eqs (asked_by line) b a _ new (unpowered mid) e is
    ((reported.0.0, tt), λ t f. (let s = reported.1 t f in (s.0, s.1, (tt, lost_tells (asked_by line) s.0 t (is_up b.power) (lost (asked_by line) would.line s.0 t (is_up b.power) (is_up mid.power) s.2.1)))))

-- each state that an open of the bench may find ends some history of the lines before it
prefixed : (Ends : DurableState → Type 0) (size : Size) (ls : List Line) (b : Bench) (answers : List Answer) (end : Bench) (last : DurableState) → (end.disk_state ≡ Formatted → MayFind end.kept last) → Ends last
    → AreByFirmware ls → IsSound b → Run size b ls answers end → (s : DurableState) × MayFind b.kept s × IsPrefixedTo Ends s (is_up b.power) ls answers
prefixed Ends size [] b [] end last may ends by sound run =
    let P : Bench → Type 0 = λ e. e.disk_state ≡ Formatted → MayFind e.kept last in
    (last, subst P run may sound.0, ends)
prefixed Ends size (l ∷ ls) b (a ∷ answers) end last may ends by sound run =
    let T : AskedLine → Type 0 = λ asked. Tell asked b a run.0 in
    let reported : T (line_asks l) = subst T (sym (line_asks-asked_by l)) (moves size l b a run.0 by.0 sound run.1) in
    let rest = prefixed Ends size ls run.0 answers end last may ends by.1 reported.0 run.2 in
    let s = reported.1 rest.0 rest.1 in
    (s.0, s.1, (s.2.0, rest.0, is_up run.0.power, s.2.1, rest.2))
prefixed Ends size [] b (a ∷ answers) end last may ends by sound run = absurd run
prefixed Ends size (l ∷ ls) b [] end last may ends by sound run = absurd run

-- ---- from the first format that answered Ok on
other : {T : Type 0} (a : Answer) (x : Printed) → a ≡ says x → is_format_ok x ≡ false → is_format_ok a.line ≡ true → T
other a x e differs ok = let P : Answer → Type 0 = λ y. is_format_ok y.line ≡ true in absurd (let never : true ≡ false = sym (subst P e ok) ∙ differs in let bad : ⊥ = cc in bad)

by_line : {T : Type 0} (x y : Printed) → x ≡ y → is_format_ok y ≡ false → is_format_ok x ≡ true → T
by_line x y e differs ok = let P : Printed → Type 0 = λ z. is_format_ok z ≡ true in absurd (let never : true ≡ false = sym (subst P e ok) ∙ differs in let bad : ⊥ = cc in bad)

-- a board that is off over a disk that was formatted anew
abbrev pub IsFresh : Bench → Type 0
IsFresh new = (new.disk_state ≡ Formatted) × (new.kept ≡ nothing_kept) × (new.power ≡ None)

fresh : (new b : Bench) → b.power ≡ None → new ≡ formatted_anew b → IsFresh new
fresh new b on e = let P : Bench → Type 0 = IsFresh in subst P (sym e) (refl, refl, on)

formatted_on : (m : DiskState) (b : Bench) (a : Answer) (new : Bench) → b.power ≡ None → FormatsOn m b a new → is_format_ok a.line ≡ true → IsFresh new
formatted_on Blank b a new on (inl h) ok = fresh new b on h.1
formatted_on Blank b a new on (inr h) ok = other a _ h.0 refl ok
formatted_on Unknown b a new on (inl h) ok = fresh new b on h.1
formatted_on Unknown b a new on (inr (inl h)) ok = other a _ h.0 refl ok
formatted_on Unknown b a new on (inr (inr h)) ok = other a _ h.2 refl ok
formatted_on Formatted b a new on (inl h) ok = other a _ h.0 refl ok
formatted_on Formatted b a new on (inr h) ok = other a _ h.0 refl ok

formatted_at : (p : Option BenchLife) (b : Bench) (a : Answer) (new : Bench) → b.power ≡ p → FormatStep p b a new → is_format_ok a.line ≡ true → IsFresh new
formatted_at None b a new on h ok = formatted_on b.disk_state b a new on h ok
formatted_at (Some life) b a new on h ok = other a _ h.0 refl ok

is_on_no : {T : Type 0} (o : Result ℕ ℕ) (mode : BootMode) (z : Size) (s : DurableState) (b : Bench) (x : Printed) (new : Bench) → IsBooted o mode z s b x new → is_format_ok x ≡ true → T
is_on_no (Ok n) mode z s b x new h ok = by_line x _ h.2 refl ok
is_on_no (Err n) mode z s b x new h ok = by_line x _ h.0 refl ok

resumes_no : {T : Type 0} (z : Size) (s : DurableState) (b : Bench) (x : Printed) (new : Bench) → Resumes z s b x new → is_format_ok x ≡ true → T
resumes_no z s b x new (inl h) ok = is_on_no h.0 modes.Resume z s h.1 x new h.3 ok
resumes_no z s b x new (inr h) ok = by_line x _ h.1 refl ok

begins_no : {T : Type 0} (mode : BootMode) (z : Size) (s : DurableState) (b : Bench) (x : Printed) (new : Bench) → Begins mode z s b x new → is_format_ok x ≡ true → T
begins_no modes.Fresh z s b x new h ok = is_on_no h.0 modes.Fresh z s h.1 x new h.3 ok
begins_no modes.Keep z s b x new h ok = is_on_no h.0 modes.Keep z s h.1 x new h.3 ok
begins_no modes.Discard z s b x new h ok = is_on_no h.0 modes.Discard z s h.1 x new h.3 ok
begins_no modes.Resume z s b x new h ok = resumes_no z s b x new h ok

boots_no : {T : Type 0} (r : Option ℕ) (mode : BootMode) (z : Size) (s : DurableState) (b : Bench) (x : Printed) (new : Bench) → Boots r mode z s b x new → is_format_ok x ≡ true → T
boots_no None mode z s b x new (inl h) ok = begins_no mode z s b x new h.1 ok
boots_no None mode z s b x new (inr (inl h)) ok = by_line x _ h.1 refl ok
boots_no None mode z s b x new (inr (inr h)) ok = by_line x _ h.1 refl ok
boots_no (Some n) mode z s b x new h ok = by_line x _ h.0 refl ok

powers_no : {T : Type 0} (size : Size) (p : Option BenchLife) (mode : BootMode) (b : Bench) (a : Answer) (new : Bench) → OnStep size p mode b a new → is_format_ok a.line ≡ true → T
powers_no size (Some life) mode b a new h ok = other a _ h.0 refl ok
powers_no size None mode b a new (inl h) ok = boots_no (boot_refusal h.0 mode) mode h.1 h.0 h.2 a.line new h.5 ok
powers_no size None mode b a new (inr (inl h)) ok = other a _ h.2 refl ok
powers_no size None mode b a new (inr (inr (inl h))) ok = other a _ h.1 refl ok
powers_no size None mode b a new (inr (inr (inr h))) ok = other a _ h.0 refl ok

reported_no : {T : Type 0} (c : ConsoleCommand) (o : Result ℕ ℕ) (a : Answer) → a ≡ console_reported c o → is_format_ok a.line ≡ true → T
reported_no c (Ok n) a e ok = other a _ e refl ok
reported_no c (Err n) a e ok = other a _ e refl ok

console_no : {T : Type 0} (c : ConsoleCommand) (p : Option BenchLife) (b : Bench) (a : Answer) (new : Bench) → ConsoleStep c p b a new → is_format_ok a.line ≡ true → T
console_no c None b a new h ok = other a _ h.0 refl ok
console_no c (Some life) b a new h ok = reported_no c h.0 a h.2 ok

turn_no : {T : Type 0} (p : Option BenchLife) (h n : ℕ) (b : Bench) (a : Answer) (new : Bench) → TurnStep p h n b a new → is_format_ok a.line ≡ true → T
turn_no None h n b a new x ok = other a _ x.0 refl ok
turn_no (Some life) h n b a new (inl (has, made, word, x, e)) ok = other a _ e refl ok
turn_no (Some life) h n b a new (inr x) ok = other a _ x.1 refl ok

own_no : {T : Type 0} (answered : Bool) (h : ℕ) (hart : ArchState) (did : Did) (a : Answer) → a ≡ shows (own_line_by answered h hart did) → is_format_ok a.line ≡ true → T
own_no true h hart did a e ok = other a _ e refl ok
own_no false h hart did a e ok = other a _ e refl ok

call_word_no : {T : Type 0} (word : Word) (h : ℕ) (new : Bench) (a : Answer) → CallReported h word new a → is_format_ok a.line ≡ true → T
call_word_no (words.Goes did) h new a (life, on, e) ok = own_no (is_answered did) h (hart_at life.machine h) did a e ok
call_word_no (words.Over end) h new a e ok = other a _ e refl ok

called_no : {T : Type 0} (called : Option Turned) (h : ℕ) (life : BenchLife) (b : Bench) (a : Answer) (new : Bench) → GuestCall called h life b a new → is_format_ok a.line ≡ true → T
called_no None h life b a new x ok = other a _ x.0 refl ok
called_no (Some did) h life b a new (word, x, e) ok = call_word_no word h new a e ok

call_no : {T : Type 0} (p : Option BenchLife) (h : ℕ) (asked : CallWords) (b : Bench) (a : Answer) (new : Bench) → CallStep p h asked b a new → is_format_ok a.line ≡ true → T
call_no None h asked b a new g ok = other a _ g.0 refl ok
call_no (Some life) h asked b a new (inl (has, m, called, did, g)) ok = called_no called h (has_machine m life) (on_with (has_machine m life) b) a new g ok
call_no (Some life) h asked b a new (inr g) ok = other a _ g.1 refl ok

asked_no : {T : Type 0} (b : Bench) (a : Answer) (new : Bench) → IsAsked b a new → is_format_ok a.line ≡ true → T
asked_no b a new (inl (said, none, e, is)) ok = other a said e none.no_format ok
asked_no b a new (inr (inl x)) ok = other a _ x.0 refl ok
asked_no b a new (inr (inr x)) ok = other a _ x.0 refl ok

step_formats : (size : Size) (deed : Deed) (b : Bench) (a : Answer) (new : Bench) → DeedStep size deed b a new → is_format_ok a.line ≡ true → IsFresh new
step_formats size deeds.Format b a new h ok = formatted_at b.power b a new refl h ok
step_formats size (deeds.PowerOn mode) b a new h ok = powers_no size b.power mode b a new h ok
step_formats size (deeds.Issue c) b a new h ok = console_no c b.power b a new h ok
step_formats size (deeds.Turns x y) b a new h ok = turn_no b.power x y b a new h ok
step_formats size (deeds.Call i asked) b a new h ok = call_no b.power i asked b a new h ok
step_formats size (deeds.Ask question) b a new h ok = asked_no b a new (is_asked size question b.power b a new h) ok
step_formats size (deeds.Beside act) b a new h ok = other a _ h.0 (is_aside act b.power b.payloads).no_format ok

pub moves_format : (size : Size) (line : Line) (b : Bench) (a : Answer) (new : Bench) → Moves size line b a new → is_format_ok a.line ≡ true → IsFresh new
moves_format size line b a new (inl h) ok = step_formats size (deed_of line) b a new h.0 ok
moves_format size line b a new (inr h) ok = other a _ h.4 refl ok

-- no line but one that boots says that a boot was refused
not_thirteen : (asked : AskedLine) (a : Answer) (s t : DurableState) (up now : Bool) → LineImplies asked a.line s up t now → LoadsWhole asked a → a.line ≢ printed.OnRefused 13
not_thirteen (Boot mode) a s t up now h whole = whole
not_thirteen (Command c) a s t up now h whole = λ is. (let P : Printed → Type 0 = λ x. LineImplies (Command c) x s up t now in subst P is h)
not_thirteen Guest a s t up now h whole = λ is. (let P : Printed → Type 0 = λ x. LineImplies Guest x s up t now in subst P is h)
not_thirteen Nothing a s t up now h whole = λ is. (let P : Printed → Type 0 = λ x. LineImplies Nothing x s up t now in subst P is h)

abbrev IsLoaded : Answer → Type 0
IsLoaded a = a.line ≢ printed.OnRefused 13

are_loaded : (Ends : DurableState → Type 0) (ls : List Line) (answers : List Answer) (s : DurableState) (up : Bool) → IsPrefixedTo Ends s up ls answers → BootsLoad ls answers → AreLoaded answers
are_loaded Ends [] [] s up h load = All-nil IsLoaded
are_loaded Ends (l ∷ ls) (a ∷ answers) s up h load =
    let L : AskedLine → Type 0 = λ asked. LoadsWhole asked a in
    All-cons IsLoaded a answers (not_thirteen (line_asks l) a s h.1 up h.2 h.3 (subst L (sym (line_asks-asked_by l)) load.0)) (are_loaded Ends ls answers h.1 h.2 h.4 load.1)
are_loaded Ends [] (a ∷ answers) s up h load = absurd h
are_loaded Ends (l ∷ ls) [] s up h load = absurd h

-- what is found on a disk that was just formatted
anew : (Ends : DurableState → Type 0) (size : Size) (ls : List Line) (b : Bench) (answers : List Answer) (end : Bench) (last : DurableState) → (end.disk_state ≡ Formatted → MayFind end.kept last) → Ends last
    → AreByFirmware ls → IsFresh b → Run size b ls answers end → IsPrefixedTo Ends formatted false ls answers × RisesFrom 0 (resumes answers) × AreLoaded answers
anew Ends size ls b answers end last may ends by (disk_state, kept, on) run =
    let F : Option BenchLife → Type 0 = λ p. GoesOn b.kept p in
    let reported = prefixed Ends size ls b answers end last may ends by (disk_state, subst F (sym on) tt) run in
    let P : DurableState → Type 0 = λ s. IsPrefixedTo Ends s (is_up b.power) ls answers in
    let Q : Bool → Type 0 = λ up. IsPrefixedTo Ends formatted up ls answers in
    let R : Kept → Type 0 = λ k. MayFind k reported.0 in
    let law = subst Q (ap is_up on) (subst P (first reported.0 (subst R kept reported.1)) reported.2) in
    (law, serials_rise Ends ls answers law, are_loaded Ends ls answers formatted false law (all_loaded size ls b answers end by (whole_anew b.kept b.power kept on) run))
  where
    whole_anew : (k : Kept) (p : Option BenchLife) → k ≡ nothing_kept → p ≡ None → IsKeptWhole size (record b { kept = k; power = p })
    whole_anew k p e f =
        let P : Kept → Type 0 = λ k. IsKeptWhole size (record b { kept = k; power = p }) in
        let Q : Option BenchLife → Type 0 = λ p. IsKeptWhole size (record b { kept = nothing_kept; power = p }) in
        subst P (sym e) (subst Q (sym f) (disk_state, tt, tt, tt))

    first : (s : DurableState) → MayFind nothing_kept s → s ≡ formatted
    first s (cs, inl e, is) = is ∙ ap found_of e
    first s (cs, inr e, is) = absurd e

pub either : (t : Bool) (P Q : Type 0) → (t ≡ true → P) → Q → MatchBool t P Q
either true P Q p q = p refl
either false P Q p q = q

by_prefix : (Ends : DurableState → Type 0) (size : Size) (ls : List Line) (b : Bench) (answers : List Answer) (end : Bench) (last : DurableState) → (end.disk_state ≡ Formatted → MayFind end.kept last) → Ends last
    → AreByFirmware ls → Run size b ls answers end → IsFoundByPrefix Ends ls answers
by_prefix Ends size [] b answers end last may ends by run = tt
by_prefix Ends size (l ∷ ls) b [] end last may ends by run = absurd run
by_prefix Ends size (l ∷ ls) b (a ∷ answers) end last may ends by run =
    either (is_format_ok a.line) (IsPrefixedTo Ends formatted false ls answers × RisesFrom 0 (resumes answers) × AreLoaded answers) (IsFoundByPrefix Ends ls answers)
    (λ ok. anew Ends size ls run.0 answers end last may ends by.1 (moves_format size l b a run.0 run.1 ok) run.2) (by_prefix Ends size ls run.0 answers end last may ends by.1 run.2)

pub ends_law : (payloads : List (List ℕ)) (Ends : DurableState → Type 0) (script : Script) (answers : List Answer) (end : Bench) (last : DurableState) → (end.disk_state ≡ Formatted → MayFind end.kept last) → Ends last
    → AreByFirmware script.lines → IsReportWith payloads script answers end → KeepsPrefixLawTo Ends script.lines answers
ends_law payloads Ends script [] end last may ends by h = absurd h
ends_law payloads Ends script (board ∷ answers) end last may ends by h = by_prefix Ends script.size script.lines (bench_with payloads) answers end last may ends by h.1

pub prefix_law : (payloads : List (List ℕ)) (script : Script) (answers : List Answer) (end : Bench) → AreByFirmware script.lines → IsReportWith payloads script answers end → KeepsPrefixLaw script.lines answers
prefix_law payloads script answers end by h =
    ends_law payloads (λ s. ⊤) script answers end (found_of end.kept.changes) (λ is. (end.kept.changes, inl refl, refl)) tt by h

pub end_law : (payloads : List (List ℕ)) (script : Script) (answers : List Answer) (end : Bench) → AreByFirmware script.lines → IsReportWith payloads script answers end
    → (t : DurableState) → (end.disk_state ≡ Formatted → MayFind end.kept t) → MayEndIn t script.lines answers
end_law payloads script answers end by h t may = ends_law payloads (λ s. s ≡ t) script answers end t may refl by h
