-- Where the disk never failed, each power-on finds what all acknowledged commands make.
use Rattle.board_model.specs.{declared.call_words.CallWords.CallWords, Durable.{DurableState, Change, formatted, refusal_of}, Shapes.Size}
use Rattle.board_model.specs.{Kept.{Kept, found_of, MayFind, TakesIn}, declared.{boot_mode.BootMode.BootMode, durable.Reason.Reason}}
use Rattle.board_model.specs.{declared.console_command.ConsoleCommand.ConsoleCommand, ConsoleCommands.console_change}
use Rattle.std.proofs.Common.{◌≡◌, ◌⊎◌, ℕ, zero, suc, ◌-◌, ◌^◌, ◌==◌, inl, inr, List, [], ◌∷◌, Option, None, Some, Result, Ok, Err, refl, sym, ◌∙◌, ap, subst, arith, Bool, true, false, MatchBool}
use Rattle.std.specs.Bool.{⊤}
use Rattle.board_model.specs.declared.boot_mode.BootMode.TheVariants as modes
use Rattle.board.{specs.{Boots.boot_refusal, Moments.commands_by}, proofs.Few.few_commands}
use Rattle.script_lang.specs.{Scripts.Script, declared.line.Line.Line}
use Rattle.machine.specs.{Machine.hart_at, Shows.{own_line, own_line_by}, declared.line.MachineLine.MachineLine}
use Rattle.hart.specs.State.{ArchState}
use Rattle.sbi_calls.specs.{Words.is_answered, declared.words.{Did.Did, Turned.{Turned, TheVariants.{Made, Durable}}}}
use Rattle.sbi.specs.{declared.{words.{Word.Word, LifeEnd.LifeEnd}, resets.ResetType.ResetType}, Resets.reset_of}
use Rattle.sbi.specs.declared.words.Word.TheVariants as words
use Rattle.sbi.specs.declared.words.LifeEnd.TheVariants as life_ends
use Rattle.sbi_abi.specs.{Calls.call_of, declared.{call.Call.Call, ret.SbiError.{SbiError, TheVariants.{Failed, NotSupported, Denied}}}}
use Rattle.sbi_abi.specs.declared.call.Call.TheVariants as calls
use Rattle.machine.specs.declared.line.MachineLine.TheVariants as shown_lines
use Rattle.report_lines.specs.declared.printed.{Printed.Printed, Answer.Answer}
use Rattle.report_lines.specs.declared.printed.Printed.TheVariants as printed
use Rattle.bench_report.specs.{Bench.{DiskState, Blank, Unknown, Formatted, BenchLife, Bench, bench_with}, Deeds.{Deed, deed_of}}
use Rattle.bench_report.specs.Happens.{says, shows, out_of_memory, failed, on_with, settled, has_machine, acknowledged, in_doubt}
use Rattle.bench_report.specs.{Commands.{Writes, IssuedBy, IssuesAll}, Reports.{AreByFirmware, IsReportWith}}
use Rattle.bench_report.specs.Turns.{refused, AnswersError, HartCommand, Resets, dozes, BenchFallsAsleep, BenchSleepsBy, BenchMakesCall, ComesTo, GuestTurns}
use Rattle.bench_report.specs.PowerOns.{life_begun, IsBooted, BootsFrom, Begins, Boots, Opens, IsOpenRefusal}
use Rattle.bench_report.specs.Steps.{console_reported, CallReported, GuestCall, OnStep, ConsoleStep, TurnStep, CallStep, DeedStep, Run}
use Rattle.bench_report.specs.Prefix.{AskedLine, Boot, Command, Guest, Nothing, Keeps, Hides, TellsLine, may_hide, asked_of, asked_by, LineImplies, ShowsAt, is_format_ok}
use Rattle.bench_report.specs.AllFound.{LineMakes, ShownMakes, AreAllFound, FindAll, FindsAll}
use Rattle.bench_report.proofs.{Issues.{is_up, takes_more, GoesOn, IsSound}, TurnLines.{commands_taken, all_or_failed}}
use Rattle.bench_report.proofs.{Determined.{CalmDisk, IsCalm, DiskHasFailed, fails, kept_as}, Single.{moves_fair, run_fair, struck_fails}}
use Rattle.bench_report.proofs.{Asks.{line_asks-asked_by, firmware_alone}, Prefixed.{Tell, steps, IsFresh, moves_format, either}}
use Rattle.bench_report.specs.Deeds as deeds
use Rattle.susp.specs.declared.sleeps.Sleep.{Sleep, TheVariants.{ToRam, ToDisk}}

-- ---- a board that is on stays on where its line says that it goes on
abbrev IsPowered : Option BenchLife → Type 0
IsPowered None = ⊥
IsPowered (Some life) = ⊤

abbrev IsOwn : Word → Type 0
IsOwn (words.Goes did) = ⊤
IsOwn (words.Over end) = ⊥

powered : (p : Option BenchLife) (life : BenchLife) → p ≡ Some life → IsPowered p
powered p life e = subst IsPowered (sym e) tt

as_powered : (new x : Bench) → new ≡ x → IsPowered x.power → IsPowered new.power
as_powered new x e on = subst (λ (m : Bench). IsPowered m.power) (sym e) on

answers_on : (e : SbiError) (h : ℕ) (life : BenchLife) (b : Bench) (word : Word) (new : Bench) → AnswersError e h life b word new → IsPowered new.power
answers_on e h life b word new x = as_powered new (on_with (refused h e life) b) x.1 tt

held_on : (o : Result ℕ ℕ) (said : LifeEnd) (h : ℕ) (b : Bench) (word : Word) (new : Bench) → HartCommand o said h b word new → IsOwn word → IsPowered new.power
held_on (Ok n) said h b word new x own = absurd (subst IsOwn x.0 own)
held_on (Err n) said h b word new (life, on, x) own = answers_on Failed h life b word new x

resets_on : (asked : Result (ResetType × Reason) SbiError) (h : ℕ) (life : BenchLife) (b : Bench) (word : Word) (new : Bench) → Resets asked h life b word new → IsOwn word → IsPowered new.power
resets_on (Err e) h life b word new x own = answers_on e h life b word new x
resets_on (Ok reset) h life b word new (o, mid, i, x) own = held_on o (life_ends.Reset reset.0) h mid word new x own

falls_on : (sleep : Sleep) (site opaque h : ℕ) (life : BenchLife) (b : Bench) (word : Word) (new : Bench) → BenchFallsAsleep sleep site opaque h life b word new → IsOwn word → IsPowered new.power
falls_on ToRam site opaque h life b word new x own = as_powered new (on_with (dozes h site opaque life) b) x.1 tt
falls_on ToDisk site opaque h life b word new (o, mid, i, x) own = held_on o life_ends.Asleep h mid word new x own

sleeps_on : (asked : Result (Sleep × ℕ) SbiError) (opaque h : ℕ) (life : BenchLife) (b : Bench) (word : Word) (new : Bench) → BenchSleepsBy asked opaque h life b word new → IsOwn word → IsPowered new.power
sleeps_on (Err e) opaque h life b word new x own = answers_on e h life b word new x
sleeps_on (Ok asked) opaque h life b word new (inl x) own = answers_on Denied h life b word new x.1
sleeps_on (Ok asked) opaque h life b word new (inr x) own = falls_on asked.0 asked.1 opaque h life b word new x.1 own

makes_on : (call : Call) (h : ℕ) (life : BenchLife) (b : Bench) (word : Word) (new : Bench) → BenchMakesCall call h life b word new → IsOwn word → IsPowered new.power
makes_on (calls.SystemReset kind reason) h life b word new x own = resets_on (reset_of kind reason) h life b word new x own
makes_on (calls.SystemSuspend kind address opaque) h life b word new (asked, checked, x) own = sleeps_on asked opaque h life b word new x own
makes_on call h life b word new x own = answers_on NotSupported h life b word new x

comes_on : (did : Turned) (h : ℕ) (life : BenchLife) (b : Bench) (word : Word) (new : Bench) → IsPowered b.power → ComesTo did h life b word new → IsOwn word → IsPowered new.power
comes_on Durable h life b word new on x own = makes_on (call_of (hart_at life.machine h)) h life b word new x own
comes_on (Made did) h life b word new on x own = as_powered new b x.1 on

turns_on : (h n : ℕ) (b : Bench) (made : ℕ) (word : Word) (new : Bench) → GuestTurns h n b made word new → IsOwn word → IsPowered new.power
turns_on h zero b made word new x own = absurd x
turns_on h (suc n) b made word new (life, on, said, mid, (m, did, turned, x), inl last) own =
    as_powered new mid last.3 (comes_on did h (has_machine m life) (on_with (has_machine m life) b) said mid tt x (subst IsOwn last.2 own))
turns_on h (suc n) b made word new (life, on, said, mid, turn, inr more) own = turns_on h n mid more.2 word new more.4 own

writes_on : (r : Option ℕ) (c : Change) (life : BenchLife) (b : Bench) (o : Result ℕ ℕ) (new : Bench) → IsPowered b.power → Writes r c life b o new → IsPowered new.power
writes_on (Some n) c life b o new on w = as_powered new b w.1 on
writes_on None c life b o new on (inl w) = as_powered new (acknowledged c life b) w.1 tt
writes_on None c life b o new on (inr (inl w)) = as_powered new (failed w.1.0 b) w.1.2 on
writes_on None c life b o new on (inr (inr w)) = as_powered new (failed w.1.0 (in_doubt c life b)) w.1.2 tt

issued_on : (d : Option Change) (c : Change) (life : BenchLife) (b : Bench) (o : Result ℕ ℕ) (new : Bench) → IsPowered b.power → IssuedBy d c life b o new → IsPowered new.power
issued_on (Some d) c life b o new on i = as_powered new b i.1 on
issued_on None c life b o new on (inl i) = as_powered new b i.2 on
issued_on None c life b o new on (inr i) = writes_on (refusal_of life.now c) c life b o new on i.1

-- and then it takes commands, where none is in doubt
up_now : (k : Kept) (p : Option BenchLife) → GoesOn k p → k.doubt ≡ None → IsPowered p → is_up p ≡ true
up_now k None goes calm on = absurd on
up_now k (Some life) goes calm on = ap takes_more (sym goes.0 ∙ calm)

-- ---- a boot that was refused has issued no command, where the disk did not fail
abbrev IsRefusedLine : Printed → Type 0
IsRefusedLine (printed.OnRefused n) = ⊤
IsRefusedLine x = ⊥

abbrev IsRefusedBoot : AskedLine → Printed → Type 0
IsRefusedBoot (Boot mode) x = IsRefusedLine x
IsRefusedBoot asked x = ⊥

abbrev IsStill : Bench → Bench → Type 0
IsStill b new = new.kept.changes ≡ b.kept.changes

still : (b new x : Bench) → new ≡ x → x.kept.changes ≡ b.kept.changes → IsStill b new
still b new x e same = ap (λ (m : Bench). m.kept.changes) e ∙ same

booted_still : (o : Result ℕ ℕ) (mode : BootMode) (z : Size) (s : DurableState) (b mid : Bench) (x : Printed) (new : Bench) → (DiskHasFailed new → ⊥) → boot_refusal s mode ≡ None → IssuesAll (commands_by mode s) (on_with (life_begun s z) b) o mid → IsBooted o mode z s mid x new
    → IsRefusedLine x → IsStill b new
booted_still (Ok n) mode z s b mid x new well allowed all (life, on, line, m, is, e) refused = absurd (subst IsRefusedLine line refused)
booted_still (Err n) mode z s b mid x new well allowed all (line, e) refused =
    by (all_or_failed (commands_by mode s) (life_begun s z) (on_with (life_begun s z) b) (Err n) mid refl refl (omega (arith, few_commands mode s)) (commands_taken mode s allowed) all)
  where
    by : (◌≡◌ {A = Result ℕ ℕ} (Err n) (Ok 0)) ⊎ DiskHasFailed mid → IsStill b new
    by (inl ok) = absurd (let no : ⊥ = cc in no)
    by (inr failed) = absurd (well (subst DiskHasFailed (sym e) failed))

starts_still : (mode : BootMode) (z : Size) (s : DurableState) (b : Bench) (x : Printed) (new : Bench) → (DiskHasFailed new → ⊥) → boot_refusal s mode ≡ None → BootsFrom mode z s b x new → IsRefusedLine x → IsStill b new
starts_still mode z s b x new well allowed (o, mid, all, on) refused = booted_still o mode z s b mid x new well allowed all on refused

begins_still : (mode : BootMode) (z : Size) (s : DurableState) (b : Bench) (x : Printed) (new : Bench) → (DiskHasFailed new → ⊥) → boot_refusal s mode ≡ None → Begins mode z s b x new → IsRefusedLine x → IsStill b new
begins_still modes.Fresh z s b x new well allowed h refused = starts_still modes.Fresh z s b x new well allowed h refused
begins_still modes.Keep z s b x new well allowed h refused = starts_still modes.Keep z s b x new well allowed h refused
begins_still modes.Discard z s b x new well allowed h refused = starts_still modes.Discard z s b x new well allowed h refused
begins_still modes.Resume z s b x new well allowed (inl h) refused = starts_still modes.Resume z s b x new well allowed h refused
begins_still modes.Resume z s b x new well allowed (inr h) refused = still b new b h.2 refl

boots_still : (r : Option ℕ) (mode : BootMode) (z : Size) (s : DurableState) (b : Bench) (x : Printed) (new : Bench) → boot_refusal s mode ≡ r → (DiskHasFailed new → ⊥) → Boots r mode z s b x new → IsRefusedLine x → IsStill b new
boots_still (Some n) mode z s b x new at well h refused = still b new b h.1 refl
boots_still None mode z s b x new at well (inl h) refused = begins_still mode z s b x new well at h.1 refused
boots_still None mode z s b x new at well (inr (inl h)) refused = still b new b h.2 refl
boots_still None mode z s b x new at well (inr (inr h)) refused = still b new (out_of_memory b) h.2 refl

opens_still : (size : Size) (m : DiskState) (b : Bench) (s : DurableState) (z : Size) (mid : Bench) → CalmDisk m b.kept.doubt → Opens size m b s z mid → IsStill b mid
opens_still size Blank b s z mid calm h = absurd h
opens_still size Unknown b s z mid calm h = still b mid b h refl
opens_still size Formatted b s z mid calm (changes, may, is, sized, e) = still b mid (settled changes b) e (sym (kept_as b.kept changes calm may))

on_still : (size : Size) (p : Option BenchLife) (mode : BootMode) (b : Bench) (a : Answer) (new : Bench) → IsCalm b → (DiskHasFailed new → ⊥) → OnStep size p mode b a new → IsRefusedLine a.line → IsStill b new
on_still size (Some life) mode b a new calm well h refused = still b new b h.1 refl
on_still size None mode b a new calm well (inl (s, z, mid, found, shows, boot)) refused =
    boots_still (boot_refusal s mode) mode z s mid a.line new refl well boot refused ∙ opens_still size b.disk_state b s z mid calm.0 found
on_still size None mode b a new calm well (inr (inl (n, is, e, same))) refused = still b new b same refl
on_still size None mode b a new calm well (inr (inr (inl h))) refused = still b new (out_of_memory b) h.2 refl
on_still size None mode b a new calm well (inr (inr (inr h))) refused = absurd (well (fails b new h.1))

step_still : (size : Size) (deed : Deed) (b : Bench) (a : Answer) (new : Bench) → IsCalm b → (DiskHasFailed new → ⊥) → DeedStep size deed b a new → IsRefusedBoot (asked_of deed) a.line → IsStill b new
step_still size (deeds.PowerOn mode) b a new calm well h refused = on_still size b.power mode b a new calm well h refused
step_still size deed b a new calm well h refused = absurd refused

-- ---- what is known of a line beside what it says: a line that goes on leaves a board that takes commands
abbrev IsQuiet : AskedLine → Printed → Bool → Type 0
IsQuiet (Command c) (printed.CommandRefused word n) now = now ≡ true
IsQuiet Guest (printed.Shown (shown_lines.Turn h made (words.Goes did))) now = now ≡ true
IsQuiet Guest (printed.Shown (shown_lines.Answered h e v)) now = now ≡ true
IsQuiet Nothing printed.PowerLost now = ⊤
IsQuiet asked printed.PowerLost now = ⊥
IsQuiet asked said now = ⊤

quiet : (asked : AskedLine) (a : Answer) (x : Printed) (now : Bool) → a ≡ says x → IsQuiet asked x now → IsQuiet asked a.line now
quiet asked a x now e q = subst (λ (y : Answer). IsQuiet asked y.line now) (sym e) q

quiet_line : (asked : AskedLine) (x y : Printed) (now : Bool) → x ≡ y → IsQuiet asked y now → IsQuiet asked x now
quiet_line asked x y now e q = subst (λ (l : Printed). IsQuiet asked l now) (sym e) q

module _ (now : Bool) where
  booted_quiet : (o : Result ℕ ℕ) (mode : BootMode) (z : Size) (s : DurableState) (b : Bench) (x : Printed) (new : Bench) → IsBooted o mode z s b x new → IsQuiet (Boot mode) x now
  booted_quiet (Ok n) mode z s b x new (life, on, line, m, is, e) = quiet_line (Boot mode) x (printed.On mode) now line tt
  booted_quiet (Err n) mode z s b x new (line, e) = quiet_line (Boot mode) x (printed.OnRefused n) now line tt

  starts_quiet : (mode : BootMode) (z : Size) (s : DurableState) (b : Bench) (x : Printed) (new : Bench) → BootsFrom mode z s b x new → IsQuiet (Boot mode) x now
  starts_quiet mode z s b x new (o, mid, all, on) = booted_quiet o mode z s mid x new on

  begins_quiet : (mode : BootMode) (z : Size) (s : DurableState) (b : Bench) (x : Printed) (new : Bench) → Begins mode z s b x new → IsQuiet (Boot mode) x now
  begins_quiet modes.Fresh z s b x new h = starts_quiet modes.Fresh z s b x new h
  begins_quiet modes.Keep z s b x new h = starts_quiet modes.Keep z s b x new h
  begins_quiet modes.Discard z s b x new h = starts_quiet modes.Discard z s b x new h
  begins_quiet modes.Resume z s b x new (inl h) = starts_quiet modes.Resume z s b x new h
  begins_quiet modes.Resume z s b x new (inr h) = quiet_line (Boot modes.Resume) x (printed.OnRefused 13) now h.1 tt

  boots_quiet : (r : Option ℕ) (mode : BootMode) (z : Size) (s : DurableState) (b : Bench) (x : Printed) (new : Bench) → Boots r mode z s b x new → IsQuiet (Boot mode) x now
  boots_quiet (Some n) mode z s b x new h = quiet_line (Boot mode) x (printed.OnRefused n) now h.0 tt
  boots_quiet None mode z s b x new (inl h) = begins_quiet mode z s b x new h.1
  boots_quiet None mode z s b x new (inr (inl h)) = quiet_line (Boot mode) x (printed.OnRefused 3) now h.1 tt
  boots_quiet None mode z s b x new (inr (inr h)) = quiet_line (Boot mode) x (printed.OnRefused 11) now h.1 tt

  on_quiet : (size : Size) (p : Option BenchLife) (mode : BootMode) (b : Bench) (a : Answer) (new : Bench) → IsSound b → OnStep size p mode b a new → IsQuiet (Boot mode) a.line now
  on_quiet size (Some life) mode b a new sound h = quiet (Boot mode) a printed.Busy now h.0 tt
  on_quiet size None mode b a new sound (inl (s, z, mid, found, shows, boot)) = boots_quiet (boot_refusal s mode) mode z s mid a.line new boot
  on_quiet size None mode b a new sound (inr (inl (n, is, e, same))) = absurd (subst (λ m. IsOpenRefusal m n) sound.0 is)
  on_quiet size None mode b a new sound (inr (inr (inl h))) = quiet (Boot mode) a (printed.OnRefused 11) now h.1 tt
  on_quiet size None mode b a new sound (inr (inr (inr h))) = quiet (Boot mode) a (printed.OnRefused 5) now h.0 tt

  reported_quiet : (c : ConsoleCommand) (o : Result ℕ ℕ) (a : Answer) → now ≡ true → a ≡ console_reported c o → IsQuiet (Command (console_change c)) a.line now
  reported_quiet c (Ok n) a up e = quiet (Command (console_change c)) a (printed.Acknowledged c n) now e tt
  reported_quiet c (Err n) a up e = quiet (Command (console_change c)) a (printed.CommandRefused c n) now e up

  console_quiet : (c : ConsoleCommand) (p : Option BenchLife) (b : Bench) (a : Answer) (new : Bench) → b.power ≡ p → (IsPowered new.power → now ≡ true) → ConsoleStep c p b a new → IsQuiet (Command (console_change c)) a.line now
  console_quiet c None b a new on up h = quiet (Command (console_change c)) a printed.Off now h.0 tt
  console_quiet c (Some life) b a new on up (o, i, e) = reported_quiet c o a (up (issued_on life.doubt (console_change c) life b o new (powered b.power life on) i)) e

  word_quiet : (h made : ℕ) (word : Word) → (IsOwn word → now ≡ true) → IsQuiet Guest (printed.Shown (shown_lines.Turn h made word)) now
  word_quiet h made (words.Goes did) up = up tt
  word_quiet h made (words.Over end) up = tt

  turn_quiet : (p : Option BenchLife) (h n : ℕ) (b : Bench) (a : Answer) (new : Bench) → (IsPowered new.power → now ≡ true) → TurnStep p h n b a new → IsQuiet Guest a.line now
  turn_quiet None h n b a new up x = quiet Guest a (printed.Shown shown_lines.Off) now x.0 tt
  turn_quiet (Some life) h n b a new up (inl (has, made, word, x, e)) = quiet Guest a (printed.Shown (shown_lines.Turn h made word)) now e (word_quiet h made word (λ own. up (turns_on h n b made word new x own)))
  turn_quiet (Some life) h n b a new up (inr x) = quiet Guest a (printed.Shown shown_lines.Off) now x.1 tt

  own_quiet : (answered : Bool) (h : ℕ) (hart : ArchState) (did : Did) → now ≡ true → IsQuiet Guest (printed.Shown (own_line_by answered h hart did)) now
  own_quiet true h hart did up = up
  own_quiet false h hart did up = tt

  reported_call : (word : Word) (h : ℕ) (new : Bench) (a : Answer) → (IsOwn word → now ≡ true) → CallReported h word new a → IsQuiet Guest a.line now
  reported_call (words.Goes did) h new a up (life, on, e) = quiet Guest a (printed.Shown (own_line h (hart_at life.machine h) did)) now e (own_quiet (is_answered did) h (hart_at life.machine h) did (up tt))
  reported_call (words.Over end) h new a up e = quiet Guest a (printed.Shown (shown_lines.Called h (words.Over end))) now e tt

  called_quiet : (called : Option Turned) (h : ℕ) (life : BenchLife) (b : Bench) (a : Answer) (new : Bench) → IsPowered b.power → (IsPowered new.power → now ≡ true) → GuestCall called h life b a new → IsQuiet Guest a.line now
  called_quiet None h life b a new on up x = quiet Guest a (printed.Shown (shown_lines.NotStarted h)) now x.0 tt
  called_quiet (Some did) h life b a new on up (word, x, e) = reported_call word h new a (λ own. up (comes_on did h life b word new on x own)) e

  call_quiet : (p : Option BenchLife) (h : ℕ) (asked : CallWords) (b : Bench) (a : Answer) (new : Bench) → (IsPowered new.power → now ≡ true) → CallStep p h asked b a new → IsQuiet Guest a.line now
  call_quiet None h asked b a new up g = quiet Guest a (printed.Shown shown_lines.Off) now g.0 tt
  call_quiet (Some life) h asked b a new up (inl (has, m, called, did, g)) = called_quiet called h (has_machine m life) (on_with (has_machine m life) b) a new tt up g
  call_quiet (Some life) h asked b a new up (inr g) = quiet Guest a (printed.Shown shown_lines.Off) now g.1 tt

nothing_quiet : (x : Printed) (now : Bool) → IsQuiet Nothing x now
nothing_quiet printed.PowerLost now = tt
nothing_quiet x now = tt

step_quiet : (size : Size) (deed : Deed) (b : Bench) (a : Answer) (new : Bench) → IsSound b → (IsPowered new.power → is_up new.power ≡ true) → DeedStep size deed b a new → IsQuiet (asked_of deed) a.line (is_up new.power)
step_quiet size (deeds.PowerOn mode) b a new sound up h = on_quiet (is_up new.power) size b.power mode b a new sound h
step_quiet size (deeds.Issue c) b a new sound up h = console_quiet (is_up new.power) c b.power b a new refl up h
step_quiet size (deeds.Turns x y) b a new sound up h = turn_quiet (is_up new.power) b.power x y b a new up h
step_quiet size (deeds.Call i asked) b a new sound up h = call_quiet (is_up new.power) b.power i asked b a new up h
step_quiet size deed b a new sound up h = nothing_quiet a.line (is_up new.power)

-- ---- so a line makes just what it says
not_now : {A : Type 0} (now : Bool) → now ≡ true → now ≡ false → A
not_now now e f = let g : true ≡ false = sym e ∙ f in absurd (let no : ⊥ = cc in no)

module _ (s t : DurableState) (up now : Bool) where
  makes_boot : (mode : BootMode) (x : Printed) → IsQuiet (Boot mode) x now → (IsRefusedLine x → t ≡ s) → LineImplies (Boot mode) x s up t now → LineMakes (Boot mode) x s t
  makes_boot mode (printed.On m) q same h = (h.0, h.2, h.4)
  makes_boot mode (printed.OnRefused n) q same h = same tt
  makes_boot mode (printed.Acknowledged word k) q same h = absurd h
  makes_boot mode (printed.CommandRefused word n) q same h = absurd h
  makes_boot mode printed.Formatted q same h = absurd h
  makes_boot mode printed.PowerLost q same h = absurd q
  makes_boot mode x q same h = h.0

  makes_command : (c : Change) (x : Printed) → IsQuiet (Command c) x now → LineImplies (Command c) x s up t now → LineMakes (Command c) x s t
  makes_command c (printed.Acknowledged word k) q h = h.1
  makes_command c (printed.CommandRefused word n) q (inl h, same) = h.1
  makes_command c (printed.CommandRefused word n) q (inr h, same) = not_now now q h.1
  makes_command c (printed.On m) q h = absurd h
  makes_command c (printed.OnRefused n) q h = absurd h
  makes_command c printed.Formatted q h = absurd h
  makes_command c printed.PowerLost q h = absurd q
  makes_command c x q h = h.0

  either_keeps : (hidden : Bool) → now ≡ true → MatchBool hidden (Hides s up t now) (Keeps s up t now) → t ≡ s
  either_keeps true on (inl k) = k.0
  either_keeps true on (inr h) = not_now now on h.1
  either_keeps false on k = k.0

  makes_shown : (line : MachineLine) → IsQuiet Guest (printed.Shown line) now → TellsLine line s up t now → ShownMakes line s t
  makes_shown (shown_lines.Turn h made (words.Goes did)) q x = either_keeps (may_hide made did) q x
  makes_shown (shown_lines.Turn h made (words.Over end)) q x = (x.2, x.3, x.4)
  makes_shown (shown_lines.Called h (words.Goes did)) q x = x.0
  makes_shown (shown_lines.Called h (words.Over end)) q x = (x.2, x.3, x.4)
  makes_shown (shown_lines.Answered h e v) q x = either_keeps (e == 2 ^ 64 - 1) q x
  makes_shown line q x = x.0

  makes_guest : (x : Printed) → IsQuiet Guest x now → LineImplies Guest x s up t now → LineMakes Guest x s t
  makes_guest (printed.Shown line) q h = makes_shown line q h
  makes_guest (printed.On m) q h = absurd h
  makes_guest (printed.OnRefused n) q h = absurd h
  makes_guest (printed.Acknowledged word k) q h = absurd h
  makes_guest (printed.CommandRefused word n) q h = absurd h
  makes_guest printed.Formatted q h = absurd h
  makes_guest printed.PowerLost q h = absurd q
  makes_guest x q h = h.0

  makes_nothing : (x : Printed) → LineImplies Nothing x s up t now → LineMakes Nothing x s t
  makes_nothing (printed.On m) h = absurd h
  makes_nothing (printed.OnRefused n) h = absurd h
  makes_nothing (printed.Acknowledged word k) h = absurd h
  makes_nothing (printed.CommandRefused word n) h = absurd h
  makes_nothing printed.Formatted h = absurd h
  makes_nothing x h = h.0

  makes : (asked : AskedLine) (x : Printed) → IsQuiet asked x now → (IsRefusedBoot asked x → t ≡ s) → LineImplies asked x s up t now → LineMakes asked x s t
  makes (Boot mode) x q same h = makes_boot mode x q same h
  makes (Command c) x q same h = makes_command c x q h
  makes Guest x q same h = makes_guest x q h
  makes Nothing x q same h = makes_nothing x h

-- ---- whole runs
alone : (k : Kept) (s : DurableState) → k.doubt ≡ None → MayFind k s → s ≡ found_of k.changes
alone k s calm (changes, inl e, is) = is ∙ ap found_of e
alone k s calm (changes, inr e, is) = let P : Option Change → Type 0 = λ d. TakesIn d k.changes changes in absurd (subst P calm e)

line_found : (asked : AskedLine) (b : Bench) (a : Answer) (new : Bench) → b.kept.doubt ≡ None → Tell asked b a new → IsQuiet asked a.line (is_up new.power) → (IsRefusedBoot asked a.line → IsStill b new)
    → ShowsAt a (found_of b.kept.changes) × LineMakes asked a.line (found_of b.kept.changes) (found_of new.kept.changes)
line_found asked b a new calm tell q stays =
    let t : DurableState = found_of new.kept.changes in
    let was = tell.1 t (new.kept.changes, inl refl, refl) in
    let same : was.0 ≡ found_of b.kept.changes = alone b.kept was.0 calm was.1 in
    let P : DurableState → Type 0 = λ s. ShowsAt a s × LineMakes asked a.line s t in
    subst P same (was.2.0, makes was.0 t (is_up b.power) (is_up new.power) asked a.line q (λ refused. ap found_of (stays refused) ∙ sym same) was.2.1)

abbrev pub IsWell : Bench → Type 0
IsWell b = DiskHasFailed b → ⊥

run_found : (size : Size) (ls : List Line) (b : Bench) (answers : List Answer) (end : Bench) → AreByFirmware ls → IsSound b → IsCalm b → IsWell end → Run size b ls answers end → AreAllFound (found_of b.kept.changes) ls answers
run_found size [] b [] end by sound calm well run = tt
run_found size (l ∷ ls) b (a ∷ answers) end by sound calm well (new, inr (would, mid, x, struck, e, is), run) =
    let P : Bench → Type 0 = DiskHasFailed in
    absurd (well ((run_fair size ls new answers end by.1 run).2 (subst P (sym is) (struck_fails size (deed_of l) b would mid (firmware_alone l by.0) calm x struck))))
run_found size (l ∷ ls) b (a ∷ answers) end by sound calm well (new, inl (x, unstruck), run) =
    by_calm ((moves_fair size (deed_of l) b a new (firmware_alone l by.0) (inl (x, unstruck))).1 calm) (λ sound c. run_found size ls new answers end by.1 sound c well run)
  where
    well_now : IsWell new
    well_now s = well ((run_fair size ls new answers end by.1 run).2 s)

    by_calm : DiskHasFailed new ⊎ IsCalm new → (IsSound new → IsCalm new → AreAllFound (found_of new.kept.changes) ls answers) → AreAllFound (found_of b.kept.changes) (l ∷ ls) (a ∷ answers)
    by_calm (inl s) more = absurd (well_now s)
    by_calm (inr c) more =
        let tell : Tell (asked_by l) b a new = steps size (deed_of l) b a new (firmware_alone l by.0) sound x in
        let now_calm : new.kept.doubt ≡ None = subst (λ m. CalmDisk m new.kept.doubt) tell.0.0 c.0 in
        let was_calm : b.kept.doubt ≡ None = subst (λ m. CalmDisk m b.kept.doubt) sound.0 calm.0 in
        let q = step_quiet size (deed_of l) b a new sound (λ on. up_now new.kept new.power tell.0.1 now_calm on) x in
        let one = line_found (asked_by l) b a new was_calm tell q (λ refused. step_still size (deed_of l) b a new calm well_now x refused) in
        let M : AskedLine → Type 0 = λ asked. LineMakes asked a.line (found_of b.kept.changes) (found_of new.kept.changes) in
        (one.0, found_of new.kept.changes, subst M (sym (line_asks-asked_by l)) one.1, more tell.0 c)
run_found size [] b (a ∷ answers) end by sound calm well run = absurd run
run_found size (l ∷ ls) b [] end by sound calm well run = absurd run

anew_found : (size : Size) (ls : List Line) (b : Bench) (answers : List Answer) (end : Bench) → AreByFirmware ls → IsFresh b → IsCalm b → IsWell end → Run size b ls answers end → AreAllFound formatted ls answers
anew_found size ls b answers end by (disk_state, kept, on) calm well run =
    let F : Option BenchLife → Type 0 = λ p. GoesOn b.kept p in
    subst (λ (k : Kept). AreAllFound (found_of k.changes) ls answers) kept (run_found size ls b answers end by (disk_state, subst F (sym on) tt) calm well run)

from_format : (size : Size) (ls : List Line) (b : Bench) (answers : List Answer) (end : Bench) → AreByFirmware ls → IsCalm b → IsWell end → Run size b ls answers end → FindAll ls answers
from_format size [] b answers end by calm well run = tt
from_format size (l ∷ ls) b [] end by calm well run = absurd run
from_format size (l ∷ ls) b (a ∷ answers) end by calm well run = by_calm ((moves_fair size (deed_of l) b a run.0 (firmware_alone l by.0) run.1).1 calm) (λ c. from_format size ls run.0 answers end by.1 c well run.2)
  where
    by_calm : DiskHasFailed run.0 ⊎ IsCalm run.0 → (IsCalm run.0 → FindAll ls answers) → FindAll (l ∷ ls) (a ∷ answers)
    by_calm (inl s) more = absurd (well ((run_fair size ls run.0 answers end by.1 run.2).2 s))
    by_calm (inr c) more =
        either (is_format_ok a.line) (AreAllFound formatted ls answers) (FindAll ls answers)
        (λ ok. anew_found size ls run.0 answers end by.1 (moves_format size l b a run.0 run.1 ok) c well run.2) (more c)

pub all_found : (payloads : List (List ℕ)) (script : Script) (answers : List Answer) (end : Bench) → AreByFirmware script.lines → IsReportWith payloads script answers end → end.failures ≡ 0 → FindsAll script.lines answers
all_found payloads script [] end by h none = absurd h
all_found payloads script (board ∷ answers) end by h none = from_format script.size script.lines (bench_with payloads) answers end by (tt, refl, refl) (λ failed. omega (arith, none, failed)) h.1
