-- A report whose lines are failure-free: no power-on was refused memory, and no failure was answered.
use Rattle.board_model.specs.{declared.call_words.CallWords.CallWords, Durable.{DurableState, Change, Reset, refusal_of}, Shapes.Size}
use Rattle.board_model.specs.declared.{boot_mode.BootMode.BootMode, durable.Reason.Reason, console_command.ConsoleCommand.ConsoleCommand}
use Rattle.board_model.specs.ConsoleCommands.{console_change}
use Rattle.std.proofs.Common.{◌≡◌, ◌≢◌, ℕ, zero, suc, arith, inl, inr, List, [], ◌∷◌, Option, None, Some, Result, Ok, Err, refl, ◌∙◌, ap, subst}
use Rattle.std.specs.Bool.{⊤}
use Rattle.board.specs.{Boots.boot_refusal, Moments.commands_by}
use Rattle.board_model.specs.declared.boot_mode.BootMode.TheVariants as modes
use Rattle.machine.specs.declared.line.MachineLine.TheVariants as shown
use Rattle.machine.specs.Machine.{hart_at}
use Rattle.sbi.specs.{declared.{words.{Word.Word, LifeEnd.LifeEnd}, resets.ResetType.ResetType}, Resets.reset_of}
use Rattle.sbi.specs.declared.words.Word.TheVariants as words
use Rattle.sbi.specs.declared.words.LifeEnd.TheVariants as life_ends
use Rattle.sbi_calls.specs.declared.words.{Turned.{Turned, TheVariants.{Made, Durable}}, Did.TheVariants.Next}
use Rattle.sbi_abi.specs.{Calls.call_of, declared.{call.Call.Call, ret.SbiError.{SbiError, TheVariants.{Failed, NotSupported, Denied}}}}
use Rattle.sbi_abi.specs.declared.call.Call.TheVariants as calls
use Rattle.script_lang.specs.{Scripts.Script, declared.line.Line.Line}
use Rattle.report_lines.specs.declared.printed.{Printed.Printed, Answer.Answer}
use Rattle.report_lines.specs.declared.printed.Printed.TheVariants as printed
use Rattle.bench_report.specs.Bench.{DiskState, Blank, Unknown, Formatted, BenchLife, Bench, IsFailureFree, bench_with}
use Rattle.bench_report.specs.{Deeds.{Deed, deed_of}, Happens.{says, off, on_with, formatted_anew, settled, has_machine, acknowledged}}
use Rattle.bench_report.{specs.{Commands.{Writes, IssuedBy, IssuesAll, Issued}, Reports.IsReportWith}, proofs.Unsaid.none_made}
use Rattle.bench_report.specs.Turns.{AnswersError, HartCommand, Resets, SuspendIssued, dozes, BenchFallsAsleep, BenchSleepsBy, BenchMakesCall, ComesTo, GuestTurn, GuestTurns}
use Rattle.bench_report.specs.PowerOns.{life_begun, FormatsOn, IsBooted, BootsFrom, Resumes, Begins, Boots, Opens, PowersOn}
use Rattle.bench_report.specs.Steps.{console_reported, FormatStep, OnStep, ConsoleStep, TurnStep, CallReported, GuestCall, CallStep, DeedStep, Moves, Run}
use Rattle.bench_report.specs.{FailureFree.{ShowsNoFailure, ShowNoFailure}, Asides.{Effect, Stays, aside, affected}}
use Rattle.bench_report.proofs.Questions.{IsAsked, is_asked}
use Rattle.bench_report.specs.Deeds as deeds
use Rattle.susp.specs.declared.sleeps.Sleep.{Sleep, TheVariants.{ToRam, ToDisk}}

-- as many growths were refused and failures answered as before
abbrev pub AsMany : Bench → Bench → Type 0
AsMany b new = (new.growths ≡ b.growths) × (new.failures ≡ b.failures)

pub as_many : (b c new : Bench) → c.growths ≡ b.growths → c.failures ≡ b.failures → new ≡ c → AsMany b new
as_many b c new e f g = (ap (λ (x : Bench). x.growths) g ∙ e, ap (λ (x : Bench). x.failures) g ∙ f)

pub many_then : (b mid new : Bench) → AsMany b mid → AsMany mid new → AsMany b new
many_then b mid new x y = (y.0 ∙ x.0, y.1 ∙ x.1)

-- what is failure-free by its line
of_line : (line reported : Printed) → line ≡ reported → ShowsNoFailure line → ShowsNoFailure reported
of_line line reported e failure_free = let P : Printed → Type 0 = ShowsNoFailure in subst P e failure_free

of_answer : (a : Answer) (reported : Printed) → a ≡ says reported → ShowsNoFailure a.line → ShowsNoFailure reported
of_answer a reported e failure_free = of_line a.line reported (ap (λ (x : Answer). x.line) e) failure_free

-- a command that was refused by none of the disk's numbers
abbrev IsFailureFreeResult : Result ℕ ℕ → Type 0
IsFailureFreeResult (Ok n) = ⊤
IsFailureFreeResult (Err n) = (n ≢ 5) × (n ≢ 6)

failure_free_as : (o p : Result ℕ ℕ) → o ≡ p → IsFailureFreeResult o → IsFailureFreeResult p
failure_free_as o p e failure_free = let P : Result ℕ ℕ → Type 0 = IsFailureFreeResult in subst P e failure_free

writes_failure_free : (r : Option ℕ) (c : Change) (life : BenchLife) (b : Bench) (o : Result ℕ ℕ) (new : Bench) → Writes r c life b o new → IsFailureFreeResult o → AsMany b new
writes_failure_free (Some n) c life b o new h failure_free = as_many b b new refl refl h.1
writes_failure_free None c life b o new (inl h) failure_free = as_many b (acknowledged c life b) new refl refl h.1
writes_failure_free None c life b o new (inr (inl h)) failure_free = absurd ((failure_free_as o (Err 5) h.0 failure_free).0 refl)
writes_failure_free None c life b o new (inr (inr h)) failure_free = absurd ((failure_free_as o (Err 6) h.0 failure_free).1 refl)

issued_failure_free : (d : Option Change) (c : Change) (life : BenchLife) (b : Bench) (o : Result ℕ ℕ) (new : Bench) → IssuedBy d c life b o new → IsFailureFreeResult o → AsMany b new
issued_failure_free (Some d) c life b o new h failure_free = as_many b b new refl refl h.1
issued_failure_free None c life b o new (inl h) failure_free = as_many b b new refl refl h.2
issued_failure_free None c life b o new (inr h) failure_free = writes_failure_free (refusal_of life.now c) c life b o new h.1 failure_free

all_failure_free : (cs : List Change) (b : Bench) (o : Result ℕ ℕ) (new : Bench) → IssuesAll cs b o new → IsFailureFreeResult o → AsMany b new
all_failure_free [] b o new h failure_free = as_many b b new refl refl h.1
all_failure_free (c ∷ cs) b o new (life, on, first, mid, issued, inl h) failure_free =
    let P : Result ℕ ℕ → Type 0 = λ r. IssuedBy life.doubt c life b r mid in
    many_then b mid new (issued_failure_free life.doubt c life b (Ok h.0) mid (subst P h.1 issued) tt) (all_failure_free cs mid o new h.2 failure_free)
all_failure_free (c ∷ cs) b o new (life, on, first, mid, issued, inr h) failure_free =
    let P : Result ℕ ℕ → Type 0 = λ r. IssuedBy life.doubt c life b r mid in
    let Q : Bench → Type 0 = λ m. AsMany b m in
    let R : Bench → Type 0 = λ m. m ≡ mid in
    many_then b mid new (issued_failure_free life.doubt c life b (Err h.0) mid (subst P h.1 issued) (failure_free_as o (Err h.0) h.2 failure_free)) (as_many mid mid new refl refl h.3)

-- ---- lines
formats_failure_free : (m : DiskState) (b : Bench) (a : Answer) (new : Bench) → FormatsOn m b a new → ShowsNoFailure a.line → AsMany b new
formats_failure_free Blank b a new (inl h) failure_free = as_many b (formatted_anew b) new refl refl h.1
formats_failure_free Blank b a new (inr h) failure_free = absurd (of_answer a (printed.FormatRefused 5) h.0 failure_free refl)
formats_failure_free Unknown b a new (inl h) failure_free = as_many b (formatted_anew b) new refl refl h.1
formats_failure_free Unknown b a new (inr (inl h)) failure_free = absurd (of_answer a (printed.FormatRefused 5) h.0 failure_free refl)
formats_failure_free Unknown b a new (inr (inr h)) failure_free = as_many b b new refl refl h.3
formats_failure_free Formatted b a new (inl h) failure_free = as_many b b new refl refl h.1
formats_failure_free Formatted b a new (inr h) failure_free = absurd (of_answer a (printed.FormatRefused 5) h.0 failure_free refl)

is_on_failure_free : (o : Result ℕ ℕ) (mode : BootMode) (z : Size) (s : DurableState) (b : Bench) (line : Printed) (new : Bench) → IsBooted o mode z s b line new → ShowsNoFailure line → IsFailureFreeResult o × AsMany b new
is_on_failure_free (Ok n) mode z s b line new (life, on, said, m, boots, e) failure_free = (tt, as_many b (on_with (has_machine m life) b) new refl refl e)
is_on_failure_free (Err n) mode z s b line new h failure_free = let reported = of_line line (printed.OnRefused n) h.0 failure_free in ((reported.0, reported.1), as_many b (off b) new refl refl h.1)

slot_failure_free : (mode : BootMode) (z : Size) (s : DurableState) (b : Bench) (line : Printed) (new : Bench) → BootsFrom mode z s b line new → ShowsNoFailure line → AsMany b new
slot_failure_free mode z s b line new (o, mid, h, on) failure_free =
    let last = is_on_failure_free o mode z s mid line new on failure_free in
    let start : Bench = on_with (life_begun s z) b in
    many_then b mid new (let first = all_failure_free (commands_by mode s) start o mid h last.0 in (first.0, first.1)) last.1

resumes_failure_free : (z : Size) (s : DurableState) (b : Bench) (line : Printed) (new : Bench) → Resumes z s b line new → ShowsNoFailure line → AsMany b new
resumes_failure_free z s b line new (inl h) failure_free = slot_failure_free modes.Resume z s b line new h failure_free
resumes_failure_free z s b line new (inr h) failure_free = as_many b b new refl refl h.2

begins_failure_free : (mode : BootMode) (z : Size) (s : DurableState) (b : Bench) (line : Printed) (new : Bench) → Begins mode z s b line new → ShowsNoFailure line → AsMany b new
begins_failure_free modes.Fresh z s b line new h failure_free = slot_failure_free modes.Fresh z s b line new h failure_free
begins_failure_free modes.Keep z s b line new h failure_free = slot_failure_free modes.Keep z s b line new h failure_free
begins_failure_free modes.Discard z s b line new h failure_free = slot_failure_free modes.Discard z s b line new h failure_free
begins_failure_free modes.Resume z s b line new h failure_free = resumes_failure_free z s b line new h failure_free

boots_failure_free : (r : Option ℕ) (mode : BootMode) (z : Size) (s : DurableState) (b : Bench) (line : Printed) (new : Bench) → Boots r mode z s b line new → ShowsNoFailure line → AsMany b new
boots_failure_free None mode z s b line new (inl h) failure_free = begins_failure_free mode z s b line new h.1 failure_free
boots_failure_free None mode z s b line new (inr (inl h)) failure_free = as_many b b new refl refl h.2
boots_failure_free None mode z s b line new (inr (inr h)) failure_free = absurd ((of_line line (printed.OnRefused 11) h.1 failure_free).2 refl)
boots_failure_free (Some n) mode z s b line new h failure_free = as_many b b new refl refl h.1

opens_many : (size : Size) (m : DiskState) (b : Bench) (s : DurableState) (z : Size) (mid : Bench) → Opens size m b s z mid → AsMany b mid
opens_many size Blank b s z mid h = absurd h
opens_many size Unknown b s z mid h = as_many b b mid refl refl h
opens_many size Formatted b s z mid h = as_many b (settled h.0 b) mid refl refl h.4

powers_failure_free : (size : Size) (mode : BootMode) (b : Bench) (a : Answer) (new : Bench) → PowersOn size mode b a new → ShowsNoFailure a.line → AsMany b new
powers_failure_free size mode b a new (inl (s, z, mid, found, shows, h)) failure_free = many_then b mid new (opens_many size b.disk_state b s z mid found) (boots_failure_free (boot_refusal s mode) mode z s mid a.line new h failure_free)
powers_failure_free size mode b a new (inr (inl h)) failure_free = as_many b b new refl refl h.3
powers_failure_free size mode b a new (inr (inr (inl h))) failure_free = absurd ((of_answer a (printed.OnRefused 11) h.1 failure_free).2 refl)
powers_failure_free size mode b a new (inr (inr (inr h))) failure_free = absurd ((of_answer a (printed.OnRefused 5) h.0 failure_free).0 refl)

format_at : (p : Option BenchLife) (b : Bench) (a : Answer) (new : Bench) → FormatStep p b a new → ShowsNoFailure a.line → AsMany b new
format_at None b a new h failure_free = formats_failure_free b.disk_state b a new h failure_free
format_at (Some life) b a new h failure_free = as_many b b new refl refl h.1

on_at : (size : Size) (p : Option BenchLife) (mode : BootMode) (b : Bench) (a : Answer) (new : Bench) → OnStep size p mode b a new → ShowsNoFailure a.line → AsMany b new
on_at size None mode b a new h failure_free = powers_failure_free size mode b a new h failure_free
on_at size (Some life) mode b a new h failure_free = as_many b b new refl refl h.1

reported_failure_free : (c : ConsoleCommand) (o : Result ℕ ℕ) (a : Answer) → a ≡ console_reported c o → ShowsNoFailure a.line → IsFailureFreeResult o
reported_failure_free c (Ok n) a e failure_free = tt
reported_failure_free c (Err n) a e failure_free = of_answer a (printed.CommandRefused c n) e failure_free

console_at : (c : ConsoleCommand) (p : Option BenchLife) (b : Bench) (a : Answer) (new : Bench) → ConsoleStep c p b a new → ShowsNoFailure a.line → AsMany b new
console_at c None b a new h failure_free = as_many b b new refl refl h.1
console_at c (Some life) b a new h failure_free = issued_failure_free life.doubt (console_change c) life b h.0 new h.1 (reported_failure_free c h.0 a h.2 failure_free)

-- ---- turns and calls
-- a word that shows that no command was refused
abbrev IsFree : Word → Type 0
IsFree word = word ≢ words.Goes Next

refuses_free : {A : Type 0} (e : SbiError) (h : ℕ) (life : BenchLife) (b : Bench) (word : Word) (new : Bench) → AnswersError e h life b word new → IsFree word → A
refuses_free e h life b word new x free = absurd (free x.0)

held_free : (c : Change) (o : Result ℕ ℕ) (said : LifeEnd) (h : ℕ) (life : BenchLife) (b mid : Bench) (word : Word) (new : Bench) → Issued c life b o mid → HartCommand o said h mid word new → IsFree word → AsMany b new
held_free c (Ok n) said h life b mid word new i x free = many_then b mid new (issued_failure_free life.doubt c life b (Ok n) mid i tt) (as_many mid (off mid) new refl refl x.1)
held_free c (Err n) said h life b mid word new i (at, on, x) free = refuses_free Failed h at mid word new x free

resets_free : (asked : Result (ResetType × Reason) SbiError) (h : ℕ) (life : BenchLife) (b : Bench) (word : Word) (new : Bench) → Resets asked h life b word new → IsFree word → AsMany b new
resets_free (Err e) h life b word new x free = refuses_free e h life b word new x free
resets_free (Ok reset) h life b word new (o, mid, i, x) free = held_free (Reset reset.1) o (life_ends.Reset reset.0) h life b mid word new i x free

refused_held : {A : Type 0} (n : ℕ) (o : Result ℕ ℕ) (h : ℕ) (b : Bench) (word : Word) (new : Bench) → o ≡ Err n → HartCommand o life_ends.Asleep h b word new → IsFree word → A
refused_held n o h b word new e x free =
    let P : Result ℕ ℕ → Type 0 = λ r. HartCommand r life_ends.Asleep h b word new in
    let at = subst P e x in
    refuses_free Failed h at.0 b word new at.2 free

sleeps_held : (Fits : Type 0) (c : Change) (o : Result ℕ ℕ) (h : ℕ) (life : BenchLife) (b mid : Bench) (word : Word) (new : Bench) → SuspendIssued Fits c life b o mid → HartCommand o life_ends.Asleep h mid word new → IsFree word → AsMany b new
sleeps_held Fits c o h life b mid word new (inl i) x free = held_free c o life_ends.Asleep h life b mid word new i.1 x free
sleeps_held Fits c o h life b mid word new (inr (inl i)) x free = refused_held 11 o h mid word new i.1 x free
sleeps_held Fits c o h life b mid word new (inr (inr i)) x free = refused_held 3 o h mid word new i.1 x free

falls_free : (sleep : Sleep) (site opaque h : ℕ) (life : BenchLife) (b : Bench) (word : Word) (new : Bench) → BenchFallsAsleep sleep site opaque h life b word new → IsFree word → AsMany b new
falls_free ToRam site opaque h life b word new x free = as_many b (on_with (dozes h site opaque life) b) new refl refl x.1
falls_free ToDisk site opaque h life b word new (o, mid, i, x) free = sleeps_held _ _ o h life b mid word new i x free

by_free : (asked : Result (Sleep × ℕ) SbiError) (opaque h : ℕ) (life : BenchLife) (b : Bench) (word : Word) (new : Bench) → BenchSleepsBy asked opaque h life b word new → IsFree word → AsMany b new
by_free (Err e) opaque h life b word new x free = refuses_free e h life b word new x free
by_free (Ok asked) opaque h life b word new (inl x) free = refuses_free Denied h life b word new x.1 free
by_free (Ok asked) opaque h life b word new (inr x) free = falls_free asked.0 asked.1 opaque h life b word new x.1 free

makes_free : (call : Call) (h : ℕ) (life : BenchLife) (b : Bench) (word : Word) (new : Bench) → BenchMakesCall call h life b word new → IsFree word → AsMany b new
makes_free (calls.SystemReset kind reason) h life b word new x free = resets_free (reset_of kind reason) h life b word new x free
makes_free (calls.SystemSuspend kind address opaque) h life b word new (asked, checked, x) free = by_free asked opaque h life b word new x free
makes_free call h life b word new x free = refuses_free NotSupported h life b word new x free

pub comes_free : (did : Turned) (h : ℕ) (life : BenchLife) (b : Bench) (word : Word) (new : Bench) → ComesTo did h life b word new → IsFree word → AsMany b new
comes_free Durable h life b word new x free = makes_free (call_of (hart_at life.machine h)) h life b word new x free
comes_free (Made did) h life b word new x free = as_many b b new refl refl x.1

turn_free : (h : ℕ) (life : BenchLife) (b : Bench) (word : Word) (new : Bench) → GuestTurn h life b word new → IsFree word → AsMany b new
turn_free h life b word new (m, did, turned, x) free = let rest = comes_free did h (has_machine m life) (on_with (has_machine m life) b) word new x free in (rest.0, rest.1)

-- one turn
turns_free : (h n : ℕ) (b : Bench) (made : ℕ) (word : Word) (new : Bench) → GuestTurns h n b made word new → made ≡ 1 → IsFree word → AsMany b new
turns_free h zero b made word new x one free = absurd x
turns_free h (suc n) b made word new (life, on, said, mid, turned, inl x) one free =
    let P : Word → Type 0 = λ w. w ≢ words.Goes Next in
    many_then b mid new (turn_free h life b said mid turned (subst P x.2 free)) (as_many mid mid new refl refl x.3)
turns_free h (suc n) b made word new (life, on, said, mid, turned, inr x) one free =
    let P : ℕ → Type 0 = λ k. GuestTurns h n mid k word new in
    none_made h n mid word new (subst P (less x.2 made x.3 one) x.4)
  where
    less : (rest made : ℕ) → made ≡ suc rest → made ≡ 1 → rest ≡ 0
    less rest made e f = omega (arith, e, f)

turn_at : (p : Option BenchLife) (h n : ℕ) (b : Bench) (a : Answer) (new : Bench) → TurnStep p h n b a new → ShowsNoFailure a.line → AsMany b new
turn_at None h n b a new x failure_free = as_many b b new refl refl x.1
turn_at (Some life) h n b a new (inl (has, made, word, x, e)) failure_free =
    let is = of_answer a (printed.Shown (shown.Turn h made word)) e failure_free in
    turns_free h n b made word new x is.0 is.1
turn_at (Some life) h n b a new (inr x) failure_free = as_many b b new refl refl x.2

-- the answer of a call that may have been refused is not failure-free
call_free : (h : ℕ) (word : Word) (new : Bench) (a : Answer) → CallReported h word new a → ShowsNoFailure a.line → IsFree word
call_free h word new a reported failure_free e =
    let P : Word → Type 0 = λ w. CallReported h w new a in
    let at = subst P e reported in
    of_answer a (printed.Shown (shown.Answered h _ _)) at.2 failure_free

called_at : (called : Option Turned) (h : ℕ) (life : BenchLife) (b : Bench) (a : Answer) (new : Bench) → GuestCall called h life b a new → ShowsNoFailure a.line → AsMany b new
called_at None h life b a new x failure_free = as_many b b new refl refl x.1
called_at (Some did) h life b a new (word, x, reported) failure_free = comes_free did h life b word new x (call_free h word new a reported failure_free)

call_at : (p : Option BenchLife) (h : ℕ) (asked : CallWords) (b : Bench) (a : Answer) (new : Bench) → CallStep p h asked b a new → ShowsNoFailure a.line → AsMany b new
call_at None h asked b a new g failure_free = as_many b b new refl refl g.1
call_at (Some life) h asked b a new (inl (has, m, called, did, g)) failure_free =
    let rest = called_at called h (has_machine m life) (on_with (has_machine m life) b) a new g failure_free in (rest.0, rest.1)
call_at (Some life) h asked b a new (inr g) failure_free = as_many b b new refl refl g.2

asked_at : (b : Bench) (a : Answer) (new : Bench) → IsAsked b a new → ShowsNoFailure a.line → AsMany b new
asked_at b a new (inl (said, none, e, is)) failure_free = as_many b b new refl refl is
asked_at b a new (inr (inl x)) failure_free = absurd ((of_answer a (printed.InspectRefused 11) x.0 failure_free).1 refl)
asked_at b a new (inr (inr x)) failure_free = absurd ((of_answer a (printed.InspectRefused 5) x.0 failure_free).0 refl)

aside_many : (e : Effect) (b new : Bench) → new ≡ affected e b → AsMany b new
aside_many Stays b new x = as_many b b new refl refl x
aside_many e b new x = as_many b _ new refl refl x

step_failure_free : (size : Size) (deed : Deed) (b : Bench) (a : Answer) (new : Bench) → DeedStep size deed b a new → ShowsNoFailure a.line → AsMany b new
step_failure_free size deeds.Format b a new h failure_free = format_at b.power b a new h failure_free
step_failure_free size (deeds.PowerOn mode) b a new h failure_free = on_at size b.power mode b a new h failure_free
step_failure_free size (deeds.Issue c) b a new h failure_free = console_at c b.power b a new h failure_free
step_failure_free size (deeds.Turns x y) b a new h failure_free = turn_at b.power x y b a new h failure_free
step_failure_free size (deeds.Call i asked) b a new h failure_free = call_at b.power i asked b a new h failure_free
step_failure_free size (deeds.Ask question) b a new h failure_free = asked_at b a new (is_asked size question b.power b a new h) failure_free
step_failure_free size (deeds.Beside act) b a new h failure_free = aside_many (aside act b.power b.payloads).1 b new h.1

-- within a failure-free line no cut struck
moves_failure_free : (size : Size) (line : Line) (b : Bench) (a : Answer) (new : Bench) → Moves size line b a new → ShowsNoFailure a.line → AsMany b new
moves_failure_free size line b a new (inl h) failure_free = step_failure_free size (deed_of line) b a new h.0 failure_free
moves_failure_free size line b a new (inr h) failure_free = absurd (of_answer a printed.PowerLost h.4 failure_free)

run_failure_free : (size : Size) (ls : List Line) (b : Bench) (answers : List Answer) (end : Bench) → Run size b ls answers end → ShowNoFailure answers → AsMany b end
run_failure_free size [] b [] end h failure_free = as_many b b end refl refl h
run_failure_free size [] b (a ∷ answers) end h failure_free = absurd h
run_failure_free size (l ∷ ls) b [] end h failure_free = absurd h
run_failure_free size (l ∷ ls) b (a ∷ answers) end h failure_free =
    many_then b h.0 end (moves_failure_free size l b a h.0 h.1 failure_free.0) (run_failure_free size ls h.0 answers end h.2 failure_free.1)

pub failure_free_bench : (payloads : List (List ℕ)) (script : Script) (answers : List Answer) (end : Bench) → IsReportWith payloads script answers end → ShowNoFailure answers → IsFailureFree end
failure_free_bench payloads script [] end h failure_free = absurd h
failure_free_bench payloads script (board ∷ answers) end h failure_free = run_failure_free script.size script.lines (bench_with payloads) answers end h.1 failure_free.1
