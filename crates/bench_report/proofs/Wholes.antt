-- Each image that stands has the memory of its board, through whole runs: a suspension carries that memory,
-- and no other command makes an image. So no power-on is refused 13.
use Rattle.board_model.{specs.{declared.call_words.CallWords.CallWords, Kept.{Kept, found_of, MayKeep, TakesIn}}, proofs.Steps.whole_after}
use Rattle.board_model.specs.Durable.{DurableState, Change, Reset, Suspend, formatted, refusal_of, IsWhole, CarriesWhole}
use Rattle.board_model.specs.{Shapes.{Size, ram_bytes_of}, declared.{boot_mode.BootMode.BootMode, durable.{Reason.Reason, Trial.Trial}}}
use Rattle.board_model.specs.{declared.console_command.ConsoleCommand.ConsoleCommand, ConsoleCommands.console_change}
use Rattle.board_model.proofs.Console.{CarriesWhole-console}
use Rattle.std.proofs.Common.{◌≡◌, ◌≢◌, ◌+◌, ℕ, zero, suc, inl, inr, List, [], ◌∷◌, ◌++◌, Option, None, Some, Result, Ok, Err, refl, sym, ◌∙◌, ap, subst, arith}
use Rattle.std.specs.Bool.{⊤}
use Rattle.board_model.specs.declared.boot_mode.BootMode.TheVariants as modes
use Rattle.board.{specs.{Boots.boot_refusal, Moments.{attempts_of, commands_by}}, proofs.Issued.fold_more}
use Rattle.machine.specs.{Machine.{Machine, hart_at}, Turns.calling}
use Rattle.sbi.specs.{declared.{words.{Word.Word, LifeEnd.LifeEnd}, resets.ResetType.ResetType}, Resets.reset_of}
use Rattle.script_lang.specs.declared.line.Line.{Line}
use Rattle.sbi_abi.specs.{Calls.call_of, declared.{call.Call.Call, ret.SbiError.{SbiError, TheVariants.{Failed, NotSupported, Denied}}}}
use Rattle.sbi_abi.specs.declared.call.Call.TheVariants as calls
use Rattle.store.specs.Follows.{FitsBoard}
use Rattle.sbi_calls.specs.declared.words.Turned.{Turned, TheVariants.{Made, Durable}}
use Rattle.report_lines.specs.declared.printed.{Answer.Answer, Printed.Printed}
use Rattle.report_lines.specs.declared.printed.Printed.TheVariants as printed
use Rattle.bench_report.specs.{Bench.{DiskState, Blank, Unknown, Formatted, BenchLife, Bench}, Deeds.{Deed, deed_of, IsByFirmwareAlone}}
use Rattle.bench_report.specs.{Prefix.{AskedLine, Boot, asked_of, asked_by}, Reports.{IsByFirmware, AreByFirmware}}
use Rattle.bench_report.specs.Happens.{out_of_memory, failed, off, on_with, unpowered, armed_with, settled, has_machine, acknowledged, in_doubt}
use Rattle.bench_report.{specs.Commands.{Writes, IssuedBy, Issued, IssuesAll}, proofs.{Dozed.{turn_size, call_size}, Determined.begun_size}}
use Rattle.bench_report.specs.Turns.{refused, AnswersError, HartCommand, Resets, SuspendIssued, dozes, BenchFallsAsleep, BenchSleeps, BenchSleepsBy, BenchMakesCall, ComesTo, GuestTurn, GuestTurns}
use Rattle.bench_report.specs.PowerOns.{life_begun, FormatsOn, IsBooted, BootsFrom, Begins, Boots, Opens, IsOpenRefusal, PowersOn}
use Rattle.bench_report.specs.Steps.{FormatStep, OnStep, ConsoleStep, GuestCall, TurnStep, CallStep, DeedStep, DeedMoves, Moves, Run}
use Rattle.bench_report.proofs.{Table.{table_not_thirteen, mode_not_thirteen}, Beside.{OfFirmware, FitsPower, is_aside}}
use Rattle.bench_report.specs.Asides.{Effect, Stays, SetsPayloads, Arms, CutsPower, SetsDoze, WritesPast, aside, affected}
use Rattle.bench_report.proofs.{Questions.{IsAsked, is_asked}, Asks.firmware_alone}
use Rattle.bench_report.specs.Deeds as deeds
use Rattle.susp.specs.{declared.sleeps.Sleep.{Sleep, TheVariants.{ToRam, ToDisk}}, Dozes.doze_of}

-- a power-on was not refused 13
abbrev pub LoadsWhole : AskedLine → Answer → Type 0
LoadsWhole (Boot mode) a = a.line ≢ printed.OnRefused 13
LoadsWhole asked a = ⊤

abbrev pub BootsLoad : List Line → List Answer → Type 0
BootsLoad [] [] = ⊤
BootsLoad (line ∷ more) (a ∷ answers) = LoadsWhole (asked_by line) a × BootsLoad more answers
BootsLoad [] (a ∷ answers) = ⊥
BootsLoad (line ∷ more) [] = ⊥

-- ---- the states that an open may find
abbrev DoubtWhole : Size → Option Change → Type 0
DoubtWhole size None = ⊤
DoubtWhole size (Some c) = CarriesWhole size c

abbrev IsSized : Size → Option BenchLife → Type 0
IsSized size None = ⊤
IsSized size (Some life) = life.machine.size ≡ size

-- a formatted disk keeps commands that make whole images alone, and a board that is on is of the script's
-- size
abbrev pub IsKeptWhole : Size → Bench → Type 0
IsKeptWhole size b = (b.disk_state ≡ Formatted) × IsWhole size (found_of b.kept.changes) × DoubtWhole size b.kept.doubt × IsSized size b.power

more_whole : (size : Size) (changes : List Change) (c : Change) → IsWhole size (found_of changes) → CarriesWhole size c → IsWhole size (found_of (changes ++ c ∷ []))
more_whole size changes c w carries = let P : DurableState → Type 0 = IsWhole size in subst P (sym (fold_more formatted changes (c ∷ []))) (whole_after size (found_of changes) c w carries)

may_whole : (size : Size) (k : Kept) (d : Option Change) (changes : List Change) → k.doubt ≡ d → IsWhole size (found_of k.changes) → DoubtWhole size d → MayKeep k changes → IsWhole size (found_of changes)
may_whole size k d changes at w carries (inl e) = let P : List Change → Type 0 = λ cs. IsWhole size (found_of cs) in subst P (sym e) w
may_whole size k None changes at w carries (inr t) = let P : Option Change → Type 0 = λ d. TakesIn d k.changes changes in absurd (subst P at t)
may_whole size k (Some c) changes at w carries (inr t) =
    let P : Option Change → Type 0 = λ d. TakesIn d k.changes changes in
    let Q : List Change → Type 0 = λ cs. IsWhole size (found_of cs) in
    subst Q (sym (subst P at t).1) (more_whole size k.changes c w carries)

module _ (size : Size) where
  same_as : (b new : Bench) → new ≡ b → IsKeptWhole size b → IsKeptWhole size new
  same_as b new e h = let P : Bench → Type 0 = IsKeptWhole size in subst P (sym e) h

  sized : (life : BenchLife) (b : Bench) → b.power ≡ Some life → IsKeptWhole size b → life.machine.size ≡ size
  sized life b on h = let P : Option BenchLife → Type 0 = IsSized size in subst P on h.3

  -- ---- commands
  writes : (r : Option ℕ) (c : Change) (life : BenchLife) (b : Bench) (o : Result ℕ ℕ) (new : Bench) → CarriesWhole size c → b.power ≡ Some life → IsKeptWhole size b → Writes r c life b o new → IsKeptWhole size new
  writes (Some n) c life b o new carries on h w = same_as b new w.1 h
  writes None c life b o new carries on h (inl w) = same_as (acknowledged c life b) new w.1 (h.0, more_whole size b.kept.changes c h.1 carries, h.2, sized life b on h)
  writes None c life b o new carries on h (inr (inl w)) = same_as (failed w.1.0 b) new w.1.2 h
  writes None c life b o new carries on h (inr (inr w)) = same_as (failed w.1.0 (in_doubt c life b)) new w.1.2 (h.0, h.1, carries, sized life b on h)

  by_doubt : (d : Option Change) (c : Change) (life : BenchLife) (b : Bench) (o : Result ℕ ℕ) (new : Bench) → CarriesWhole size c → b.power ≡ Some life → IsKeptWhole size b → IssuedBy d c life b o new → IsKeptWhole size new
  by_doubt (Some d) c life b o new carries on h i = same_as b new i.1 h
  by_doubt None c life b o new carries on h (inl i) = same_as b new i.2 h
  by_doubt None c life b o new carries on h (inr i) = writes (refusal_of life.now c) c life b o new carries on h i.1

  issued : (c : Change) (life : BenchLife) (b : Bench) (o : Result ℕ ℕ) (new : Bench) → CarriesWhole size c → b.power ≡ Some life → IsKeptWhole size b → Issued c life b o new → IsKeptWhole size new
  issued c life b o new carries on h i = by_doubt life.doubt c life b o new carries on h i

  abbrev AllCarry : List Change → Type 0
  AllCarry [] = ⊤
  AllCarry (c ∷ cs) = CarriesWhole size c × AllCarry cs

  all : (cs : List Change) (b : Bench) (o : Result ℕ ℕ) (new : Bench) → AllCarry cs → IsKeptWhole size b → IssuesAll cs b o new → IsKeptWhole size new
  all [] b o new carry h x = same_as b new x.1 h
  all (c ∷ cs) b o new carry h (life, on, first, mid, i, inl x) = all cs mid o new carry.1 (issued c life b first mid carry.0 on h i) x.2
  all (c ∷ cs) b o new carry h (life, on, first, mid, i, inr x) = same_as mid new x.3 (issued c life b first mid carry.0 on h i)

  -- ---- turns and calls of harts
  refuses : (e : SbiError) (h : ℕ) (life : BenchLife) (b : Bench) (word : Word) (new : Bench) → b.power ≡ Some life → IsKeptWhole size b → AnswersError e h life b word new → IsKeptWhole size new
  refuses e h life b word new on k x = same_as (on_with (refused h e life) b) new x.1 (k.0, k.1, k.2, sized life b on k)

  held : (o : Result ℕ ℕ) (said : LifeEnd) (h : ℕ) (b : Bench) (word : Word) (new : Bench) → IsKeptWhole size b → HartCommand o said h b word new → IsKeptWhole size new
  held (Ok n) said h b word new k x = same_as (off b) new x.1 (k.0, k.1, k.2, tt)
  held (Err n) said h b word new k (life, on, x) = refuses Failed h life b word new on k x

  resets : (asked : Result (ResetType × Reason) SbiError) (h : ℕ) (life : BenchLife) (b : Bench) (word : Word) (new : Bench) → b.power ≡ Some life → IsKeptWhole size b → Resets asked h life b word new → IsKeptWhole size new
  resets (Err e) h life b word new on k x = refuses e h life b word new on k x
  resets (Ok reset) h life b word new on k (o, mid, i, x) = held o _ h mid word new (issued (Reset reset.1) life b o mid tt on k i) x

  suspends : (Fits : Type 0) (c : Change) (life : BenchLife) (b : Bench) (o : Result ℕ ℕ) (new : Bench) → (Fits → CarriesWhole size c) → b.power ≡ Some life → IsKeptWhole size b → SuspendIssued Fits c life b o new → IsKeptWhole size new
  suspends Fits c life b o new carries on k (inl x) = issued c life b o new (carries x.0) on k x.1
  suspends Fits c life b o new carries on k (inr (inl x)) = same_as (out_of_memory b) new x.2 k
  suspends Fits c life b o new carries on k (inr (inr x)) = same_as b new x.2 k

  fits_whole : (life : BenchLife) (id site opaque : ℕ) → life.machine.size ≡ size → FitsBoard life.machine.size life.machine.memory id site → CarriesWhole size (Suspend id site opaque life.machine.memory)
  fits_whole life id site opaque e fits = fits.0 ∙ ap ram_bytes_of e

  falls : (sleep : Sleep) (site opaque h : ℕ) (life : BenchLife) (b : Bench) (word : Word) (new : Bench) → b.power ≡ Some life → IsKeptWhole size b → BenchFallsAsleep sleep site opaque h life b word new → IsKeptWhole size new
  falls ToRam site opaque h life b word new on k x = same_as (on_with (dozes h site opaque life) b) new x.1 (k.0, k.1, k.2, sized life b on k)
  falls ToDisk site opaque h life b word new on k (o, mid, i, x) =
      let id = (hart_at life.machine h).id in
      held o _ h mid word new (suspends _ (Suspend id site opaque life.machine.memory) life b o mid (λ fits. fits_whole life id site opaque (sized life b on k) fits) on k i) x

  sleeps : (sleep : Sleep) (site opaque h : ℕ) (life : BenchLife) (b : Bench) (word : Word) (new : Bench) → b.power ≡ Some life → IsKeptWhole size b → BenchSleeps sleep site opaque h life b word new → IsKeptWhole size new
  sleeps sleep site opaque h life b word new on k (inl x) = refuses Denied h life b word new on k x.1
  sleeps sleep site opaque h life b word new on k (inr x) = falls sleep site opaque h life b word new on k x.1

  by_check : (asked : Result (Sleep × ℕ) SbiError) (opaque h : ℕ) (life : BenchLife) (b : Bench) (word : Word) (new : Bench) → b.power ≡ Some life → IsKeptWhole size b → BenchSleepsBy asked opaque h life b word new → IsKeptWhole size new
  by_check (Err e) opaque h life b word new on k x = refuses e h life b word new on k x
  by_check (Ok asked) opaque h life b word new on k x = sleeps asked.0 asked.1 opaque h life b word new on k x

  makes : (call : Call) (h : ℕ) (life : BenchLife) (b : Bench) (word : Word) (new : Bench) → b.power ≡ Some life → IsKeptWhole size b → BenchMakesCall call h life b word new → IsKeptWhole size new
  makes (calls.SystemReset kind reason) h life b word new on k x = resets (reset_of kind reason) h life b word new on k x
  makes (calls.SystemSuspend kind address opaque) h life b word new on k (asked, checked, x) = by_check asked opaque h life b word new on k x
  makes call h life b word new on k x = refuses NotSupported h life b word new on k x

  comes : (did : Turned) (h : ℕ) (life : BenchLife) (b : Bench) (word : Word) (new : Bench) → b.power ≡ Some life → IsKeptWhole size b → ComesTo did h life b word new → IsKeptWhole size new
  comes Durable h life b word new on k x = makes (call_of (hart_at life.machine h)) h life b word new on k x
  comes (Made did) h life b word new on k x = same_as b new x.1 k

  -- the life goes on with another machine of its size
  goes_on : (m : Machine) (life : BenchLife) (b : Bench) → m.size ≡ life.machine.size → b.power ≡ Some life → IsKeptWhole size b → IsKeptWhole size (on_with (has_machine m life) b)
  goes_on m life b same on k = (k.0, k.1, k.2, same ∙ sized life b on k)

  turn : (h : ℕ) (life : BenchLife) (b : Bench) (word : Word) (new : Bench) → b.power ≡ Some life → IsKeptWhole size b → GuestTurn h life b word new → IsKeptWhole size new
  turn h life b word new on k (m, did, turned, x) =
      comes did h (has_machine m life) (on_with (has_machine m life) b) word new refl (goes_on m life b (turn_size (doze_of h life.machine.doze) h life.machine m did turned) on k) x

  turns : (h n : ℕ) (b : Bench) (made : ℕ) (word : Word) (new : Bench) → IsKeptWhole size b → GuestTurns h n b made word new → IsKeptWhole size new
  turns h zero b made word new k x = absurd x
  turns h (suc n) b made word new k (life, on, said, mid, one, inl x) = same_as mid new x.3 (turn h life b said mid on k one)
  turns h (suc n) b made word new k (life, on, said, mid, one, inr x) = turns h n mid x.2 word new (turn h life b said mid on k one) x.4

  turn_line : (p : Option BenchLife) (h n : ℕ) (b : Bench) (a : Answer) (new : Bench) → IsKeptWhole size b → TurnStep p h n b a new → IsKeptWhole size new
  turn_line None h n b a new k x = same_as b new x.1 k
  turn_line (Some life) h n b a new k (inl (has, made, word, x, e)) = turns h n b made word new k x
  turn_line (Some life) h n b a new k (inr x) = same_as b new x.2 k

  called : (did : Option Turned) (h : ℕ) (life : BenchLife) (b : Bench) (a : Answer) (new : Bench) → b.power ≡ Some life → IsKeptWhole size b → GuestCall did h life b a new → IsKeptWhole size new
  called None h life b a new on k x = same_as b new x.1 k
  called (Some did) h life b a new on k (word, x, e) = comes did h life b word new on k x

  call_line : (p : Option BenchLife) (h : ℕ) (asked : CallWords) (b : Bench) (a : Answer) (new : Bench) → b.power ≡ p → IsKeptWhole size b → CallStep p h asked b a new → IsKeptWhole size new
  call_line None h asked b a new on k g = same_as b new g.1 k
  call_line (Some life) h asked b a new on k (inl (has, m, did, call, g)) =
      called did h (has_machine m life) (on_with (has_machine m life) b) a new refl (goes_on m life b (call_size (doze_of h life.machine.doze) h (calling (hart_at life.machine h) asked) life.machine m did call) on k) g
  call_line (Some life) h asked b a new on k (inr g) = same_as b new g.2 k

  -- ---- power on
  attempts_carry : (trial : Option Trial) → AllCarry (attempts_of trial)
  attempts_carry None = tt
  attempts_carry (Some t) = (tt, tt)

  each_carries : (mode : BootMode) (s : DurableState) → AllCarry (commands_by mode s)
  each_carries modes.Fresh s = attempts_carry s.trial
  each_carries modes.Keep s = attempts_carry s.trial
  each_carries modes.Discard s = (tt, attempts_carry s.trial)
  each_carries modes.Resume s = (tt, tt)

  is_on : (o : Result ℕ ℕ) (mode : BootMode) (z : Size) (s : DurableState) (b : Bench) (line : Printed) (new : Bench) → z ≡ size → IsKeptWhole size b → IsBooted o mode z s b line new → IsKeptWhole size new
  is_on (Ok n) mode z s b line new same k (life, on, said, m, is, e) = same_as (on_with (has_machine m life) b) new e (k.0, k.1, k.2, begun_size mode z b.payloads s m is ∙ same)
  is_on (Err n) mode z s b line new same k x = same_as (off b) new x.1 (k.0, k.1, k.2, tt)

  starts : (mode : BootMode) (z : Size) (s : DurableState) (b : Bench) (line : Printed) (new : Bench) → z ≡ size → IsKeptWhole size b → BootsFrom mode z s b line new → IsKeptWhole size new
  starts mode z s b line new same k (o, mid, x, on) = is_on o mode z s mid line new same (all (commands_by mode s) (on_with (life_begun s z) b) o mid (each_carries mode s) (k.0, k.1, k.2, same) x) on

  begins : (mode : BootMode) (z : Size) (s : DurableState) (b : Bench) (line : Printed) (new : Bench) → z ≡ size → IsKeptWhole size b → Begins mode z s b line new → IsKeptWhole size new
  begins modes.Fresh z s b line new same k x = starts modes.Fresh z s b line new same k x
  begins modes.Keep z s b line new same k x = starts modes.Keep z s b line new same k x
  begins modes.Discard z s b line new same k x = starts modes.Discard z s b line new same k x
  begins modes.Resume z s b line new same k (inl x) = starts modes.Resume z s b line new same k x
  begins modes.Resume z s b line new same k (inr x) = same_as b new x.2 k

  boots : (r : Option ℕ) (mode : BootMode) (z : Size) (s : DurableState) (b : Bench) (line : Printed) (new : Bench) → z ≡ size → IsKeptWhole size b → Boots r mode z s b line new → IsKeptWhole size new
  boots (Some n) mode z s b line new same k x = same_as b new x.1 k
  boots None mode z s b line new same k (inl x) = begins mode z s b line new same k x.1
  boots None mode z s b line new same k (inr (inl x)) = same_as b new x.2 k
  boots None mode z s b line new same k (inr (inr x)) = same_as (out_of_memory b) new x.2 k

  -- an open finds a state whose image is whole, for a board of the script's size
  opens : (m : DiskState) (b : Bench) (s : DurableState) (z : Size) (mid : Bench) → b.disk_state ≡ m → b.power ≡ None → IsKeptWhole size b → Opens size m b s z mid → IsWhole size s × (z ≡ size) × IsKeptWhole size mid
  opens Blank b s z mid at off k x = absurd x
  opens Unknown b s z mid at off k x = absurd (let e : Unknown ≡ Formatted = sym at ∙ k.0 in let no : ⊥ = cc in no)
  opens Formatted b s z mid at off k (changes, may, is, same, e) =
      let P : DurableState → Type 0 = IsWhole size in
      let whole : IsWhole size (found_of changes) = may_whole size b.kept b.kept.doubt changes refl k.1 k.2 may in
      (subst P (sym is) whole, same, same_as (settled changes b) mid e (k.0, whole, tt, k.3))

  powers : (mode : BootMode) (b : Bench) (a : Answer) (new : Bench) → b.power ≡ None → IsKeptWhole size b → PowersOn size mode b a new → IsKeptWhole size new
  powers mode b a new none k (inl (s, z, mid, found, shows, x)) =
      let at = opens b.disk_state b s z mid refl none k found in
      boots (boot_refusal s mode) mode z s mid a.line new at.1 at.2 x
  powers mode b a new none k (inr (inl x)) = same_as b new x.3 k
  powers mode b a new none k (inr (inr (inl x))) = same_as (out_of_memory b) new x.2 k
  powers mode b a new none k (inr (inr (inr x))) = same_as (failed x.1.0 b) new x.1.2 k

  -- ---- lines
  on_line : (p : Option BenchLife) (mode : BootMode) (b : Bench) (a : Answer) (new : Bench) → b.power ≡ p → IsKeptWhole size b → OnStep size p mode b a new → IsKeptWhole size new
  on_line None mode b a new none k x = powers mode b a new none k x
  on_line (Some life) mode b a new on k x = same_as b new x.1 k

  formats : (m : DiskState) (b : Bench) (a : Answer) (new : Bench) → b.disk_state ≡ m → IsKeptWhole size b → FormatsOn m b a new → IsKeptWhole size new
  formats Blank b a new at k x = absurd (let e : Blank ≡ Formatted = sym at ∙ k.0 in let no : ⊥ = cc in no)
  formats Unknown b a new at k x = absurd (let e : Unknown ≡ Formatted = sym at ∙ k.0 in let no : ⊥ = cc in no)
  formats Formatted b a new at k (inl x) = same_as b new x.1 k
  formats Formatted b a new at k (inr x) = same_as (failed x.1.0 b) new x.1.2 k

  format_line : (p : Option BenchLife) (b : Bench) (a : Answer) (new : Bench) → IsKeptWhole size b → FormatStep p b a new → IsKeptWhole size new
  format_line None b a new k x = formats b.disk_state b a new refl k x
  format_line (Some life) b a new k x = same_as b new x.1 k

  console : (c : ConsoleCommand) (p : Option BenchLife) (b : Bench) (a : Answer) (new : Bench) → b.power ≡ p → IsKeptWhole size b → ConsoleStep c p b a new → IsKeptWhole size new
  console c None b a new on k x = same_as b new x.1 k
  console c (Some life) b a new on k (o, i, e) = issued (console_change c) life b o new (CarriesWhole-console c size) on k i

  asked_line : (b : Bench) (a : Answer) (new : Bench) → IsKeptWhole size b → IsAsked b a new → IsKeptWhole size new
  asked_line b a new k (inl (said, none, e, is)) = same_as b new is k
  asked_line b a new k (inr (inl x)) = same_as (out_of_memory b) new x.1 k
  asked_line b a new k (inr (inr x)) = same_as (failed x.1.0 b) new x.1.2 k

  aside_line : (e : Effect) (b new : Bench) → OfFirmware e → FitsPower b.power e → IsKeptWhole size b → new ≡ affected e b → IsKeptWhole size new
  aside_line Stays b new by fits k x = same_as b new x k
  aside_line (SetsPayloads payloads) b new by fits k x = same_as _ new x k
  aside_line (Arms fault) b new by fits k x = same_as (armed_with fault b) new x k
  aside_line CutsPower b new by fits k x = same_as (unpowered b) new x (k.0, k.1, k.2, tt)
  aside_line (SetsDoze doze life) b new by fits k x = same_as _ new x (k.0, k.1, k.2, sized life b fits k)
  aside_line WritesPast b new by fits k x = absurd by

  step : (deed : Deed) (b : Bench) (a : Answer) (new : Bench) → IsByFirmwareAlone deed → IsKeptWhole size b → DeedStep size deed b a new → IsKeptWhole size new
  step deeds.Format b a new by k h = format_line b.power b a new k h
  step (deeds.PowerOn mode) b a new by k h = on_line b.power mode b a new refl k h
  step (deeds.Issue c) b a new by k h = console c b.power b a new refl k h
  step (deeds.Turns x y) b a new by k h = turn_line b.power x y b a new k h
  step (deeds.Call i asked) b a new by k h = call_line b.power i asked b a new refl k h
  step (deeds.Ask question) b a new by k h = asked_line b a new k (is_asked size question b.power b a new h)
  step (deeds.Beside act) b a new by k h = let is = is_aside act b.power b.payloads in aside_line (aside act b.power b.payloads).1 b new (is.firmware by) is.fits k h.1

  moves : (line : Line) (b : Bench) (a : Answer) (new : Bench) → IsByFirmware line → IsKeptWhole size b → Moves size line b a new → IsKeptWhole size new
  moves line b a new by k (inl h) = step (deed_of line) b a new (firmware_alone line by) k h.0
  moves line b a new by k (inr (would, mid, h, struck, e, is)) = let at = step (deed_of line) b would mid (firmware_alone line by) k h in same_as (unpowered mid) new is (at.0, at.1, at.2, tt)

  -- ---- no power-on is refused 13
  abbrev NotThirteen : Printed → Type 0
  NotThirteen line = line ≢ printed.OnRefused 13

  number : (line : Printed) (n : ℕ) → line ≡ printed.OnRefused n → n ≢ 13 → NotThirteen line
  number line n e differs f = let g : printed.OnRefused n ≡ printed.OnRefused 13 = sym e ∙ f in differs (let h : n ≡ 13 = cc in h)

  answered : (a : Answer) (line : Printed) → a ≡ record { found = None; line = line } → NotThirteen line → NotThirteen a.line
  answered a line e not f = not (ap (λ (x : Answer). x.line) (sym e) ∙ f)

  err_as : (o : Result ℕ ℕ) (n k : ℕ) → o ≡ Err n → o ≡ Err k → n ≡ k
  err_as o n k e f = let g : ◌≡◌ {A = Result ℕ ℕ} (Err n) (Err k) = sym e ∙ f in let h : n ≡ k = cc in h

  ok_not : {A : Type 0} (o : Result ℕ ℕ) (n k : ℕ) → o ≡ Ok n → o ≡ Err k → A
  ok_not o n k e f = let g : ◌≡◌ {A = Result ℕ ℕ} (Ok n) (Err k) = sym e ∙ f in absurd (let no : ⊥ = cc in no)

  writes_not : (r : Option ℕ) (c : Change) (life : BenchLife) (b : Bench) (o : Result ℕ ℕ) (new : Bench) → refusal_of life.now c ≡ r → Writes r c life b o new → o ≢ Err 13
  writes_not (Some n) c life b o new table w f = table_not_thirteen life.now c n table (err_as o n 13 w.0 f)
  writes_not None c life b o new table (inl w) f = ok_not o (life.receipts + 1) 13 w.0 f
  writes_not None c life b o new table (inr (inl w)) f = let e : 5 ≡ 13 = err_as o 5 13 w.0 f in omega (arith, e)
  writes_not None c life b o new table (inr (inr w)) f = let e : 6 ≡ 13 = err_as o 6 13 w.0 f in omega (arith, e)

  by_not : (d : Option Change) (c : Change) (life : BenchLife) (b : Bench) (o : Result ℕ ℕ) (new : Bench) → IssuedBy d c life b o new → o ≢ Err 13
  by_not (Some d) c life b o new i f = let e : 6 ≡ 13 = err_as o 6 13 i.0 f in omega (arith, e)
  by_not None c life b o new (inl i) f = let e : 10 ≡ 13 = err_as o 10 13 i.1 f in omega (arith, e)
  by_not None c life b o new (inr i) f = writes_not (refusal_of life.now c) c life b o new refl i.1 f

  all_not : (cs : List Change) (b : Bench) (o : Result ℕ ℕ) (new : Bench) → IssuesAll cs b o new → o ≢ Err 13
  all_not [] b o new x f = ok_not o 0 13 x.0 f
  all_not (c ∷ cs) b o new (life, on, first, mid, i, inl x) f = all_not cs mid o new x.2 f
  all_not (c ∷ cs) b o new (life, on, first, mid, i, inr (n, err, same, e)) f =
      by_not life.doubt c life b first mid i (err ∙ ap (λ k. Err k) (err_as o n 13 same f))

  is_on_not : (o : Result ℕ ℕ) (mode : BootMode) (z : Size) (s : DurableState) (b : Bench) (line : Printed) (new : Bench) → o ≢ Err 13 → IsBooted o mode z s b line new → NotThirteen line
  is_on_not (Ok n) mode z s b line new differs (life, on, said, m, is, e) = λ f. (let g : printed.On mode ≡ printed.OnRefused 13 = sym said ∙ f in let no : ⊥ = cc in no)
  is_on_not (Err n) mode z s b line new differs x = number line n x.0 (λ e. differs (ap (λ k. Err k) e))

  starts_not : (mode : BootMode) (z : Size) (s : DurableState) (b : Bench) (line : Printed) (new : Bench) → BootsFrom mode z s b line new → NotThirteen line
  starts_not mode z s b line new (o, mid, x, on) = is_on_not o mode z s mid line new (all_not (commands_by mode s) (on_with (life_begun s z) b) o mid x) on

  begins_not : (mode : BootMode) (z : Size) (s : DurableState) (b : Bench) (line : Printed) (new : Bench) → IsWhole z s → Begins mode z s b line new → NotThirteen line
  begins_not modes.Fresh z s b line new whole x = starts_not modes.Fresh z s b line new x
  begins_not modes.Keep z s b line new whole x = starts_not modes.Keep z s b line new x
  begins_not modes.Discard z s b line new whole x = starts_not modes.Discard z s b line new x
  begins_not modes.Resume z s b line new whole (inl x) = starts_not modes.Resume z s b line new x
  begins_not modes.Resume z s b line new whole (inr x) = absurd (x.0 whole)

  boots_not : (r : Option ℕ) (mode : BootMode) (z : Size) (s : DurableState) (b : Bench) (line : Printed) (new : Bench) → boot_refusal s mode ≡ r → IsWhole z s → Boots r mode z s b line new → NotThirteen line
  boots_not (Some n) mode z s b line new table whole x = number line n x.0 (mode_not_thirteen s mode n table)
  boots_not None mode z s b line new table whole (inl x) = begins_not mode z s b line new whole x.1
  boots_not None mode z s b line new table whole (inr (inl x)) = number line 3 x.1 (λ e. omega (arith, e))
  boots_not None mode z s b line new table whole (inr (inr x)) = number line 11 x.1 (λ e. omega (arith, e))

  powers_not : (mode : BootMode) (b : Bench) (a : Answer) (new : Bench) → b.power ≡ None → IsKeptWhole size b → PowersOn size mode b a new → NotThirteen a.line
  powers_not mode b a new none k (inl (s, z, mid, found, shows, x)) =
      let at = opens b.disk_state b s z mid refl none k found in
      let P : Size → Type 0 = λ y. IsWhole y s in
      boots_not (boot_refusal s mode) mode z s mid a.line new refl (subst P (sym at.1) at.0) x
  powers_not mode b a new none k (inr (inl x)) = let P : DiskState → Type 0 = λ m. IsOpenRefusal m x.0 in absurd (subst P k.0 x.1)
  powers_not mode b a new none k (inr (inr (inl x))) = answered a (printed.OnRefused 11) x.1 (number (printed.OnRefused 11) 11 refl (λ e. omega (arith, e)))
  powers_not mode b a new none k (inr (inr (inr x))) = answered a (printed.OnRefused 5) x.0 (number (printed.OnRefused 5) 5 refl (λ e. omega (arith, e)))

  on_not : (p : Option BenchLife) (mode : BootMode) (b : Bench) (a : Answer) (new : Bench) → b.power ≡ p → IsKeptWhole size b → OnStep size p mode b a new → NotThirteen a.line
  on_not None mode b a new none k x = powers_not mode b a new none k x
  on_not (Some life) mode b a new on k x = answered a printed.Busy x.0 (λ f. (let no : ⊥ = cc in no))

  pub loaded_on : (mode : BootMode) (b : Bench) (a : Answer) (new : Bench) → IsKeptWhole size b → DeedMoves size (deeds.PowerOn mode) b a new → NotThirteen a.line
  loaded_on mode b a new k (inl h) = on_not b.power mode b a new refl k h.0
  loaded_on mode b a new k (inr (would, mid, h, struck, e, is)) = answered a printed.PowerLost e (λ f. (let no : ⊥ = cc in no))

  loaded : (deed : Deed) (b : Bench) (a : Answer) (new : Bench) → IsKeptWhole size b → DeedMoves size deed b a new → LoadsWhole (asked_of deed) a
  loaded (deeds.PowerOn mode) b a new k h = loaded_on mode b a new k h
  loaded deed b a new k h = tt

  pub all_loaded : (ls : List Line) (b : Bench) (answers : List Answer) (end : Bench) → AreByFirmware ls → IsKeptWhole size b → Run size b ls answers end → BootsLoad ls answers
  all_loaded [] b [] end by k run = tt
  all_loaded (l ∷ ls) b (a ∷ answers) end by k run = (loaded (deed_of l) b a run.0 k run.1, all_loaded ls run.0 answers end by.1 (moves l b a run.0 by.0 k run.1) run.2)
  all_loaded [] b (a ∷ answers) end by k run = absurd run
  all_loaded (l ∷ ls) b [] end by k run = absurd run
