-- What is counted of refused memory: by each command and power-on, and by a line that no hart moves by.
use Rattle.std.{proofs.Common.{◌≡◌, ◌⊎◌, ℕ, inl, inr, List, [], ◌∷◌, Option, None, Some, Result, Ok, Err, refl, sym, ◌∙◌, ap, subst}, specs.Bool.⊤}
use Rattle.board.specs.{Boots.boot_refusal, Moments.commands_by}
use Rattle.board_model.specs.{ConsoleCommands.console_change, Durable.{DurableState, Change, refusal_of}, Shapes.Size}
use Rattle.board_model.specs.declared.{boot_mode.BootMode.BootMode, console_command.ConsoleCommand.ConsoleCommand}
use Rattle.board_model.specs.declared.boot_mode.BootMode.TheVariants as modes
use Rattle.report_lines.specs.declared.printed.{Answer.Answer, Printed.Printed}
use Rattle.report_lines.specs.declared.printed.Printed.TheVariants as printed
use Rattle.bench_report.specs.{Asides.{Effect, Stays, aside, affected}, Bench.{DiskState, Blank, Unknown, Formatted, BenchLife, Bench}}
use Rattle.bench_report.specs.{Commands.{IssuedBy, IssuesAll, Writes}, Deeds.{Deed, IsNoRow}, Steps.{ConsoleStep, DeedStep, FormatStep, OnStep}}
use Rattle.bench_report.specs.Happens.{FailsByFault, SaysEnough, acknowledged, failed, formatted_anew, has_machine, in_doubt, off, on_with, settled, unknown}
use Rattle.bench_report.specs.PowerOns.{Begins, Boots, BootsFrom, FormatsOn, IsBooted, Opens, PowersOn, life_begun}
use Rattle.bench_report.proofs.Questions.{IsAsked, is_asked}
use Rattle.bench_report.specs.Deeds as deeds

-- no more refusals of memory are counted
abbrev pub Counts : Bench → Bench → Type 0
Counts b new = new.growths ≡ b.growths

-- no more are counted, or there is a reason why one is
abbrev pub Grows : Type 0 → Bench → Bench → Type 0
Grows Why b new = Counts b new ⊎ Why

as_in : (b new n : Bench) → new ≡ n → Counts b n → Counts b new
as_in b new n e is = ap (λ (x : Bench). x.growths) e ∙ is

keeps_then : (b mid new : Bench) → Counts b mid → Counts mid new → Counts b new
keeps_then b mid new x y = y ∙ x

fails : (b c new : Bench) → FailsByFault c new → Counts b c → Counts b new
fails b c new (m, cause, e) is = as_in b new (failed m c) e is

-- ---- commands
pub issued_keeps : (d : Option Change) (c : Change) (life : BenchLife) (b : Bench) (o : Result ℕ ℕ) (x : Bench) → IssuedBy d c life b o x → Counts b x
issued_keeps d c life b o x issued = by d issued
  where
    writes : (r : Option ℕ) → Writes r c life b o x → Counts b x
    writes (Some n) w = as_in b x b w.1 refl
    writes None (inl w) = as_in b x (acknowledged c life b) w.1 refl
    writes None (inr (inl w)) = fails b b x w.1 refl
    writes None (inr (inr w)) = fails b (in_doubt c life b) x w.1 refl

    by : (d : Option Change) → IssuedBy d c life b o x → Counts b x
    by (Some e) i = as_in b x b i.1 refl
    by None (inl i) = as_in b x b i.2 refl
    by None (inr i) = writes (refusal_of life.now c) i.1

all_keep : (cs : List Change) (b : Bench) (o : Result ℕ ℕ) (new : Bench) → IssuesAll cs b o new → Counts b new
all_keep [] b o new x = as_in b new b x.1 refl
all_keep (c ∷ cs) b o new (life, on, first, mid, issued, inl (n, ok, rest)) = keeps_then b mid new (issued_keeps life.doubt c life b first mid issued) (all_keep cs mid o new rest)
all_keep (c ∷ cs) b o new (life, on, first, mid, issued, inr (n, err, e, is)) = as_in b new mid is (issued_keeps life.doubt c life b first mid issued)

pub console_keeps : (c : ConsoleCommand) (p : Option BenchLife) (b : Bench) (a : Answer) (new : Bench) → ConsoleStep c p b a new → Counts b new
console_keeps c None b a new x = as_in b new b x.1 refl
console_keeps c (Some life) b a new (o, issued, e) = issued_keeps life.doubt (console_change c) life b o new issued

-- ---- a format, and a power-on
formats : (m : DiskState) (b : Bench) (a : Answer) (new : Bench) → FormatsOn m b a new → Counts b new
formats Blank b a new (inl x) = as_in b new (formatted_anew b) x.1 refl
formats Blank b a new (inr x) = fails b (unknown b) new x.1 refl
formats Unknown b a new (inl x) = as_in b new (formatted_anew b) x.1 refl
formats Unknown b a new (inr (inl x)) = fails b b new x.1 refl
formats Unknown b a new (inr (inr x)) = as_in b new b x.3 refl
formats Formatted b a new (inl x) = as_in b new b x.1 refl
formats Formatted b a new (inr x) = fails b b new x.1 refl

format_line : (p : Option BenchLife) (b : Bench) (a : Answer) (new : Bench) → FormatStep p b a new → Counts b new
format_line (Some life) b a new x = as_in b new b x.1 refl
format_line None b a new x = formats b.disk_state b a new x

-- what is said is a refusal of memory
abbrev pub Refuses : Printed → Type 0
Refuses line = SaysEnough line → ⊥

refuses_as : (line said : Printed) → line ≡ said → Refuses said → Refuses line
refuses_as line said e is = let P : Printed → Type 0 = Refuses in subst P (sym e) is

module _ (z : Size) (s : DurableState) (b : Bench) (line : Printed) (new : Bench) where
  from : (mode : BootMode) → BootsFrom mode z s b line new → Counts b new
  from mode (o, mid, issues, booted) = keeps_then b mid new (all_keep (commands_by mode s) (on_with (life_begun s z) b) o mid issues) (by o booted)
    where
      by : (o : Result ℕ ℕ) → IsBooted o mode z s mid line new → Counts mid new
      by (Ok n) (life, on, said, m, begun, e) = as_in mid new (on_with (has_machine m life) mid) e refl
      by (Err n) did = as_in mid new (off mid) did.1 refl

  begins : (mode : BootMode) → Begins mode z s b line new → Counts b new
  begins modes.Fresh x = from modes.Fresh x
  begins modes.Keep x = from modes.Keep x
  begins modes.Discard x = from modes.Discard x
  begins modes.Resume (inl x) = from modes.Resume x
  begins modes.Resume (inr x) = as_in b new b x.2 refl

  boots : (r : Option ℕ) (mode : BootMode) → Boots r mode z s b line new → Grows (Refuses line) b new
  boots (Some n) mode x = inl (ap (λ (y : Bench). y.growths) x.1)
  boots None mode (inl x) = inl (begins mode x.1)
  boots None mode (inr (inl x)) = inl (ap (λ (y : Bench). y.growths) x.2)
  boots None mode (inr (inr x)) = inr (refuses_as line (printed.OnRefused 11) x.1 (λ not. not refl))

-- an open counts nothing
opens : (size : Size) (m : DiskState) (b : Bench) (s : DurableState) (z : Size) (new : Bench) → Opens size m b s z new → Counts b new
opens size Blank b s z new x = absurd x
opens size Unknown b s z new x = as_in b new b x refl
opens size Formatted b s z new (changes, may, found, sized, is) = as_in b new (settled changes b) is refl

behind : {Why : Type 0} (b mid new : Bench) → Counts b mid → Grows Why mid new → Grows Why b new
behind b mid new was (inl x) = inl (keeps_then b mid new was x)
behind b mid new was (inr x) = inr x

power_grows : (size : Size) (mode : BootMode) (b : Bench) (a : Answer) (new : Bench) → PowersOn size mode b a new → Grows (Refuses a.line) b new
power_grows size mode b a new (inl (s, z, mid, opened, shows_it, booted)) = behind b mid new (opens size b.disk_state b s z mid opened) (boots z s mid a.line new (boot_refusal s mode) mode booted)
power_grows size mode b a new (inr (inl (n, refusal, e, is))) = inl (ap (λ (x : Bench). x.growths) is)
power_grows size mode b a new (inr (inr (inl x))) = inr (refuses_as a.line (printed.OnRefused 11) (ap (λ (y : Answer). y.line) x.1) (λ not. not refl))
power_grows size mode b a new (inr (inr (inr x))) = inl (fails b b new x.1 refl)

on_line : (size : Size) (mode : BootMode) (p : Option BenchLife) (b : Bench) (a : Answer) (new : Bench) → OnStep size p mode b a new → Grows (Refuses a.line) b new
on_line size mode (Some life) b a new x = inl (ap (λ (y : Bench). y.growths) x.1)
on_line size mode None b a new x = power_grows size mode b a new x

-- ---- a line that is no row of turns
asked_line : (b : Bench) (a : Answer) (new : Bench) → IsAsked b a new → Grows (Refuses a.line) b new
asked_line b a new (inl (said, none, e, is)) = inl (ap (λ (x : Bench). x.growths) is)
asked_line b a new (inr (inl x)) = inr (refuses_as a.line (printed.InspectRefused 11) (ap (λ (y : Answer). y.line) x.0) (λ not. not refl))
asked_line b a new (inr (inr x)) = inl (fails b b new x.1 refl)

aside_line : (e : Effect) (b new : Bench) → new ≡ affected e b → Counts b new
aside_line Stays b new x = ap (λ (y : Bench). y.growths) x
aside_line e b new x = ap (λ (y : Bench). y.growths) x

-- why a refusal may be counted: a call's suspension was refused, of which this says nothing, or the line says so
abbrev pub Starves : Deed → Answer → Type 0
Starves (deeds.Call h asked) a = ⊤
Starves deed a = Refuses a.line

pub deed_grows : (size : Size) (deed : Deed) (b : Bench) (a : Answer) (new : Bench) → IsNoRow deed → DeedStep size deed b a new → Grows (Starves deed a) b new
deed_grows size deeds.Format b a new other x = inl (format_line b.power b a new x)
deed_grows size (deeds.PowerOn mode) b a new other x = on_line size mode b.power b a new x
deed_grows size (deeds.Issue c) b a new other x = inl (console_keeps c b.power b a new x)
deed_grows size (deeds.Turns h n) b a new other x = absurd other
deed_grows size (deeds.Call h asked) b a new other x = inr tt
deed_grows size (deeds.Ask question) b a new other x = asked_line b a new (is_asked size question b.power b a new x)
deed_grows size (deeds.Beside act) b a new other x = inl (aside_line (aside act b.power b.payloads).1 b new x.1)

-- where the line says nothing of it
pub said_counts : (line : Printed) (b new : Bench) → SaysEnough line → Grows (Refuses line) b new → Counts b new
said_counts line b new says_so (inl x) = x
said_counts line b new says_so (inr x) = absurd (x says_so)
