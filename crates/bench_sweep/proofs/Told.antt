-- What a line's answer tells of the commands kept, by what the line may make of the bench.
use Rattle.std.proofs.Common.{◌≡◌, ◌≢◌, ℕ, inl, inr, false, true≢false, List, [], ◌∷◌, Option, None, Some, Result, Ok, Err, refl, sym, ◌∙◌, ap, subst, arith}
use Rattle.board_model.specs.{Durable.{DurableState, Change, refusal_of}, Kept.{MayKeep, found_of}, Shapes.Size, Views.durable_of}
use Rattle.board_model.specs.declared.{boot_mode.BootMode.BootMode, durable.Durable.Durable, console_command.ConsoleCommand.ConsoleCommand}
use Rattle.board_model.specs.ConsoleCommands.{console_change}
use Rattle.board_model.specs.declared.boot_mode.BootMode.TheVariants as modes
use Rattle.board.specs.{Boots.boot_refusal, Moments.commands_by}
use Rattle.script_lang.specs.declared.line.Line.{Line}
use Rattle.script_lang.specs.declared.line.Line.TheVariants as lines
use Rattle.report_lines.specs.declared.printed.{Printed.Printed, Answer.Answer}
use Rattle.report_lines.specs.declared.printed.Printed.TheVariants as printed
use Rattle.bench_report.specs.{Uncut.{TellsAsked, TellsIts}, Bench.{DiskState, Formatted, BenchLife, Bench}, Prefix.asked_of}
use Rattle.bench_report.specs.{Deeds.{WritePast, Deed, Beside, IsByFirmwareAlone, IsNoRow, deed_of}, Commands.{Writes, IssuedBy, Issued, IssuesAll}}
use Rattle.bench_report.specs.Happens.{says, out_of_memory, failed, off, on_with, settled, acknowledged, in_doubt}
use Rattle.bench_report.specs.PowerOns.{FormatsOn, life_begun, IsBooted, BootsFrom, Begins, Boots, Opens, ShowsFound, IsOpenRefusal, PowersOn, TellsNow}
use Rattle.bench_report.specs.Steps.{console_reported, FormatStep, OnStep, ConsoleStep, DeedStep, Step}
use Rattle.bench_report.proofs.{Issues.{GoesOn, IsSound, issued_back}, Table.{table_not_six, of_modes}, Beside.{OfFirmware, is_aside}}
use Rattle.bench_report.{specs.Asides.{Effect, Stays, WritesPast, aside, affected}, proofs.Questions.{IsAsked, is_asked}}
use Rattle.bench_report.specs.Deeds as deeds
use Rattle.bench_sweep.specs.Swept.{IsSweptDeed, IsPlainLine}
use Rattle.bench_sweep.specs.Told.{is_guest, moves_harts, IssuedTold, CommandTold, AllTold, BootSaid, PowerTold, AskedTold, LineTold, commands_told}

-- the number with which a command was refused
abbrev pub number_in : Result ℕ ℕ → Option ℕ
number_in (Ok n) = None
number_in (Err n) = Some n

-- ---- one command
abbrev pub Tells : Change → Bench → Result ℕ ℕ → Bench → Type 0
Tells c b o new = IssuedTold (number_in o) c b.kept new.kept × (new.disk_state ≡ b.disk_state)

module _ (c : Change) (life : BenchLife) (b : Bench) (o : Result ℕ ℕ) (new : Bench) (sound : GoesOn b.kept b.power) (on : b.power ≡ Some life) where
  follow : (b.kept.doubt ≡ life.doubt) × (life.now ≡ found_of b.kept.changes)
  follow = let F : Option BenchLife → Type 0 = λ p. GoesOn b.kept p in subst F on sound

  by_eqs : (p : Result ℕ ℕ) (n : Bench) → o ≡ p → new ≡ n → Tells c b p n → Tells c b o new
  by_eqs p n e f x =
      let P : Result ℕ ℕ → Type 0 = λ r. Tells c b r new in
      let Q : Bench → Type 0 = λ m. Tells c b p m in
      subst P (sym e) (subst Q (sym f) x)

  allowed : refusal_of life.now c ≡ None → refusal_of (found_of b.kept.changes) c ≡ None
  allowed e = let P : DurableState → Type 0 = λ s. refusal_of s c ≡ None in subst P follow.1 e

  by_table : life.doubt ≡ None → (r : Option ℕ) → refusal_of life.now c ≡ r → Writes r c life b o new → Tells c b o new
  by_table calm (Some n) table w = by_eqs (Err n) b w.0 w.1 (inl (λ e. absurd (table_not_six life.now c n table e), refl), refl)
  by_table calm None table (inl w) = by_eqs (Ok _) (acknowledged c life b) w.0 w.1 ((follow.0 ∙ calm, allowed table, refl), refl)
  by_table calm None table (inr (inl w)) = by_eqs (Err 5) (failed w.1.0 b) w.0 w.1.2 (inl (λ e. absurd (omega (arith, e)), refl), refl)
  by_table calm None table (inr (inr w)) = by_eqs (Err 6) (failed w.1.0 (in_doubt c life b)) w.0 w.1.2 (inr (refl, follow.0 ∙ calm, allowed table, refl), refl)

  by_doubt : (d : Option Change) → life.doubt ≡ d → IssuedBy d c life b o new → Tells c b o new
  by_doubt (Some d) is i = by_eqs (Err 6) b i.0 i.1 (inl (λ e. (d, follow.0 ∙ is), refl), refl)
  by_doubt None calm (inl i) = by_eqs (Err 10) b i.1 i.2 (inl (λ e. absurd (omega (arith, e)), refl), refl)
  by_doubt None calm (inr i) = by_table calm (refusal_of life.now c) refl i.1

  pub issued_tells : Issued c life b o new → Tells c b o new
  issued_tells i = by_doubt life.doubt refl i

-- ---- a command of the console
abbrev Said : Change → Bench → Answer → Bench → Type 0
Said c b a new = CommandTold a.line c b.kept new.kept × (new.disk_state ≡ b.disk_state)

said_by : (c : Change) (b : Bench) (a x : Answer) (new : Bench) → a ≡ x → Said c b x new → Said c b a new
said_by c b a x new e h = let P : Answer → Type 0 = λ y. Said c b y new in subst P (sym e) h

console : (c : ConsoleCommand) (p : Option BenchLife) (b : Bench) (a : Answer) (new : Bench) → b.power ≡ p → GoesOn b.kept b.power → ConsoleStep c p b a new → Said (console_change c) b a new
console c None b a new on sound x = said_by (console_change c) b a (says printed.Off) new x.0 (ap (λ (y : Bench). y.kept) x.1, ap (λ (y : Bench). y.disk_state) x.1)
console c (Some life) b a new on sound (o, issued, e) = by o issued e
  where
    by : (o : Result ℕ ℕ) → Issued (console_change c) life b o new → a ≡ console_reported c o → Said (console_change c) b a new
    by (Ok n) i f = let t = issued_tells (console_change c) life b (Ok n) new sound on i in said_by (console_change c) b a (says (printed.Acknowledged c n)) new f t
    by (Err n) i f = let t = issued_tells (console_change c) life b (Err n) new sound on i in said_by (console_change c) b a (says (printed.CommandRefused c n)) new f t

-- ---- commands of a boot
-- commands in a row
abbrev AllTells : List Change → Bench → Result ℕ ℕ → Bench → Type 0
AllTells cs b o new = AllTold (number_in o) cs b.kept new.kept × (new.disk_state ≡ b.disk_state)

-- the first of them was acknowledged, and so on
then_all : (o : Result ℕ ℕ) (c : Change) (cs : List Change) (b mid new : Bench) → Tells c b (Ok 0) mid → AllTells cs mid o new → AllTells (c ∷ cs) b o new
then_all (Ok n) c cs b mid new first rest = ((mid.kept, first.0, rest.0), rest.1 ∙ first.1)
then_all (Err n) c cs b mid new first rest = (inr (mid.kept, first.0, rest.0), rest.1 ∙ first.1)

all_tell : (cs : List Change) (b : Bench) (o : Result ℕ ℕ) (new : Bench) → IsSound b → IssuesAll cs b o new → AllTells cs b o new
all_tell [] b o new sound (ok, same) =
    let P : Result ℕ ℕ → Type 0 = λ r. AllTold (number_in r) [] b.kept new.kept in
    (subst P (sym ok) (ap (λ (x : Bench). x.kept) same), ap (λ (x : Bench). x.disk_state) same)
all_tell (c ∷ cs) b o new sound (life, on, first, mid, issued, inl (n, ok, rest)) =
    let R : Result ℕ ℕ → Type 0 = λ r. Tells c b r mid in
    let t = subst R ok (issued_tells c life b first mid sound.1 on issued) in
    then_all o c cs b mid new t (all_tell cs mid o new (issued_back c life b first mid sound on issued).0 rest)
all_tell (c ∷ cs) b o new sound (life, on, first, mid, issued, inr (n, err, e, is)) =
    let R : Result ℕ ℕ → Type 0 = λ r. Tells c b r mid in
    let t = subst R err (issued_tells c life b first mid sound.1 on issued) in
    let P : Result ℕ ℕ → Type 0 = λ r. AllTells (c ∷ cs) b r mid in
    let Q : Bench → Type 0 = λ m. AllTells (c ∷ cs) b o m in
    subst Q (sym is) (subst P (sym e) (inl t.0, t.1))

-- ---- a power-on
not_six : (s : DurableState) (mode : BootMode) (n : ℕ) → boot_refusal s mode ≡ Some n → n ≢ 6
not_six s mode n h is = elim (of_modes s mode n h) [ inl e ↦ omega (arith, e, is) | inr e ↦ omega (arith, e, is) ]

told_commands : (mode : BootMode) (s : DurableState) → commands_by mode s ≡ commands_told mode s.trial
told_commands modes.Fresh s = refl
told_commands modes.Keep s = refl
told_commands modes.Discard s = refl
told_commands modes.Resume s = refl

-- what a boot with these commands says, and the disk's state then
abbrev Booted : List Change → Bench → Printed → Bench → Type 0
Booted cs b line new = BootSaid line cs b.kept new.kept × (new.disk_state ≡ b.disk_state)

booted_by : (cs : List Change) (b : Bench) (line x : Printed) (new n : Bench) → line ≡ x → new ≡ n → Booted cs b x n → Booted cs b line new
booted_by cs b line x new n e f h =
    let P : Printed → Type 0 = λ y. Booted cs b y new in
    let Q : Bench → Type 0 = λ m. Booted cs b x m in
    subst P (sym e) (subst Q (sym f) h)

refused_by : (cs : List Change) (b : Bench) (line : Printed) (new n : Bench) (k : ℕ) → line ≡ printed.OnRefused k → new ≡ n → k ≢ 6 → n.kept ≡ b.kept → n.disk_state ≡ b.disk_state → Booted cs b line new
refused_by cs b line new n k e f other kept disk = booted_by cs b line (printed.OnRefused k) new n e f (inr (inl (other, kept)), disk)

module _ (z : Size) (s : DurableState) (b : Bench) (line : Printed) (new : Bench) (formatted : b.disk_state ≡ Formatted) (calm : b.kept.doubt ≡ None) (same : s ≡ found_of b.kept.changes) where
  from : (mode : BootMode) → BootsFrom mode z s b line new → Booted (commands_by mode s) b line new
  from mode (o, mid, issues, booted) = by o (all_tell (commands_by mode s) (on_with (life_begun s z) b) o mid (formatted, (calm, same)) issues) booted
    where
      by : (o : Result ℕ ℕ) → AllTells (commands_by mode s) b o mid → IsBooted o mode z s mid line new → Booted (commands_by mode s) b line new
      by (Ok n) t did = booted_by (commands_by mode s) b line (printed.On mode) new _ did.2 did.5 t
      by (Err n) t did = booted_by (commands_by mode s) b line (printed.OnRefused n) new (off mid) did.0 did.1 (inr (inr t.0), t.1)

  begins : (mode : BootMode) → Begins mode z s b line new → Booted (commands_by mode s) b line new
  begins modes.Fresh x = from modes.Fresh x
  begins modes.Keep x = from modes.Keep x
  begins modes.Discard x = from modes.Discard x
  begins modes.Resume (inl x) = from modes.Resume x
  begins modes.Resume (inr x) = refused_by (commands_by modes.Resume s) b line new b 13 x.1 x.2 (λ e. omega (arith, e)) refl refl

  boots : (r : Option ℕ) (mode : BootMode) → boot_refusal s mode ≡ r → Boots r mode z s b line new → Booted (commands_by mode s) b line new
  boots (Some n) mode table x = refused_by (commands_by mode s) b line new b n x.0 x.1 (not_six s mode n table) refl refl
  boots None mode table (inl x) = begins mode x.1
  boots None mode table (inr (inl x)) = refused_by (commands_by mode s) b line new b 3 x.1 x.2 (λ e. omega (arith, e)) refl refl
  boots None mode table (inr (inr x)) = booted_by (commands_by mode s) b line (printed.OnRefused 11) new (out_of_memory b) x.1 x.2 (inl refl, refl)

-- a power-on, of which the state then is known
abbrev Powered : BootMode → Bench → Option Durable → Printed → Option Durable → Bench → Type 0
Powered mode b found line now new = PowerTold mode found line now b.kept new.kept × (new.disk_state ≡ b.disk_state)

-- the open found no state
unopened : (mode : BootMode) (b : Bench) (a : Answer) (line : Printed) (now : Option Durable) (new n : Bench) → a ≡ says line → new ≡ n → n.kept ≡ b.kept → n.disk_state ≡ b.disk_state → Powered mode b a.found a.line now new
unopened mode b a line now new n e f kept disk =
    let P : Answer → Type 0 = λ y. Powered mode b y.found y.line now new in
    let Q : Bench → Type 0 = λ m. (m.kept ≡ b.kept) × (m.disk_state ≡ b.disk_state) in
    subst P (sym e) (subst Q (sym f) (kept, disk))

-- or it found that one
opened : (mode : BootMode) (b : Bench) (found now : Option Durable) (line : Printed) (new mid : Bench) (s : DurableState) → ShowsFound found s → (changes : List Change) → MayKeep b.kept changes → s ≡ found_of changes → mid ≡ settled changes b
    → new.disk_state ≡ Formatted → TellsNow found now new → Booted (commands_by mode s) mid line new → Powered mode b found line now new
opened mode b None now line new mid s shows_it changes may is e formatted tells did = absurd shows_it
opened mode b (Some d) None line new mid s shows_it changes may is e formatted tells did = absurd tells
opened mode b (Some d) (Some x) line new mid s shows_it changes may is e formatted tells did =
    let kept : mid.kept ≡ (settled changes b).kept = ap (λ (m : Bench). m.kept) e in
    let commands : commands_by mode s ≡ commands_told mode d.trial = told_commands mode s ∙ ap (λ (y : Durable). commands_told mode y.trial) (sym shows_it) in
    let P : List Change → Type 0 = λ cs. BootSaid line cs mid.kept new.kept in
    ((mid.kept, (changes, may, shows_it ∙ ap durable_of is, kept), subst P commands did.0, tells formatted), did.1 ∙ ap (λ (m : Bench). m.disk_state) e)

powers : (size : Size) (mode : BootMode) (b : Bench) (a : Answer) (now : Option Durable) (new : Bench) → b.disk_state ≡ Formatted → PowersOn size mode b a new → TellsNow a.found now new → Powered mode b a.found a.line now new
powers size mode b a now new formatted (inl (s, z, mid, opens, shows_it, booted)) tells =
    let O : DiskState → Type 0 = λ m. Opens size m b s z mid in
    go (subst O formatted opens)
  where
    go : Opens size Formatted b s z mid → Powered mode b a.found a.line now new
    go (changes, may, found, sized, is) =
        let same : s ≡ found_of mid.kept.changes = found ∙ sym (ap (λ (m : Bench). found_of m.kept.changes) is) in
        let held : mid.disk_state ≡ Formatted = ap (λ (m : Bench). m.disk_state) is ∙ formatted in
        let did = boots z s mid a.line new held (ap (λ (m : Bench). m.kept.doubt) is) same (boot_refusal s mode) mode refl booted in
        opened mode b a.found now a.line new mid s shows_it changes may found is (did.1 ∙ held) tells did
powers size mode b a now new formatted (inr (inl (n, refused, e, is))) tells = let P : DiskState → Type 0 = λ m. IsOpenRefusal m n in absurd (subst P formatted refused)
powers size mode b a now new formatted (inr (inr (inl x))) tells = unopened mode b a (printed.OnRefused 11) now new (out_of_memory b) x.1 x.2 refl refl
powers size mode b a now new formatted (inr (inr (inr x))) tells = unopened mode b a (printed.OnRefused 5) now new (failed x.1.0 b) x.0 x.1.2 refl refl

-- also of a board that was on
on_tells : (size : Size) (mode : BootMode) (p : Option BenchLife) (b : Bench) (a : Answer) (now : Option Durable) (new : Bench) → b.disk_state ≡ Formatted → OnStep size p mode b a new → TellsNow a.found now new → Powered mode b a.found a.line now new
on_tells size mode None b a now new formatted x tells = powers size mode b a now new formatted x tells
on_tells size mode (Some life) b a now new formatted x tells = unopened mode b a printed.Busy now new b x.0 x.1 refl refl

-- ---- lines
-- nothing of the disk changed
abbrev Same : Bench → Bench → Type 0
Same b new = (new.kept ≡ b.kept) × (new.disk_state ≡ b.disk_state)

same_as : (b new n : Bench) → new ≡ n → Same b n → Same b new
same_as b new n e h = let P : Bench → Type 0 = λ m. Same b m in subst P (sym e) h

format_line : (p : Option BenchLife) (b : Bench) (a : Answer) (new : Bench) → b.disk_state ≡ Formatted → FormatStep p b a new → Same b new
format_line (Some life) b a new formatted x = same_as b new b x.1 (refl, refl)
format_line None b a new formatted x = let P : DiskState → Type 0 = λ m. FormatsOn m b a new in go (subst P formatted x)
  where
    go : FormatsOn Formatted b a new → Same b new
    go (inl y) = same_as b new b y.1 (refl, refl)
    go (inr y) = same_as b new (failed y.1.0 b) y.1.2 (refl, refl)

-- a question
asked_line : (b : Bench) (a : Answer) (new : Bench) → IsAsked b a new → Same b new
asked_line b a new (inl (said, none, e, is)) = same_as b new b is (refl, refl)
asked_line b a new (inr (inl x)) = same_as b new (out_of_memory b) x.1 (refl, refl)
asked_line b a new (inr (inr x)) = same_as b new (failed x.1.0 b) x.1.2 (refl, refl)

-- a deed that asks nothing of the disk and of no hart
aside_line : (e : Effect) (b : Bench) (new : Bench) → OfFirmware e → new ≡ affected e b → Same b new
aside_line Stays b new by x = same_as b new b x (refl, refl)
aside_line WritesPast b new by x = absurd by
aside_line e b new by x = same_as b new _ x (refl, refl)

by_firmware : (deed : Deed) → IsSweptDeed deed → IsByFirmwareAlone deed
by_firmware (Beside WritePast) plain = absurd plain
by_firmware deed plain = tt

deed_tells : (size : Size) (deed : Deed) (b : Bench) (a : Answer) (now : Option Durable) (new : Bench) → IsSweptDeed deed → is_guest (asked_of deed) ≡ false → IsSound b → DeedStep size deed b a new → TellsAsked (asked_of deed) a now new
    → AskedTold (asked_of deed) a now b.kept new.kept × (new.disk_state ≡ b.disk_state)
deed_tells size deeds.Format b a now new plain none sound x tells = format_line b.power b a new sound.0 x
deed_tells size (deeds.PowerOn mode) b a now new plain none sound x tells = on_tells size mode b.power b a now new sound.0 x tells
deed_tells size (deeds.Issue c) b a now new plain none sound x tells = console c b.power b a new refl sound.1 x
deed_tells size (deeds.Turns h n) b a now new plain none sound x tells = absurd (true≢false none)
deed_tells size (deeds.Call h asked) b a now new plain none sound x tells = absurd (true≢false none)
deed_tells size (deeds.Ask question) b a now new plain none sound x tells = asked_line b a new (is_asked size question b.power b a new x)
deed_tells size (Beside act) b a now new plain none sound x tells =
    aside_line (aside act b.power b.payloads).1 b new ((is_aside act b.power b.payloads).firmware (by_firmware (Beside act) plain)) x.1

-- a line that moves no hart is no row of turns
pub no_row : (line : Line) → moves_harts line ≡ false → IsNoRow (deed_of line)
no_row (lines.Turn h n) none = absurd (true≢false none)
no_row line none = tt

-- what a plain line tells that moves no hart
pub line_tells : (size : Size) (line : Line) (b : Bench) (a : Answer) (now : Option Durable) (new : Bench) → IsPlainLine line → moves_harts line ≡ false → IsSound b → Step size line b a new → TellsIts line a now new
    → LineTold line a now b.kept new.kept × (new.disk_state ≡ b.disk_state)
line_tells size line b a now new plain none sound x tells = deed_tells size (deed_of line) b a now new plain none sound x tells
