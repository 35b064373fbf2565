-- One report: the lines, and the one induction over them.
use Rattle.board_model.specs.{declared.{call_words.CallWords.CallWords, boot_mode.BootMode.BootMode}, Shapes.Size}
use Rattle.board_model.specs.{declared.console_command.ConsoleCommand.ConsoleCommand, ConsoleCommands.console_change}
use Rattle.std.proofs.Common.{◌≡◌, ◌⊎◌, ℕ, inl, inr, List, [], ◌∷◌, Option, None, Some, refl, sym, ◌∙◌, ap, subst, arith, true, false}
use Rattle.machine.specs.{Machine.{Machine, hart_at}, Shows.{own_line, CsrLine}, declared.line.MachineLine.MachineLine, Turns.MakesOneCall}
use Rattle.machine.specs.declared.line.MachineLine.TheVariants as shown_lines
use Rattle.sbi.specs.declared.words.Word.{Word}
use Rattle.sbi.specs.declared.words.Word.TheVariants as words
use Rattle.sbi_calls.specs.declared.words.Turned.{Turned}
use Rattle.script_lang.specs.{Scripts.Script, declared.{line.Line.Line, looks.Look.Look}}
use Rattle.report_lines.specs.declared.printed.Answer.{Answer}
use Rattle.bench_report.specs.{Bench.{BenchLife, Bench, IsFailureFree, bench_with}, Happens.{shows, unpowered, on_with, has_machine}}
use Rattle.bench_report.specs.{Deeds.{Question, OfBoard, OfDisk, Deed, deed_of, IsByFirmwareAlone}, Reports.{AreByFirmware, IsReportWith}}
use Rattle.bench_report.specs.Steps.{console_reported, FormatStep, OnStep, ConsoleStep, CallReported, GuestCall, TurnStep, CallStep, ReadStep, QuestionStep, DeedStep, DeedMoves, Run}
use Rattle.bench_report.{proofs.{Asks.firmware_alone, Inspected.{ContentLaws, inspect_at}}, specs.Looks.IsShown}
use Rattle.bench_report.proofs.Guests.{IsOneTurn, TurnsSaid, row, comes_fair, comes_one, truth, turns_fair, turns_one}
use Rattle.bench_report.proofs.Determined.{some_inj, HasFailed, DiskHasFailed, IsCalm, Fair, fair_to, fair_then, unmoved, spoils, fails, starved, issued_fair, Agree, same, issued, formats_fair, formats, powers_fair, powers}
use Rattle.bench_report.{specs.Asides.{Effect, Stays, CutsPower, WritesPast, aside, affected}, proofs.Beside.{OfFirmware, is_aside}}
use Rattle.bench_report.proofs.Questions.{IsAsked, is_asked}
use Rattle.bench_report.specs.Deeds as deeds
use Rattle.script_lang.specs.declared.looks.Look.TheVariants as looks

-- what the lines leave nothing open of
abbrev pub IsOneCall : Type 0
IsOneCall = (h : ℕ) (asked : CallWords) (old new other : Machine) (called also : Option Turned) → MakesOneCall h asked old new called → MakesOneCall h asked old other also → (new ≡ other) × (called ≡ also)

abbrev pub IsOneCsr : Type 0
IsOneCsr = (h n : ℕ) (m : Machine) (line also : MachineLine) → CsrLine h n m line → CsrLine h n m also → line ≡ also

-- ---- fair
format_fair : (p : Option BenchLife) (b : Bench) (a : Answer) (new : Bench) → FormatStep p b a new → Fair b new
format_fair None b a new h = formats_fair b.disk_state b a new h
format_fair (Some life) b a new h = unmoved b new h.1

on_fair : (size : Size) (p : Option BenchLife) (mode : BootMode) (b : Bench) (a : Answer) (new : Bench) → OnStep size p mode b a new → Fair b new
on_fair size None mode b a new h = powers_fair size mode b a new h
on_fair size (Some life) mode b a new h = unmoved b new h.1

console_fair : (c : ConsoleCommand) (p : Option BenchLife) (b : Bench) (a : Answer) (new : Bench) → ConsoleStep c p b a new → Fair b new
console_fair c None b a new h = unmoved b new h.1
console_fair c (Some life) b a new h = issued_fair (console_change c) life b h.0 new h.1

turn_fair : (p : Option BenchLife) (h n : ℕ) (b : Bench) (a : Answer) (new : Bench) → TurnStep p h n b a new → Fair b new
turn_fair None h n b a new x = unmoved b new x.1
turn_fair (Some life) h n b a new (inl (has, made, word, x, e)) = turns_fair h n b made word new x
turn_fair (Some life) h n b a new (inr x) = unmoved b new x.2

called_fair : (called : Option Turned) (h : ℕ) (life : BenchLife) (b : Bench) (a : Answer) (new : Bench) → GuestCall called h life b a new → Fair b new
called_fair None h life b a new x = unmoved b new x.1
called_fair (Some did) h life b a new (word, x, e) = comes_fair did h life b word new x

call_fair : (p : Option BenchLife) (h : ℕ) (asked : CallWords) (b : Bench) (a : Answer) (new : Bench) → CallStep p h asked b a new → Fair b new
call_fair None h asked b a new g = unmoved b new g.1
call_fair (Some life) h asked b a new (inl (has, m, called, did, g)) =
    let rest = called_fair called h (has_machine m life) (on_with (has_machine m life) b) a new g in (λ s. rest.0 s, λ c. rest.1 c, λ s. rest.2 s)
call_fair (Some life) h asked b a new (inr g) = unmoved b new g.2

asked_fair : (b : Bench) (a : Answer) (new : Bench) → IsAsked b a new → Fair b new
asked_fair b a new (inl (said, none, e, is)) = unmoved b new is
asked_fair b a new (inr (inl x)) = starved b new x.1
asked_fair b a new (inr (inr x)) = spoils b new (fails b new x.1)

aside_fair : (e : Effect) (b new : Bench) → OfFirmware e → new ≡ affected e b → Fair b new
aside_fair Stays b new by x = unmoved b new x
aside_fair CutsPower b new by x = fair_to b new (unpowered b) x (λ s. s, λ c. inr (c.0, refl, c.2), λ s. s)
aside_fair WritesPast b new by x = absurd by
aside_fair e b new by x = fair_to b new _ x (λ s. s, λ c. inr c, λ s. s)

step_fair : (size : Size) (deed : Deed) (b : Bench) (a : Answer) (new : Bench) → IsByFirmwareAlone deed → DeedStep size deed b a new → Fair b new
step_fair size deeds.Format b a new by h = format_fair b.power b a new h
step_fair size (deeds.PowerOn mode) b a new by h = on_fair size b.power mode b a new h
step_fair size (deeds.Issue c) b a new by h = console_fair c b.power b a new h
step_fair size (deeds.Turns x y) b a new by h = turn_fair b.power x y b a new h
step_fair size (deeds.Call i asked) b a new by h = call_fair b.power i asked b a new h
step_fair size (deeds.Ask question) b a new by h = asked_fair b a new (is_asked size question b.power b a new h)
step_fair size (deeds.Beside act) b a new by h = aside_fair (aside act b.power b.payloads).1 b new ((is_aside act b.power b.payloads).firmware by) h.1

pub moves_fair : (size : Size) (deed : Deed) (b : Bench) (a : Answer) (new : Bench) → IsByFirmwareAlone deed → DeedMoves size deed b a new → Fair b new
moves_fair size deed b a new by (inl x) = step_fair size deed b a new by x.0
moves_fair size deed b a new by (inr (would, mid, x, struck, e, is)) = let one = step_fair size deed b would mid by x in fair_to b new (unpowered mid) is (λ s. one.0 s, λ c. cut_off (one.1 c), λ s. one.2 s)
  where
    cut_off : DiskHasFailed mid ⊎ IsCalm mid → DiskHasFailed mid ⊎ IsCalm (unpowered mid)
    cut_off (inl s) = inl s
    cut_off (inr c) = inr (c.0, refl, c.2)

-- a cut that struck had the disk fail
pub struck_fails : (size : Size) (deed : Deed) (b : Bench) (would : Answer) (mid : Bench) → IsByFirmwareAlone deed → IsCalm b → DeedStep size deed b would mid → mid.fault_state.struck ≡ true → DiskHasFailed mid
struck_fails size deed b would mid by calm x struck = by_calm ((step_fair size deed b would mid by x).1 calm)
  where
    by_calm : DiskHasFailed mid ⊎ IsCalm mid → DiskHasFailed mid
    by_calm (inl s) = s
    by_calm (inr c) = absurd (let e : true ≡ false = sym struck ∙ c.1 in let no : ⊥ = cc in no)

spoilt_as : (x y : Bench) → x ≡ y → HasFailed y → HasFailed x
spoilt_as x y e s = let P : Bench → Type 0 = HasFailed in subst P (sym e) s

pub run_fair : (size : Size) (ls : List Line) (b : Bench) (answers : List Answer) (end : Bench) → AreByFirmware ls → Run size b ls answers end → Fair b end
run_fair size [] b [] end by run = unmoved b end run
run_fair size (l ∷ ls) b (a ∷ answers) end by run = fair_then b run.0 end (moves_fair size (deed_of l) b a run.0 (firmware_alone l by.0) run.1) (run_fair size ls run.0 answers end by.1 run.2)
run_fair size [] b (a ∷ answers) end by run = absurd run
run_fair size (l ∷ ls) b [] end by run = absurd run

pub run_spoilt : (size : Size) (ls : List Line) (b : Bench) (answers : List Answer) (end : Bench) → AreByFirmware ls → Run size b ls answers end → HasFailed b → HasFailed end
run_spoilt size ls b answers end by run s = (run_fair size ls b answers end by run).0 s

-- ---- the same
by_word : {A : Type 0} (f : A → Answer) (o p : A) (a z : Answer) (new last : Bench) → a ≡ f o → z ≡ f p → Agree o p new last → Agree a z new last
by_word f o p a z new last e g (inl s) = inl s
by_word f o p a z new last e g (inr (inl s)) = inr (inl s)
by_word f o p a z new last e g (inr (inr h)) = inr (inr (e ∙ ap f h.0 ∙ sym g, h.1))

format_at : (p : Option BenchLife) (b : Bench) (a z : Answer) (new last : Bench) → IsCalm b → FormatStep p b a new → FormatStep p b z last → Agree a z new last
format_at None b a z new last calm x y = formats b.disk_state b a z new last calm.0 x y
format_at (Some life) b a z new last calm x y = same a z _ new last b x.0 y.0 x.1 y.1

on_at : (size : Size) (p : Option BenchLife) (mode : BootMode) (b : Bench) (a z : Answer) (new last : Bench) → IsCalm b → OnStep size p mode b a new → OnStep size p mode b z last → Agree a z new last
on_at size None mode b a z new last calm x y = powers size mode b a z new last calm x y
on_at size (Some life) mode b a z new last calm x y = same a z _ new last b x.0 y.0 x.1 y.1

console_at : (c : ConsoleCommand) (p : Option BenchLife) (b : Bench) (a z : Answer) (new last : Bench) → ConsoleStep c p b a new → ConsoleStep c p b z last → Agree a z new last
console_at c None b a z new last x y = same a z _ new last b x.0 y.0 x.1 y.1
console_at c (Some life) b a z new last x y = by_word (λ o. console_reported c o) x.0 y.0 a z new last x.2 y.2 (issued (console_change c) life b x.0 y.0 new last x.1 y.1)

turn_at : IsOneTurn → (p : Option BenchLife) (h n : ℕ) (b : Bench) (a z : Answer) (new last : Bench) → TurnStep p h n b a new → TurnStep p h n b z last → Agree a z new last
turn_at one None h n b a z new last x y = same a z _ new last b x.0 y.0 x.1 y.1
turn_at one (Some life) h n b a z new last (inl (has, made, word, x, e)) (inl (has2, other, also, y, e2)) =
    by_word (λ (r : TurnsSaid). shows (shown_lines.Turn h r.made r.word)) (row made word) (row other also) a z new last e e2 (turns_one one h n b made other word also new last x y)
turn_at one (Some life) h n b a z new last (inl x) (inr y) = absurd (y.0 x.0)
turn_at one (Some life) h n b a z new last (inr x) (inl y) = absurd (x.0 y.0)
turn_at one (Some life) h n b a z new last (inr x) (inr y) = same a z _ new last b x.1 y.1 x.2 y.2

reported_at : (h : ℕ) (word : Word) (new : Bench) (a z : Answer) → CallReported h word new a → CallReported h word new z → a ≡ z
reported_at h (words.Goes did) new a z (life, on, e) (life2, on2, e2) =
    let P : BenchLife → Type 0 = λ l. z ≡ shows (own_line h (hart_at l.machine h) did) in
    e ∙ sym (subst P (some_inj life life2 new.power on on2) e2)
reported_at h (words.Over end) new a z e e2 = e ∙ sym e2

reported_one : (h : ℕ) (word also : Word) (a z : Answer) (new last : Bench) → Agree word also new last → CallReported h word new a → CallReported h also last z → Agree a z new last
reported_one h word also a z new last (inl s) x y = inl s
reported_one h word also a z new last (inr (inl s)) x y = inr (inl s)
reported_one h word also a z new last (inr (inr e)) x y =
    let P : Word → Type 0 = λ w. CallReported h w last z in
    let Q : Bench → Type 0 = λ m. CallReported h word m z in
    inr (inr (reported_at h word new a z x (subst Q (sym e.1) (subst P (sym e.0) y)), e.1))

called_at : (called : Option Turned) (h : ℕ) (life : BenchLife) (b : Bench) (a z : Answer) (new last : Bench) → GuestCall called h life b a new → GuestCall called h life b z last → Agree a z new last
called_at None h life b a z new last x y = same a z _ new last b x.0 y.0 x.1 y.1
called_at (Some did) h life b a z new last (word, x, e) (also, y, e2) = reported_one h word also a z new last (comes_one did h life b word also new last x y) e e2

call_at : IsOneCall → (p : Option BenchLife) (h : ℕ) (asked : CallWords) (b : Bench) (a z : Answer) (new last : Bench) → CallStep p h asked b a new → CallStep p h asked b z last → Agree a z new last
call_at one None h asked b a z new last x y = same a z _ new last b x.0 y.0 x.1 y.1
call_at one (Some life) h asked b a z new last (inl (has, m, called, did, x)) (inl (has2, other, also, did2, y)) =
    let is = one h asked life.machine m other called also did did2 in
    let P : Machine → Type 0 = λ k. GuestCall also h (has_machine k life) (on_with (has_machine k life) b) z last in
    let Q : Option Turned → Type 0 = λ c. GuestCall c h (has_machine m life) (on_with (has_machine m life) b) z last in
    called_at called h (has_machine m life) (on_with (has_machine m life) b) a z new last x (subst Q (sym is.1) (subst P (sym is.0) y))
call_at one (Some life) h asked b a z new last (inl x) (inr y) = absurd (y.0 x.0)
call_at one (Some life) h asked b a z new last (inr x) (inl y) = absurd (x.0 y.0)
call_at one (Some life) h asked b a z new last (inr x) (inr y) = same a z _ new last b x.1 y.1 x.2 y.2

read_at : (says_so : Machine → MachineLine → Type 0) → ((m : Machine) (line also : MachineLine) → says_so m line → says_so m also → line ≡ also) → (p : Option BenchLife) (b : Bench) (a z : Answer) (new last : Bench)
    → ReadStep p says_so b a new → ReadStep p says_so b z last → Agree a z new last
read_at says_so one None b a z new last x y = same a z _ new last b x.0 y.0 x.1 y.1
read_at says_so one (Some life) b a z new last (line, so, e, f) (also, so2, e2, f2) = inr (inr (e ∙ ap shows (one life.machine line also so so2) ∙ sym e2, f ∙ sym f2))

-- a look shows one line
one_look : IsOneCsr → (look : Look) (m : Machine) (line also : MachineLine) → IsShown look m line → IsShown look m also → line ≡ also
one_look csr (looks.Reg h r) m line also p q = p ∙ sym q
one_look csr (looks.Pc h) m line also p q = p ∙ sym q
one_look csr (looks.Csr h n) m line also p q = csr h n m line also p q
one_look csr looks.Pending m line also p q = p ∙ sym q
one_look csr (looks.Mem i n) m line also p q = p ∙ sym q

question_at : ContentLaws → IsOneCsr → (size : Size) (question : Question) (p : Option BenchLife) (b : Bench) (a z : Answer) (new last : Bench) → IsCalm b → QuestionStep size question p b a new → QuestionStep size question p b z last → Agree a z new last
question_at laws csr size (OfBoard look) p b a z new last calm x y = read_at (IsShown look) (one_look csr look) p b a z new last x y
question_at laws csr size OfDisk p b a z new last calm x y = inspect_at laws size p b a z new last calm x y

steps : ContentLaws → IsOneTurn → IsOneCall → IsOneCsr → (size : Size) (deed : Deed) (b : Bench) (a z : Answer) (new last : Bench) → IsCalm b → DeedStep size deed b a new → DeedStep size deed b z last → Agree a z new last
steps laws turns call csr size deeds.Format b a z new last calm x y = format_at b.power b a z new last calm x y
steps laws turns call csr size (deeds.PowerOn mode) b a z new last calm x y = on_at size b.power mode b a z new last calm x y
steps laws turns call csr size (deeds.Issue c) b a z new last calm x y = console_at c b.power b a z new last x y
steps laws turns call csr size (deeds.Turns h n) b a z new last calm x y = turn_at turns b.power h n b a z new last x y
steps laws turns call csr size (deeds.Call h asked) b a z new last calm x y = call_at call b.power h asked b a z new last x y
steps laws turns call csr size (deeds.Ask question) b a z new last calm x y = question_at laws csr size question b.power b a z new last calm x y
steps laws turns call csr size (deeds.Beside act) b a z new last calm x y = same a z _ new last _ x.0 y.0 x.1 y.1

-- an armed cut that struck in one of them alone would have been answered there
pub moves : ContentLaws → IsOneTurn → IsOneCall → IsOneCsr → (size : Size) (deed : Deed) (b : Bench) (a z : Answer) (new last : Bench) → IsCalm b → DeedMoves size deed b a new → DeedMoves size deed b z last → Agree a z new last
moves laws turns call csr size deed b a z new last calm (inl x) (inl y) = steps laws turns call csr size deed b a z new last calm x.0 y.0
moves laws turns call csr size deed b a z new last calm (inl x) (inr (would, mid, y, struck, e, is)) = apart (steps laws turns call csr size deed b a would new mid calm x.0 y)
  where
    apart : Agree a would new mid → Agree a z new last
    apart (inl s) = inl s
    apart (inr (inl s)) = inr (inl (spoilt_as last (unpowered mid) is s))
    apart (inr (inr h)) = truth mid.fault_state.struck new.fault_state.struck (ap (λ (b : Bench). b.fault_state.struck) (sym h.1)) struck x.1
moves laws turns call csr size deed b a z new last calm (inr (would, mid, x, struck, e, is)) (inl y) = apart (steps laws turns call csr size deed b would z mid last calm x y.0)
  where
    apart : Agree would z mid last → Agree a z new last
    apart (inl s) = inl (spoilt_as new (unpowered mid) is s)
    apart (inr (inl s)) = inr (inl s)
    apart (inr (inr h)) = truth mid.fault_state.struck last.fault_state.struck (ap (λ (b : Bench). b.fault_state.struck) h.1) struck y.1
moves laws turns call csr size deed b a z new last calm (inr (would, mid, x, struck, e, is)) (inr (would2, mid2, y, struck2, e2, is2)) = apart (steps laws turns call csr size deed b would would2 mid mid2 calm x y)
  where
    apart : Agree would would2 mid mid2 → Agree a z new last
    apart (inl s) = inl (spoilt_as new (unpowered mid) is s)
    apart (inr (inl s)) = inr (inl (spoilt_as last (unpowered mid2) is2 s))
    apart (inr (inr h)) = inr (inr (e ∙ sym e2, is ∙ ap unpowered h.1 ∙ sym is2))

pub clean : {A : Type 0} (end : Bench) → IsFailureFree end → HasFailed end → A
clean end u (inl s) = absurd (omega (arith, u.0, s))
clean end u (inr s) = absurd (omega (arith, u.1, s))

runs : ContentLaws → IsOneTurn → IsOneCall → IsOneCsr → (size : Size) (ls : List Line) (b : Bench) (answers others : List Answer) (end last : Bench) → AreByFirmware ls → IsCalm b → IsFailureFree end → IsFailureFree last → Run size b ls answers end → Run size b ls others last
    → (answers ≡ others) × (end ≡ last)
runs laws turns call csr size [] b [] [] end last by calm u v x y = (refl, x ∙ sym y)
runs laws turns call csr size (l ∷ ls) b (a ∷ answers) (z ∷ others) end last by calm u v x y =
    go (moves laws turns call csr size (deed_of l) b a z x.0 y.0 calm x.1 y.1) ((moves_fair size (deed_of l) b a x.0 (firmware_alone l by.0) x.1).1 calm)
    (λ calm e. (let M : Bench → Type 0 = λ m. Run size m ls others last in runs laws turns call csr size ls x.0 answers others end last by.1 calm u v x.2 (subst M (sym e) y.2)))
  where
    go : Agree a z x.0 y.0 → DiskHasFailed x.0 ⊎ IsCalm x.0 → (IsCalm x.0 → x.0 ≡ y.0 → (answers ≡ others) × (end ≡ last)) → ((a ∷ answers) ≡ (z ∷ others)) × (end ≡ last)
    go (inl s) c more = clean end u (run_spoilt size ls x.0 answers end by.1 x.2 s)
    go (inr (inl s)) c more = clean last v (run_spoilt size ls y.0 others last by.1 y.2 s)
    go (inr (inr e)) (inl s) more = clean end u (run_spoilt size ls x.0 answers end by.1 x.2 (inr s))
    go (inr (inr e)) (inr c) more = let rest = more c e.1 in (ap (λ h. h ∷ answers) e.0 ∙ ap (λ t. z ∷ t) rest.0, rest.1)
runs laws turns call csr size [] b (a ∷ answers) others end last by calm u v x y = absurd x
runs laws turns call csr size [] b [] (z ∷ others) end last by calm u v x y = absurd y
runs laws turns call csr size (l ∷ ls) b [] others end last by calm u v x y = absurd x
runs laws turns call csr size (l ∷ ls) b (a ∷ answers) [] end last by calm u v x y = absurd y

pub script_determines_report : ContentLaws → IsOneTurn → IsOneCall → IsOneCsr → (payloads : List (List ℕ)) (script : Script) (answers others : List Answer) (end last : Bench) → AreByFirmware script.lines → IsReportWith payloads script answers end → IsReportWith payloads script others last → IsFailureFree end → IsFailureFree last → (answers ≡ others) × (end ≡ last)
script_determines_report laws turns call csr payloads script [] others end last by x y u v = absurd x
script_determines_report laws turns call csr payloads script (b ∷ answers) [] end last by x y u v = absurd y
script_determines_report laws turns call csr payloads script (b ∷ answers) (d ∷ others) end last by x y u v =
    let rest = runs laws turns call csr script.size script.lines (bench_with payloads) answers others end last by (tt, refl, refl) u v x.1 y.1 in
    (ap (λ q. q ∷ answers) (x.0 ∙ sym y.0) ∙ ap (λ qs. d ∷ qs) rest.0, rest.1)
