-- Where memory was never refused and no failure was answered, two runs of the same lines answer the same:
-- commands and power on.
use Rattle.std.proofs.Common.{◌≡◌, ◌⊎◌, ℕ, ◌+◌, ◌<◌, inl, inr, List, [], ◌∷◌, Option, None, Some, IfSome, Result, Ok, Err, length, refl, sym, ◌∙◌, ap, subst, arith, false}
use Rattle.std.specs.Bool.{⊤}
use Rattle.board_model.specs.{Durable.{DurableState, Image, Change, Consume, IsWhole, refusal_of}, Kept.{Kept, found_of, MayKeep, TakesIn}}
use Rattle.board_model.specs.{Shapes.{Size, ram_bytes_of}, Views.durable_of, declared.durable.Durable.Durable}
use Rattle.board_model.specs.declared.boot_mode.BootMode.{BootMode}
use Rattle.board_model.specs.declared.boot_mode.BootMode.TheVariants as modes
use Rattle.machine.specs.Machine.{Machine, woken}
use Rattle.board.specs.{Boots.boot_refusal, Moments.commands_by, Begins.{IsResumed, IsBegun}}
use Rattle.disk.specs.Facts.{counted}
use Rattle.report_lines.specs.declared.printed.{Printed.Printed, Answer.Answer}
use Rattle.report_lines.specs.declared.printed.Printed.TheVariants as printed
use Rattle.bench_report.specs.Bench.{DiskState, Blank, Unknown, Formatted, BenchLife, Bench}
use Rattle.bench_report.specs.Happens.{says, out_of_memory, FailsByFault, off, on_with, formatted_anew, unknown, settled, has_machine, acknowledged, in_doubt}
use Rattle.bench_report.specs.Commands.{Writes, IssuedBy, Issued, IssuesAll}
use Rattle.bench_report.specs.PowerOns.{life_begun, FormatsOn, IsBooted, BootsFrom, Resumes, Begins, Boots, Opens, ShowsFound, IsOpenRefusal, PowersOn}

abbrev pub HasFailed : Bench → Type 0
HasFailed b = (0 < b.growths) ⊎ (0 < b.failures)

-- the disk is known, and nothing is in doubt
abbrev pub CalmDisk : DiskState → Option Change → Type 0
CalmDisk Blank doubt = ⊤
CalmDisk Unknown doubt = ⊥
CalmDisk Formatted doubt = doubt ≡ None

-- no armed cut has struck, and nobody but the firmware wrote the disk
abbrev pub IsCalm : Bench → Type 0
IsCalm b = CalmDisk b.disk_state b.kept.doubt × (b.fault_state.struck ≡ false) × (b.poked ≡ false)

abbrev pub DiskHasFailed : Bench → Type 0
DiskHasFailed b = 0 < b.failures

-- what was spoilt stays so; what was calm stays so, or the disk failed
abbrev pub Fair : Bench → Bench → Type 0
Fair b new = (HasFailed b → HasFailed new) × (IsCalm b → DiskHasFailed new ⊎ IsCalm new) × (DiskHasFailed b → DiskHasFailed new)

pub fair_then : (b mid new : Bench) → Fair b mid → Fair mid new → Fair b new
fair_then b mid new x y = (λ s. y.0 (x.0 s), λ c. on (x.1 c), λ s. y.2 (x.2 s))
  where
    on : DiskHasFailed mid ⊎ IsCalm mid → DiskHasFailed new ⊎ IsCalm new
    on (inl s) = inl (y.2 s)
    on (inr c) = y.1 c

pub fair_to : (b new x : Bench) → new ≡ x → Fair b x → Fair b new
fair_to b new x e h = let P : Bench → Type 0 = Fair b in subst P (sym e) h

pub unmoved : (b new : Bench) → new ≡ b → Fair b new
unmoved b new e = fair_to b new b e (λ s. s, λ c. inr c, λ s. s)

pub spoils : (b new : Bench) → DiskHasFailed new → Fair b new
spoils b new s = (λ h. inr s, λ c. inl s, λ h. s)

pub starves : (c new : Bench) → new ≡ out_of_memory c → HasFailed new
starves c new e = let g : new.growths ≡ c.growths + 1 = ap (λ x. x.growths) e in inl (omega arith)

pub fails : (c new : Bench) → FailsByFault c new → DiskHasFailed new
fails c new h = let g : new.failures ≡ counted c.failures 1 = ap (λ x. x.failures) h.2 in omega (arith, g)

pub hinders : (c new : Bench) → FailsByFault c new → HasFailed new
hinders c new h = inr (fails c new h)

pub starved : (b new : Bench) → new ≡ out_of_memory b → Fair b new
starved b new e = fair_to b new (out_of_memory b) e (λ s. starves b (out_of_memory b) refl, λ c. inr c, λ s. s)

-- ---- fair
writes_fair : (r : Option ℕ) (c : Change) (life : BenchLife) (b : Bench) (o : Result ℕ ℕ) (new : Bench) → Writes r c life b o new → Fair b new
writes_fair (Some n) c life b o new w = unmoved b new w.1
writes_fair None c life b o new (inl w) = fair_to b new (acknowledged c life b) w.1 (λ s. s, λ c. inr c, λ s. s)
writes_fair None c life b o new (inr (inl w)) = spoils b new (fails b new w.1)
writes_fair None c life b o new (inr (inr w)) = spoils b new (fails (in_doubt c life b) new w.1)

by_fair : (d : Option Change) (c : Change) (life : BenchLife) (b : Bench) (o : Result ℕ ℕ) (new : Bench) → IssuedBy d c life b o new → Fair b new
by_fair (Some d) c life b o new i = unmoved b new i.1
by_fair None c life b o new (inl i) = unmoved b new i.2
by_fair None c life b o new (inr i) = writes_fair (refusal_of life.now c) c life b o new i.1

pub issued_fair : (c : Change) (life : BenchLife) (b : Bench) (o : Result ℕ ℕ) (new : Bench) → Issued c life b o new → Fair b new
issued_fair c life b o new i = by_fair life.doubt c life b o new i

all_fair : (cs : List Change) (b : Bench) (o : Result ℕ ℕ) (new : Bench) → IssuesAll cs b o new → Fair b new
all_fair [] b o new h = unmoved b new h.1
all_fair (c ∷ cs) b o new (life, on, first, mid, i, inl h) = fair_then b mid new (issued_fair c life b first mid i) (all_fair cs mid o new h.2)
all_fair (c ∷ cs) b o new (life, on, first, mid, i, inr h) = fair_to b new mid h.3 (issued_fair c life b first mid i)

-- ---- the same answer and the same bench, or one of them is spoilt
abbrev pub Agree : {A : Type 0} → A → A → Bench → Bench → Type 0
Agree o p new last = HasFailed new ⊎ HasFailed last ⊎ ((o ≡ p) × (new ≡ last))

pub same : {A : Type 0} (o p x : A) (new last y : Bench) → o ≡ x → p ≡ x → new ≡ y → last ≡ y → Agree o p new last
same o p x new last y a b c d = inr (inr (a ∙ sym b, c ∙ sym d))

pub some_inj : (x y : BenchLife) (p : Option BenchLife) → p ≡ Some x → p ≡ Some y → y ≡ x
some_inj x y p e f = let g : Some y ≡ Some x = sym f ∙ e in let h : y ≡ x = cc in h

writes : (r : Option ℕ) (c : Change) (life : BenchLife) (b : Bench) (o p : Result ℕ ℕ) (new last : Bench) → Writes r c life b o new → Writes r c life b p last → Agree o p new last
writes (Some n) c life b o p new last w v = same o p (Err n) new last b w.0 v.0 w.1 v.1
writes None c life b o p new last (inl w) (inl v) = same o p _ new last _ w.0 v.0 w.1 v.1
writes None c life b o p new last (inr (inl w)) v = inl (hinders b new w.1)
writes None c life b o p new last (inr (inr w)) v = inl (hinders (in_doubt c life b) new w.1)
writes None c life b o p new last (inl w) (inr (inl v)) = inr (inl (hinders b last v.1))
writes None c life b o p new last (inl w) (inr (inr v)) = inr (inl (hinders (in_doubt c life b) last v.1))

by : (d : Option Change) (c : Change) (life : BenchLife) (b : Bench) (o p : Result ℕ ℕ) (new last : Bench) → IssuedBy d c life b o new → IssuedBy d c life b p last → Agree o p new last
by (Some d) c life b o p new last i j = same o p (Err 6) new last b i.0 j.0 i.1 j.1
by None c life b o p new last (inl i) (inl j) = same o p (Err 10) new last b i.1 j.1 i.2 j.2
by None c life b o p new last (inl i) (inr j) = absurd (omega (arith, i.0, j.0))
by None c life b o p new last (inr i) (inl j) = absurd (omega (arith, i.0, j.0))
by None c life b o p new last (inr i) (inr j) = writes (refusal_of life.now c) c life b o p new last i.1 j.1

pub issued : (c : Change) (life : BenchLife) (b : Bench) (o p : Result ℕ ℕ) (new last : Bench) → Issued c life b o new → Issued c life b p last → Agree o p new last
issued c life b o p new last i j = by life.doubt c life b o p new last i j

err_inj : (n m : ℕ) (x y : Result ℕ ℕ) → x ≡ y → x ≡ Err n → y ≡ Err m → n ≡ m
err_inj n m x y e f g = let h : y ≡ Err n = sym e ∙ f in let i : n ≡ m = cc in i

ok_err : {A : Type 0} (n m : ℕ) (x y : Result ℕ ℕ) → x ≡ y → x ≡ Ok n → y ≡ Err m → A
ok_err n m x y e f g = let h : y ≡ Ok n = sym e ∙ f in absurd (let no : ⊥ = cc in no)

all : (cs : List Change) (b : Bench) (o p : Result ℕ ℕ) (new last : Bench) → IssuesAll cs b o new → IssuesAll cs b p last → Agree o p new last
all [] b o p new last h k = same o p (Ok 0) new last b h.0 k.0 h.1 k.1
all (c ∷ cs) b o p new last (life, on, first, mid, i, h) (life2, on2, first2, mid2, j, k) =
    let L : BenchLife → Type 0 = λ l. Issued c l b first2 mid2 in
    ended h k (issued c life b first first2 mid mid2 i (subst L (some_inj life life2 b.power on on2) j)) (λ h k e. (let M : Bench → Type 0 = λ m. IssuesAll cs m p last in all cs mid o p new last h (subst M (sym e) k)))
  where
    ended : (((n : ℕ) × (first ≡ Ok n) × IssuesAll cs mid o new) ⊎ ((n : ℕ) × (first ≡ Err n) × (o ≡ Err n) × (new ≡ mid)))
        → (((n : ℕ) × (first2 ≡ Ok n) × IssuesAll cs mid2 p last) ⊎ ((n : ℕ) × (first2 ≡ Err n) × (p ≡ Err n) × (last ≡ mid2)))
        → Agree first first2 mid mid2 → (IssuesAll cs mid o new → IssuesAll cs mid2 p last → mid ≡ mid2 → Agree o p new last) → Agree o p new last
    ended (inl h) k (inl s) more = inl ((all_fair cs mid o new h.2).0 s)
    ended (inr h) k (inl s) more = let P : Bench → Type 0 = HasFailed in inl (subst P (sym h.3) s)
    ended h (inl k) (inr (inl s)) more = inr (inl ((all_fair cs mid2 p last k.2).0 s))
    ended h (inr k) (inr (inl s)) more = let P : Bench → Type 0 = HasFailed in inr (inl (subst P (sym k.3) s))
    ended (inl h) (inl k) (inr (inr e)) more = more h.2 k.2 e.1
    ended (inl h) (inr k) (inr (inr e)) more = ok_err h.0 k.0 first first2 e.0 h.1 k.1
    ended (inr h) (inl k) (inr (inr e)) more = ok_err k.0 h.0 first2 first (sym e.0) k.1 h.1
    ended (inr h) (inr k) (inr (inr e)) more = inr (inr (h.2 ∙ ap (λ n. Err n) (err_inj h.0 k.0 first first2 e.0 h.1 k.1) ∙ sym k.2, h.3 ∙ e.1 ∙ sym k.3))

answers_as : (a : Answer) (o : Option Durable) (line : Printed) → a.found ≡ o → a.line ≡ line → a ≡ record { found = o; line = line }
answers_as a o line e f = ap (λ (x : Option Durable). let r : Answer = record { found = x; line = a.line } in r) e ∙ ap (λ (l : Printed). let r : Answer = record { found = o; line = l } in r) f

-- ---- format
pub formats_fair : (m : DiskState) (b : Bench) (a : Answer) (new : Bench) → FormatsOn m b a new → Fair b new
formats_fair Blank b a new (inl h) = fair_to b new (formatted_anew b) h.1 (λ s. s, λ c. inr (refl, c.1, c.2), λ s. s)
formats_fair Blank b a new (inr h) = spoils b new (fails (unknown b) new h.1)
formats_fair Unknown b a new (inl h) = fair_to b new (formatted_anew b) h.1 (λ s. s, λ c. inr (refl, c.1, c.2), λ s. s)
formats_fair Unknown b a new (inr (inl h)) = spoils b new (fails b new h.1)
formats_fair Unknown b a new (inr (inr h)) = unmoved b new h.3
formats_fair Formatted b a new (inl h) = unmoved b new h.1
formats_fair Formatted b a new (inr h) = spoils b new (fails b new h.1)

pub formats : (m : DiskState) (b : Bench) (a z : Answer) (new last : Bench) → CalmDisk m b.kept.doubt → FormatsOn m b a new → FormatsOn m b z last → Agree a z new last
formats Blank b a z new last calm (inl h) (inl k) = same a z _ new last _ h.0 k.0 h.1 k.1
formats Blank b a z new last calm (inr h) k = inl (hinders (unknown b) new h.1)
formats Blank b a z new last calm (inl h) (inr k) = inr (inl (hinders (unknown b) last k.1))
formats Unknown b a z new last calm h k = absurd calm
formats Formatted b a z new last calm (inl h) (inl k) = same a z _ new last b h.0 k.0 h.1 k.1
formats Formatted b a z new last calm (inr h) k = inl (hinders b new h.1)
formats Formatted b a z new last calm (inl h) (inr k) = inr (inl (hinders b last k.1))

-- ---- power on
on_fair : (o : Result ℕ ℕ) (mode : BootMode) (z : Size) (s : DurableState) (b : Bench) (line : Printed) (new : Bench) → IsBooted o mode z s b line new → Fair b new
on_fair (Ok n) mode z s b line new (life, on, said, m, boots, e) = fair_to b new (on_with (has_machine m life) b) e (λ s. s, λ c. inr c, λ s. s)
on_fair (Err n) mode z s b line new x = fair_to b new (off b) x.1 (λ s. s, λ c. inr c, λ s. s)

slot_fair : (mode : BootMode) (z : Size) (s : DurableState) (b : Bench) (line : Printed) (new : Bench) → BootsFrom mode z s b line new → Fair b new
slot_fair mode z s b line new (o, mid, h, on) =
    let start : Bench = on_with (life_begun s z) b in
    let one : Fair start new = fair_then start mid new (all_fair (commands_by mode s) start o mid h) (on_fair o mode z s mid line new on) in
    (λ s. one.0 s, λ c. one.1 c, λ s. one.2 s)

resumes_fair : (z : Size) (s : DurableState) (b : Bench) (line : Printed) (new : Bench) → Resumes z s b line new → Fair b new
resumes_fair z s b line new (inl h) = slot_fair modes.Resume z s b line new h
resumes_fair z s b line new (inr h) = unmoved b new h.2

begins_fair : (mode : BootMode) (z : Size) (s : DurableState) (b : Bench) (line : Printed) (new : Bench) → Begins mode z s b line new → Fair b new
begins_fair modes.Fresh z s b line new h = slot_fair modes.Fresh z s b line new h
begins_fair modes.Keep z s b line new h = slot_fair modes.Keep z s b line new h
begins_fair modes.Discard z s b line new h = slot_fair modes.Discard z s b line new h
begins_fair modes.Resume z s b line new h = resumes_fair z s b line new h

boots_fair : (r : Option ℕ) (mode : BootMode) (z : Size) (s : DurableState) (b : Bench) (line : Printed) (new : Bench) → Boots r mode z s b line new → Fair b new
boots_fair (Some n) mode z s b line new x = unmoved b new x.1
boots_fair None mode z s b line new (inl x) = begins_fair mode z s b line new x.1
boots_fair None mode z s b line new (inr (inl x)) = unmoved b new x.2
boots_fair None mode z s b line new (inr (inr x)) = starved b new x.2

settled_fair : (changes : List Change) (m : DiskState) (b mid : Bench) → b.disk_state ≡ m → CalmDisk m None → mid ≡ settled changes b → Fair b mid
settled_fair changes m b mid at calm e =
    let P : DiskState → Type 0 = λ x. CalmDisk x None in
    fair_to b mid (settled changes b) e (λ s. s, λ c. inr (subst P (sym at) calm, c.1, c.2), λ s. s)

opens_fair : (size : Size) (m : DiskState) (b : Bench) (s : DurableState) (z : Size) (mid : Bench) → b.disk_state ≡ m → Opens size m b s z mid → Fair b mid
opens_fair size Blank b s z mid at h = absurd h
opens_fair size Unknown b s z mid at h = unmoved b mid h
opens_fair size Formatted b s z mid at h = settled_fair h.0 Formatted b mid at refl h.4

pub powers_fair : (size : Size) (mode : BootMode) (b : Bench) (a : Answer) (new : Bench) → PowersOn size mode b a new → Fair b new
powers_fair size mode b a new (inl (s, z, mid, found, shows, x)) = fair_then b mid new (opens_fair size b.disk_state b s z mid refl found) (boots_fair (boot_refusal s mode) mode z s mid a.line new x)
powers_fair size mode b a new (inr (inl x)) = unmoved b new x.3
powers_fair size mode b a new (inr (inr (inl x))) = starved b new x.2
powers_fair size mode b a new (inr (inr (inr x))) = spoils b new (fails b new x.1)

-- the machine that the mode begins is of the board's size
pub begun_size : (mode : BootMode) (z : Size) (payloads : List (List ℕ)) (s : DurableState) (m : Machine) → IsBegun mode z payloads s m → m.size ≡ z
begun_size modes.Fresh z payloads s m is = ap (λ (k : Machine). k.size) is
begun_size modes.Keep z payloads s m is = ap (λ (k : Machine). k.size) is
begun_size modes.Discard z payloads s m is = ap (λ (k : Machine). k.size) is
begun_size modes.Resume z payloads s m is = ap (λ (k : Machine). k.size) is.is

-- a boot makes one board
one_image : (i j : Image) (o : Option Image) → o ≡ Some i → o ≡ Some j → j ≡ i
one_image i j o e f = let g : Some j ≡ Some i = sym f ∙ e in let h : j ≡ i = cc in h

one_boot : (mode : BootMode) (z : Size) (payloads : List (List ℕ)) (s : DurableState) (m n : Machine) → IsBegun mode z payloads s m → IsBegun mode z payloads s n → n ≡ m
one_boot modes.Fresh z payloads s m n x y = y ∙ sym x
one_boot modes.Keep z payloads s m n x y = y ∙ sym x
one_boot modes.Discard z payloads s m n x y = y ∙ sym x
one_boot modes.Resume z payloads s m n x y = y.is ∙ ap (λ (k : Image). woken k z) (one_image x.image y.image s.image x.stands y.stands) ∙ sym x.is

is_on : (o p : Result ℕ ℕ) (mode : BootMode) (z : Size) (s : DurableState) (b d : Bench) (line said : Printed) (new last : Bench) → Agree o p b d → IsBooted o mode z s b line new → IsBooted p mode z s d said last → Agree line said new last
is_on o p mode z s b d line said new last (inl f) x y = inl ((on_fair o mode z s b line new x).0 f)
is_on o p mode z s b d line said new last (inr (inl f)) x y = inr (inl ((on_fair p mode z s d said last y).0 f))
is_on o p mode z s b d line said new last (inr (inr e)) x y =
    let P : Result ℕ ℕ → Type 0 = λ r. IsBooted r mode z s d said last in
    let Q : Bench → Type 0 = λ m. IsBooted o mode z s m said last in
    alike o x (subst Q (sym e.1) (subst P (sym e.0) y))
  where
    alike : (o : Result ℕ ℕ) → IsBooted o mode z s b line new → IsBooted o mode z s b said last → Agree line said new last
    alike (Ok n) x y =
        let P : BenchLife → Type 0 = λ l. last ≡ on_with (has_machine y.3 l) b in
        let one : y.3 ≡ x.3 = one_boot mode z b.payloads s x.3 y.3 x.4 y.4 in
        same line said (printed.On mode) new last (on_with (has_machine x.3 x.0) b) x.2 y.2 x.5 (subst P (some_inj x.0 y.0 b.power x.1 y.1) y.5 ∙ ap (λ (k : Machine). on_with (has_machine k x.0) b) one)
    alike (Err n) x y = same line said (printed.OnRefused n) new last (off b) x.0 y.0 x.1 y.1

slot_boots : (mode : BootMode) (z : Size) (s : DurableState) (b : Bench) (line said : Printed) (new last : Bench) → BootsFrom mode z s b line new → BootsFrom mode z s b said last → Agree line said new last
slot_boots mode z s b line said new last (o, mid, h, x) (p, mid2, k, y) = is_on o p mode z s mid mid2 line said new last (all (commands_by mode s) (on_with (life_begun s z) b) o p mid mid2 h k) x y

-- a resume whose command was not refused for its disk goes on with an image that has the memory of its board
whole_image : (z : Size) (s : DurableState) (m : Machine) → IsResumed z s m → IsWhole z s
whole_image z s m is = let P : Option Image → Type 0 = λ o. IfSome o (λ (i : Image). length i.memory ≡ ram_bytes_of z) in subst P (sym is.stands) is.whole

off_spoilt : (mid new : Bench) → new ≡ off mid → HasFailed mid → HasFailed new
off_spoilt mid new e f = let P : Bench → Type 0 = HasFailed in subst P (sym e) f

pub not_both : {A : Type 0} (n k : ℕ) (o : Result ℕ ℕ) → o ≡ Ok n → o ≡ Err k → A
not_both n k o e f = ok_err n k o o refl e f

writes_err : (c : Change) (life : BenchLife) (b : Bench) (o : Result ℕ ℕ) (new : Bench) (n : ℕ) → o ≡ Err n → Writes None c life b o new → HasFailed new
writes_err c life b o new n e (inl w) = not_both (life.receipts + 1) n o w.0 e
writes_err c life b o new n e (inr (inl w)) = hinders b new w.1
writes_err c life b o new n e (inr (inr w)) = hinders (in_doubt c life b) new w.1

issued_err : (c : Change) (s : DurableState) (z : Size) (b : Bench) (o : Result ℕ ℕ) (new : Bench) (n : ℕ) → refusal_of s c ≡ None → o ≡ Err n → Issued c (life_begun s z) b o new → HasFailed new
issued_err c s z b o new n allowed e (inl i) = absurd (let no : 0 ≡ 4096 = i.0 in omega (arith, no))
issued_err c s z b o new n allowed e (inr i) = let P : Option ℕ → Type 0 = λ r. Writes r c (life_begun s z) b o new in writes_err c (life_begun s z) b o new n e (subst P allowed i.1)

one_err : (c : Change) (s : DurableState) (z : Size) (b : Bench) (n : ℕ) (mid : Bench) → refusal_of s c ≡ None → IssuesAll (c ∷ []) (on_with (life_begun s z) b) (Err n) mid → HasFailed mid
one_err c s z b n mid allowed (life, on, first, last, i, inl (k, ok, rest)) = not_both 0 n (Err n) rest.0 refl
one_err c s z b n mid allowed (life, on, first, last, i, inr (k, err, same_err, e)) =
    let start : Bench = on_with (life_begun s z) b in
    let L : BenchLife → Type 0 = λ l. Issued c l start first last in
    let P : Bench → Type 0 = HasFailed in
    subst P (sym e) (issued_err c s z start first last k allowed err (subst L (some_inj (life_begun s z) life start.power refl on) i))

resumed_whole : (z : Size) (s : DurableState) (b : Bench) (line : Printed) (new : Bench) → refusal_of s Consume ≡ None → BootsFrom modes.Resume z s b line new → HasFailed new ⊎ IsWhole z s
resumed_whole z s b line new allowed (Ok n, mid, all, (life, on, said, m, is, e)) = inr (whole_image z s m is)
resumed_whole z s b line new allowed (Err n, mid, all, (said, e)) = inl (off_spoilt mid new e (one_err Consume s z b n mid allowed all))

resumes : (z : Size) (s : DurableState) (b : Bench) (line said : Printed) (new last : Bench) → refusal_of s Consume ≡ None → Resumes z s b line new → Resumes z s b said last → Agree line said new last
resumes z s b line said new last allowed (inl x) (inl y) = slot_boots modes.Resume z s b line said new last x y
resumes z s b line said new last allowed (inl x) (inr y) = elim (resumed_whole z s b line new allowed x) [ inl f ↦ inl f | inr whole ↦ absurd (y.0 whole) ]
resumes z s b line said new last allowed (inr x) (inl y) = elim (resumed_whole z s b said last allowed y) [ inl f ↦ inr (inl f) | inr whole ↦ absurd (x.0 whole) ]
resumes z s b line said new last allowed (inr x) (inr y) = same line said (printed.OnRefused 13) new last b x.1 y.1 x.2 y.2

begins : (mode : BootMode) (z : Size) (s : DurableState) (b : Bench) (line said : Printed) (new last : Bench) → boot_refusal s mode ≡ None → Begins mode z s b line new → Begins mode z s b said last → Agree line said new last
begins modes.Fresh z s b line said new last allowed x y = slot_boots modes.Fresh z s b line said new last x y
begins modes.Keep z s b line said new last allowed x y = slot_boots modes.Keep z s b line said new last x y
begins modes.Discard z s b line said new last allowed x y = slot_boots modes.Discard z s b line said new last x y
begins modes.Resume z s b line said new last allowed x y = resumes z s b line said new last allowed x y

boots : (r : Option ℕ) (mode : BootMode) (z : Size) (s : DurableState) (b : Bench) (line said : Printed) (new last : Bench) → boot_refusal s mode ≡ r → Boots r mode z s b line new → Boots r mode z s b said last → Agree line said new last
boots (Some n) mode z s b line said new last at x y = same line said (printed.OnRefused n) new last b x.0 y.0 x.1 y.1
boots None mode z s b line said new last at (inr (inr x)) y = inl (starves b new x.2)
boots None mode z s b line said new last at (inl x) (inr (inr y)) = inr (inl (starves b last y.2))
boots None mode z s b line said new last at (inl x) (inr (inl y)) = absurd (y.0 x.0)
boots None mode z s b line said new last at (inl x) (inl y) = begins mode z s b line said new last at x.1 y.1
boots None mode z s b line said new last at (inr (inl x)) (inl y) = absurd (x.0 y.0)
boots None mode z s b line said new last at (inr (inl x)) (inr (inl y)) = same line said (printed.OnRefused 3) new last b x.1 y.1 x.2 y.2
boots None mode z s b line said new last at (inr (inl x)) (inr (inr y)) = inr (inl (starves b last y.2))

pub kept_as : (k : Kept) (changes : List Change) → k.doubt ≡ None → MayKeep k changes → k.changes ≡ changes
kept_as k changes calm (inl e) = sym e
kept_as k changes calm (inr t) = let P : Option Change → Type 0 = λ d. TakesIn d k.changes changes in absurd (subst P calm t)

with_found : (f : Option Durable) (a z : Answer) (new last : Bench) → a.found ≡ f → z.found ≡ f → Agree a.line z.line new last → Agree a z new last
with_found f a z new last e g (inl s) = inl s
with_found f a z new last e g (inr (inl s)) = inr (inl s)
with_found f a z new last e g (inr (inr h)) = inr (inr (answers_as a f z.line e h.0 ∙ sym (answers_as z f z.line g refl), h.1))

pub found_as : (o : Option Durable) (s : DurableState) → ShowsFound o s → o ≡ Some (durable_of s)
found_as None s h = absurd h
found_as (Some d) s h = ap Some h

-- what an open finds on a disk with nothing in doubt is one state, one size and one bench
abbrev IsOneOpen : Bench → DurableState → Size → Bench → DurableState → Size → Bench → Type 0
IsOneOpen b s z mid t y other = (t ≡ s) × (y ≡ z) × (other ≡ mid)

one_open : (size : Size) (m : DiskState) (b : Bench) (s : DurableState) (z : Size) (mid : Bench) (t : DurableState) (y : Size) (other : Bench) → CalmDisk m b.kept.doubt → Opens size m b s z mid → Opens size m b t y other → IsOneOpen b s z mid t y other
one_open size Blank b s z mid t y other calm h k = absurd h
one_open size Unknown b s z mid t y other calm h k = absurd calm
one_open size Formatted b s z mid t y other calm (cs, may, is, sized, e) (ds, may2, is2, sized2, e2) =
    let f : ds ≡ cs = sym (kept_as b.kept ds calm may2) ∙ kept_as b.kept cs calm may in
    (is2 ∙ ap found_of f ∙ sym is, sized2 ∙ sym sized, e2 ∙ ap (λ k. settled k b) f ∙ sym e)

no_open : (size : Size) (m : DiskState) (b : Bench) (s : DurableState) (z : Size) (mid : Bench) (n : ℕ) → CalmDisk m b.kept.doubt → Opens size m b s z mid → IsOpenRefusal m n → ⊥
no_open size Blank b s z mid n calm h r = h
no_open size Unknown b s z mid n calm h r = calm
no_open size Formatted b s z mid n calm h r = r

one_number : (m : DiskState) (b : Bench) (n k : ℕ) → CalmDisk m b.kept.doubt → IsOpenRefusal m n → IsOpenRefusal m k → n ≡ k
one_number Blank b n k calm h r = h ∙ sym r
one_number Unknown b n k calm h r = absurd calm
one_number Formatted b n k calm h r = absurd h

pub powers : (size : Size) (mode : BootMode) (b : Bench) (a c : Answer) (new last : Bench) → IsCalm b → PowersOn size mode b a new → PowersOn size mode b c last → Agree a c new last
powers size mode b a c new last calm (inr (inr (inl x))) y = inl (starves b new x.2)
powers size mode b a c new last calm (inr (inr (inr x))) y = inl (hinders b new x.1)
powers size mode b a c new last calm (inl x) (inr (inr (inl y))) = inr (inl (starves b last y.2))
powers size mode b a c new last calm (inr (inl x)) (inr (inr (inl y))) = inr (inl (starves b last y.2))
powers size mode b a c new last calm (inl x) (inr (inr (inr y))) = inr (inl (hinders b last y.1))
powers size mode b a c new last calm (inr (inl x)) (inr (inr (inr y))) = inr (inl (hinders b last y.1))
powers size mode b a c new last calm (inr (inl x)) (inr (inl y)) =
    same a c (says (printed.OnRefused x.0)) new last b x.2 (y.2 ∙ ap (λ n. says (printed.OnRefused n)) (one_number b.disk_state b y.0 x.0 calm.0 y.1 x.1)) x.3 y.3
powers size mode b a c new last calm (inl x) (inr (inl y)) = absurd (no_open size b.disk_state b x.0 x.1 x.2 y.0 calm.0 x.3 y.1)
powers size mode b a c new last calm (inr (inl x)) (inl y) = absurd (no_open size b.disk_state b y.0 y.1 y.2 x.0 calm.0 y.3 x.1)
powers size mode b a c new last calm (inl (s, z, mid, found, shows, x)) (inl (t, w, other, found2, shows2, y)) =
    let one = one_open size b.disk_state b s z mid t w other calm.0 found found2 in
    let P : DurableState → Type 0 = λ u. ShowsFound c.found u × Boots (boot_refusal u mode) mode w u other c.line last in
    let Q : Size → Type 0 = λ u. Boots (boot_refusal s mode) mode u s other c.line last in
    let R : Bench → Type 0 = λ u. Boots (boot_refusal s mode) mode z s u c.line last in
    let again = subst P one.0 (shows2, y) in
    with_found (Some (durable_of s)) a c new last (found_as a.found s shows) (found_as c.found s again.0) (boots (boot_refusal s mode) mode z s mid a.line c.line new last refl x (subst R one.2 (subst Q one.1 again.1)))
