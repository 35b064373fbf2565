-- Turns and calls of harts: what was spoilt stays so, and where nothing is, two runs of the same turns are
-- one.
use Rattle.std.proofs.Common.{◌≡◌, ◌≢◌, ◌⊎◌, ℕ, zero, suc, inl, inr, Bool, true, false, Result, Ok, Err, refl, sym, ◌∙◌, ap, subst, arith}
use Rattle.board_model.specs.{Durable.{Change, Reset}, Shapes.Size, declared.durable.Reason.Reason}
use Rattle.susp.specs.{Checks.{IsChecked, to_ram, to_disk, kind_of}, declared.sleeps.Sleep.{Sleep, TheVariants.{ToRam, ToDisk}}}
use Rattle.machine.specs.{Machine.{Machine, hart_at}, Turns.MakesTurn}
use Rattle.sbi.specs.{Words.{ends, word_of_sleep}, declared.{words.{Word.Word, LifeEnd.LifeEnd}, resets.ResetType.ResetType}}
use Rattle.sbi.specs.Resets.{reset_of}
use Rattle.sbi.specs.declared.words.Word.TheVariants as words
use Rattle.sbi.specs.declared.words.LifeEnd.TheVariants as life_ends
use Rattle.sbi_calls.specs.declared.words.{Turned.{Turned, TheVariants.{Made, Durable}}, Did.TheVariants.Next}
use Rattle.sbi_abi.specs.{declared.{call.Call.Call, ret.SbiError.{SbiError, TheVariants.{Failed, NotSupported, Denied}}}, Calls.call_of}
use Rattle.sbi_abi.specs.declared.call.Call.TheVariants as calls
use Rattle.bench_report.specs.{Bench.{BenchLife, Bench}, Happens.{off, on_with, has_machine}}
use Rattle.bench_report.specs.Turns.{refused, AnswersError, HartCommand, Resets, SuspendIssued, dozes, BenchFallsAsleep, BenchSleeps, BenchSleepsBy, BenchMakesCall, ComesTo, GuestTurn, IsLastTurn, GuestTurns}
use Rattle.bench_report.proofs.Determined.{Fair, fair_to, fair_then, unmoved, starves, starved, issued_fair, Agree, same, issued, some_inj}

abbrev pub IsOneTurn : Type 0
IsOneTurn = (h : ℕ) (old new other : Machine) (word also : Turned) → MakesTurn h old new word → MakesTurn h old other also → (new ≡ other) × (word ≡ also)

-- ---- fair
refuses_fair : (e : SbiError) (h : ℕ) (life : BenchLife) (b : Bench) (word : Word) (new : Bench) → AnswersError e h life b word new → Fair b new
refuses_fair e h life b word new x = fair_to b new (on_with (refused h e life) b) x.1 (λ s. s, λ c. inr c, λ s. s)

held_fair : (o : Result ℕ ℕ) (said : LifeEnd) (h : ℕ) (b : Bench) (word : Word) (new : Bench) → HartCommand o said h b word new → Fair b new
held_fair (Ok n) said h b word new x = fair_to b new (off b) x.1 (λ s. s, λ c. inr c, λ s. s)
held_fair (Err n) said h b word new (life, on, x) = refuses_fair Failed h life b word new x

resets_fair : (asked : Result (ResetType × Reason) SbiError) (h : ℕ) (life : BenchLife) (b : Bench) (word : Word) (new : Bench) → Resets asked h life b word new → Fair b new
resets_fair (Err e) h life b word new x = refuses_fair e h life b word new x
resets_fair (Ok reset) h life b word new (o, mid, i, x) = fair_then b mid new (issued_fair (Reset reset.1) life b o mid i) (held_fair o (life_ends.Reset reset.0) h mid word new x)

suspends_fair : (Fits : Type 0) (c : Change) (life : BenchLife) (b : Bench) (o : Result ℕ ℕ) (new : Bench) → SuspendIssued Fits c life b o new → Fair b new
suspends_fair Fits c life b o new (inl x) = issued_fair c life b o new x.1
suspends_fair Fits c life b o new (inr (inl x)) = starved b new x.2
suspends_fair Fits c life b o new (inr (inr x)) = unmoved b new x.2

falls_fair : (sleep : Sleep) (site opaque h : ℕ) (life : BenchLife) (b : Bench) (word : Word) (new : Bench) → BenchFallsAsleep sleep site opaque h life b word new → Fair b new
falls_fair ToRam site opaque h life b word new x = fair_to b new (on_with (dozes h site opaque life) b) x.1 (λ s. s, λ c. inr c, λ s. s)
falls_fair ToDisk site opaque h life b word new (o, mid, i, x) = fair_then b mid new (suspends_fair _ _ life b o mid i) (held_fair o life_ends.Asleep h mid word new x)

sleeps_fair : (sleep : Sleep) (site opaque h : ℕ) (life : BenchLife) (b : Bench) (word : Word) (new : Bench) → BenchSleeps sleep site opaque h life b word new → Fair b new
sleeps_fair sleep site opaque h life b word new (inl x) = refuses_fair Denied h life b word new x.1
sleeps_fair sleep site opaque h life b word new (inr x) = falls_fair sleep site opaque h life b word new x.1

by_fair : (asked : Result (Sleep × ℕ) SbiError) (opaque h : ℕ) (life : BenchLife) (b : Bench) (word : Word) (new : Bench) → BenchSleepsBy asked opaque h life b word new → Fair b new
by_fair (Err e) opaque h life b word new x = refuses_fair e h life b word new x
by_fair (Ok asked) opaque h life b word new x = sleeps_fair asked.0 asked.1 opaque h life b word new x

makes_fair : (call : Call) (h : ℕ) (life : BenchLife) (b : Bench) (word : Word) (new : Bench) → BenchMakesCall call h life b word new → Fair b new
makes_fair (calls.SystemReset kind reason) h life b word new x = resets_fair (reset_of kind reason) h life b word new x
makes_fair (calls.SystemSuspend kind address opaque) h life b word new (asked, checked, x) = by_fair asked opaque h life b word new x
makes_fair call h life b word new x = refuses_fair NotSupported h life b word new x

pub comes_fair : (did : Turned) (h : ℕ) (life : BenchLife) (b : Bench) (word : Word) (new : Bench) → ComesTo did h life b word new → Fair b new
comes_fair Durable h life b word new x = makes_fair (call_of (hart_at life.machine h)) h life b word new x
comes_fair (Made did) h life b word new x = unmoved b new x.1

turn_fair : (h : ℕ) (life : BenchLife) (b : Bench) (word : Word) (new : Bench) → GuestTurn h life b word new → Fair b new
turn_fair h life b word new (m, did, turn, x) = let rest = comes_fair did h (has_machine m life) (on_with (has_machine m life) b) word new x in (λ s. rest.0 s, λ c. rest.1 c, λ s. rest.2 s)

pub turns_fair : (h n : ℕ) (b : Bench) (made : ℕ) (word : Word) (new : Bench) → GuestTurns h n b made word new → Fair b new
turns_fair h zero b made word new x = absurd x
turns_fair h (suc n) b made word new (life, on, said, mid, turn, inl x) = fair_to b new mid x.3 (turn_fair h life b said mid turn)
turns_fair h (suc n) b made word new (life, on, said, mid, turn, inr x) = fair_then b mid new (turn_fair h life b said mid turn) (turns_fair h n mid x.2 word new x.4)

-- ---- one
refuses_one : (e : SbiError) (h : ℕ) (life : BenchLife) (b : Bench) (word also : Word) (new last : Bench) → AnswersError e h life b word new → AnswersError e h life b also last → Agree word also new last
refuses_one e h life b word also new last x y = same word also (words.Goes Next) new last (on_with (refused h e life) b) x.0 y.0 x.1 y.1

held_one : (o p : Result ℕ ℕ) (said : LifeEnd) (h : ℕ) (b d : Bench) (word also : Word) (new last : Bench) → Agree o p b d → HartCommand o said h b word new → HartCommand p said h d also last → Agree word also new last
held_one o p said h b d word also new last (inl f) x y = inl ((held_fair o said h b word new x).0 f)
held_one o p said h b d word also new last (inr (inl f)) x y = inr (inl ((held_fair p said h d also last y).0 f))
held_one o p said h b d word also new last (inr (inr e)) x y =
    let P : Result ℕ ℕ → Type 0 = λ r. HartCommand r said h d also last in
    let Q : Bench → Type 0 = λ m. HartCommand o said h m also last in
    alike o x (subst Q (sym e.1) (subst P (sym e.0) y))
  where
    alike : (o : Result ℕ ℕ) → HartCommand o said h b word new → HartCommand o said h b also last → Agree word also new last
    alike (Ok n) x y = same word also (words.Over said) new last (off b) x.0 y.0 x.1 y.1
    alike (Err n) (life, on, x) (other, at, y) = let P : BenchLife → Type 0 = λ l. AnswersError Failed h l b also last in refuses_one Failed h life b word also new last x (subst P (some_inj life other b.power on at) y)

resets_one : (asked : Result (ResetType × Reason) SbiError) (h : ℕ) (life : BenchLife) (b : Bench) (word also : Word) (new last : Bench) → Resets asked h life b word new → Resets asked h life b also last → Agree word also new last
resets_one (Err e) h life b word also new last x y = refuses_one e h life b word also new last x y
resets_one (Ok reset) h life b word also new last (o, mid, i, x) (p, mid2, j, y) = held_one o p (life_ends.Reset reset.0) h mid mid2 word also new last (issued (Reset reset.1) life b o p mid mid2 i j) x y

suspends_one : (Fits : Type 0) (c : Change) (life : BenchLife) (b : Bench) (o p : Result ℕ ℕ) (new last : Bench) → SuspendIssued Fits c life b o new → SuspendIssued Fits c life b p last → Agree o p new last
suspends_one Fits c life b o p new last (inl x) (inl y) = issued c life b o p new last x.1 y.1
suspends_one Fits c life b o p new last (inr (inl x)) y = inl (starves b new x.2)
suspends_one Fits c life b o p new last (inl x) (inr (inl y)) = inr (inl (starves b last y.2))
suspends_one Fits c life b o p new last (inr (inr x)) (inr (inl y)) = inr (inl (starves b last y.2))
suspends_one Fits c life b o p new last (inl x) (inr (inr y)) = absurd (y.0 x.0)
suspends_one Fits c life b o p new last (inr (inr x)) (inl y) = absurd (x.0 y.0)
suspends_one Fits c life b o p new last (inr (inr x)) (inr (inr y)) = same o p (Err 3) new last b x.1 y.1 x.2 y.2

falls_one : (sleep : Sleep) (site opaque h : ℕ) (life : BenchLife) (b : Bench) (word also : Word) (new last : Bench) → BenchFallsAsleep sleep site opaque h life b word new → BenchFallsAsleep sleep site opaque h life b also last → Agree word also new last
falls_one ToRam site opaque h life b word also new last x y = same word also (word_of_sleep ToRam) new last (on_with (dozes h site opaque life) b) x.0 y.0 x.1 y.1
falls_one ToDisk site opaque h life b word also new last (o, mid, i, x) (p, mid2, j, y) = held_one o p life_ends.Asleep h mid mid2 word also new last (suspends_one _ _ life b o p mid mid2 i j) x y

sleeps_one : (sleep : Sleep) (site opaque h : ℕ) (life : BenchLife) (b : Bench) (word also : Word) (new last : Bench) → BenchSleeps sleep site opaque h life b word new → BenchSleeps sleep site opaque h life b also last → Agree word also new last
sleeps_one sleep site opaque h life b word also new last (inl x) (inl y) = refuses_one Denied h life b word also new last x.1 y.1
sleeps_one sleep site opaque h life b word also new last (inl x) (inr y) = absurd (x.0 y.0)
sleeps_one sleep site opaque h life b word also new last (inr x) (inl y) = absurd (y.0 x.0)
sleeps_one sleep site opaque h life b word also new last (inr x) (inr y) = falls_one sleep site opaque h life b word also new last x.1 y.1

by_one : (asked : Result (Sleep × ℕ) SbiError) (opaque h : ℕ) (life : BenchLife) (b : Bench) (word also : Word) (new last : Bench) → BenchSleepsBy asked opaque h life b word new → BenchSleepsBy asked opaque h life b also last → Agree word also new last
by_one (Err e) opaque h life b word also new last x y = refuses_one e h life b word also new last x y
by_one (Ok asked) opaque h life b word also new last x y = sleeps_one asked.0 asked.1 opaque h life b word also new last x y

-- the arguments are checked in one order
a_kind : (kind : ℕ) (sleep : Sleep) → kind ≡ kind_of sleep → (kind ≡ to_ram) ⊎ (kind ≡ to_disk)
a_kind kind ToRam e = inl e
a_kind kind ToDisk e = inr e

no_kind : {A : Type 0} (kind : ℕ) → kind ≢ to_ram → kind ≢ to_disk → (kind ≡ to_ram) ⊎ (kind ≡ to_disk) → A
no_kind kind ram disk (inl e) = absurd (ram e)
no_kind kind ram disk (inr e) = absurd (disk e)

one_kind : (kind : ℕ) (sleep also : Sleep) → kind ≡ kind_of sleep → kind ≡ kind_of also → sleep ≡ also
one_kind kind ToRam ToRam e f = refl
one_kind kind ToDisk ToDisk e f = refl
one_kind kind ToRam ToDisk e f = absurd (omega (arith, e, f))
one_kind kind ToDisk ToRam e f = absurd (omega (arith, e, f))

checked_err : (size : Size) (kind address : ℕ) (e f : SbiError) → IsChecked size kind address (Err e) → IsChecked size kind address (Err f) → e ≡ f
checked_err size kind address e f (inl x) (inl y) = x.2 ∙ sym y.2
checked_err size kind address e f (inl x) (inr y) = no_kind kind x.0 x.1 y.0
checked_err size kind address e f (inr x) (inl y) = no_kind kind y.0 y.1 x.0
checked_err size kind address e f (inr x) (inr y) = x.2 ∙ sym y.2

never_both : {A : Type 0} (size : Size) (kind address : ℕ) (asked : Sleep × ℕ) (e : SbiError) → IsChecked size kind address (Ok asked) → IsChecked size kind address (Err e) → A
never_both size kind address asked e x (inl y) = no_kind kind y.0 y.1 (a_kind kind asked.0 x.0)
never_both size kind address asked e x (inr y) = absurd (y.1 x.2)

pairs : (a c : Sleep × ℕ) → a.0 ≡ c.0 → a.1 ≡ c.1 → a ≡ c
pairs a c e f = ap (λ (s : Sleep). let p : Sleep × ℕ = (s, a.1) in p) e ∙ ap (λ (n : ℕ). let p : Sleep × ℕ = (c.0, n) in p) f

checked_one : (size : Size) (kind address : ℕ) (asked also : Result (Sleep × ℕ) SbiError) → IsChecked size kind address asked → IsChecked size kind address also → asked ≡ also
checked_one size kind address (Ok a) (Ok c) x y = ap (λ k. Ok k) (pairs a c (one_kind kind a.0 c.0 x.0 y.0) (x.1 ∙ sym y.1))
checked_one size kind address (Ok a) (Err e) x y = never_both size kind address a e x y
checked_one size kind address (Err e) (Ok a) x y = never_both size kind address a e y x
checked_one size kind address (Err e) (Err f) x y = ap (λ k. Err k) (checked_err size kind address e f x y)

makes_one : (call : Call) (h : ℕ) (life : BenchLife) (b : Bench) (word also : Word) (new last : Bench) → BenchMakesCall call h life b word new → BenchMakesCall call h life b also last → Agree word also new last
makes_one (calls.SystemReset kind reason) h life b word also new last x y = resets_one (reset_of kind reason) h life b word also new last x y
makes_one (calls.SystemSuspend kind address opaque) h life b word also new last (asked, checked, x) (other, checked2, y) =
    let P : Result (Sleep × ℕ) SbiError → Type 0 = λ r. BenchSleepsBy r opaque h life b also last in
    by_one asked opaque h life b word also new last x (subst P (sym (checked_one life.machine.size kind address asked other checked checked2)) y)
makes_one call h life b word also new last x y = refuses_one NotSupported h life b word also new last x y

pub comes_one : (did : Turned) (h : ℕ) (life : BenchLife) (b : Bench) (word also : Word) (new last : Bench) → ComesTo did h life b word new → ComesTo did h life b also last → Agree word also new last
comes_one Durable h life b word also new last x y = makes_one (call_of (hart_at life.machine h)) h life b word also new last x y
comes_one (Made did) h life b word also new last x y = same word also (words.Goes did) new last b x.0 y.0 x.1 y.1

turn_one : IsOneTurn → (h : ℕ) (life : BenchLife) (b : Bench) (word also : Word) (new last : Bench) → GuestTurn h life b word new → GuestTurn h life b also last → Agree word also new last
turn_one one h life b word also new last (m, did, t, x) (other, did2, t2, y) =
    let e = one h life.machine m other did did2 t t2 in
    let P : Machine → Type 0 = λ k. ComesTo did2 h (has_machine k life) (on_with (has_machine k life) b) also last in
    let Q : Turned → Type 0 = λ w. ComesTo w h (has_machine m life) (on_with (has_machine m life) b) also last in
    comes_one did h (has_machine m life) (on_with (has_machine m life) b) word also new last x (subst Q (sym e.1) (subst P (sym e.0) y))

-- what a row of turns says
pub record TurnsSaid : Type 0 where
  pub made : ℕ
  pub word : Word

abbrev pub row : ℕ → Word → TurnsSaid
row made word = record { made = made; word = word }

pub truth : {A : Type 0} (x y : Bool) → x ≡ y → x ≡ true → y ≡ false → A
truth x y e f g = let h : y ≡ true = sym e ∙ f in absurd (let no : ⊥ = cc in no)

-- a turn that was the last of its row, and one after which another followed
apart : {A : Type 0} (h n : ℕ) (said also : Word) (mid other : Bench) (rest : ℕ) (word : Word) (last : Bench) → said ≡ also → mid ≡ other → IsLastTurn said n mid → ends also ≡ false → other.fault_state.struck ≡ false
    → GuestTurns h n other rest word last → A
apart h n said also mid other rest word last e f (inl x) still calm more = truth (ends said) (ends also) (ap ends e) x still
apart h n said also mid other rest word last e f (inr (inl x)) still calm more = let P : ℕ → Type 0 = λ k. GuestTurns h k other rest word last in absurd (subst P x more)
apart h n said also mid other rest word last e f (inr (inr x)) still calm more = truth mid.fault_state.struck other.fault_state.struck (ap (λ (b : Bench). b.fault_state.struck) f) x calm

-- what follows a turn, by whether it is the last
abbrev After : ℕ → ℕ → Word → Bench → ℕ → Word → Bench → Type 0
After h n said mid made word new =
    (IsLastTurn said n mid × (made ≡ 1) × (word ≡ said) × (new ≡ mid))
    ⊎ ((ends said ≡ false) × (mid.fault_state.struck ≡ false) × (rest : ℕ) × (made ≡ suc rest) × GuestTurns h n mid rest word new)

after_fair : (h n : ℕ) (said : Word) (mid : Bench) (made : ℕ) (word : Word) (new : Bench) → After h n said mid made word new → Fair mid new
after_fair h n said mid made word new (inl x) = unmoved mid new x.3
after_fair h n said mid made word new (inr x) = turns_fair h n mid x.2 word new x.4

rows : (made other : ℕ) (word also : Word) → made ≡ other → word ≡ also → row made word ≡ row other also
rows made other word also e f = ap (λ k. row k word) e ∙ ap (row other) f

more_one : (rest others : ℕ) (word also : Word) (made other : ℕ) (new last : Bench) → made ≡ suc rest → other ≡ suc others → Agree (row rest word) (row others also) new last → Agree (row made word) (row other also) new last
more_one rest others word also made other new last e f (inl s) = inl s
more_one rest others word also made other new last e f (inr (inl s)) = inr (inl s)
more_one rest others word also made other new last e f (inr (inr x)) =
    inr (inr (rows made other word also (e ∙ ap (λ (r : TurnsSaid). suc r.made) x.0 ∙ sym f) (ap (λ (r : TurnsSaid). r.word) x.0), x.1))

pub turns_one : IsOneTurn → (h n : ℕ) (b : Bench) (made other : ℕ) (word also : Word) (new last : Bench) → GuestTurns h n b made word new → GuestTurns h n b other also last → Agree (row made word) (row other also) new last
turns_one one h zero b made other word also new last x y = absurd x
turns_one one h (suc n) b made other word also new last (life, on, said, mid, t, x) (life2, on2, said2, mid2, t2, y) =
    let L : BenchLife → Type 0 = λ l. GuestTurn h l b said2 mid2 in
    go x y (turn_one one h life b said said2 mid mid2 t (subst L (some_inj life life2 b.power on on2) t2))
    (λ rest others e x y. (let M : Bench → Type 0 = λ m. GuestTurns h n m others also last in turns_one one h n mid rest others word also new last x (subst M (sym e) y)))
  where
    go : After h n said mid made word new → After h n said2 mid2 other also last → Agree said said2 mid mid2
        → ((rest others : ℕ) → mid ≡ mid2 → GuestTurns h n mid rest word new → GuestTurns h n mid2 others also last → Agree (row rest word) (row others also) new last) → Agree (row made word) (row other also) new last
    go x y (inl s) more = inl ((after_fair h n said mid made word new x).0 s)
    go x y (inr (inl s)) more = inr (inl ((after_fair h n said2 mid2 other also last y).0 s))
    go (inl x) (inl y) (inr (inr e)) more = inr (inr (rows made other word also (x.1 ∙ sym y.1) (x.2 ∙ e.0 ∙ sym y.2), x.3 ∙ e.1 ∙ sym y.3))
    go (inl x) (inr y) (inr (inr e)) more = apart h n said said2 mid mid2 y.2 also last e.0 e.1 x.0 y.0 y.1 y.4
    go (inr x) (inl y) (inr (inr e)) more = apart h n said2 said mid2 mid x.2 word new (sym e.0) (sym e.1) y.0 x.0 x.1 x.4
    go (inr x) (inr y) (inr (inr e)) more = more_one x.2 y.2 word also made other new last x.3 y.3 (more x.2 y.2 e.1 x.4 y.4)
