-- What turns and calls of harts make of the state that the disk stands for, read backwards.
use Rattle.std.specs.Prelude.{MatchBool}
use Rattle.std.proofs.Common.{◌≡◌, ◌≢◌, ◌⊎◌, ℕ, zero, suc, ◌-◌, ◌^◌, inl, inr, [], ◌∷◌, Bool, true, false, Option, Some, Result, Ok, Err, refl, sym, ◌∙◌, ap, subst, arith}
use Rattle.board_model.specs.{Durable.{DurableState, Change, Reset, Suspend}, Kept.{Kept, MayFind}, declared.durable.Reason.Reason}
use Rattle.susp.specs.declared.sleeps.Sleep.{Sleep, TheVariants.{ToRam, ToDisk}}
use Rattle.machine.specs.Machine.{Machine, hart_at}
use Rattle.sbi.specs.{Words.{ends, word_of_sleep}, declared.{words.{Word.Word, LifeEnd.LifeEnd}, resets.ResetType.ResetType}}
use Rattle.sbi.specs.Resets.{reset_of}
use Rattle.sbi.specs.declared.words.Word.TheVariants as words
use Rattle.sbi.specs.declared.words.LifeEnd.TheVariants as life_ends
use Rattle.sbi_calls.specs.{Words.is_answered, declared.words.{Did.{Did, TheVariants.Next}, Turned.{Turned, TheVariants.{Made, Durable}}}}
use Rattle.sbi_abi.specs.{Calls.call_of, declared.{call.Call.Call, ret.SbiError.{SbiError, TheVariants.{Failed, NotSupported, Denied}}}}
use Rattle.sbi_abi.specs.declared.call.Call.TheVariants as calls
use Rattle.bench_report.specs.{Taken.TakesSome, Bench.{BenchLife, Bench}, Prefix.{IsOfHarts, IsEndBy, EndsLife, Keeps, Hides, TellsTurns}}
use Rattle.bench_report.proofs.Refused.{WasRefused, issued_machine, suspended_machine, shown_answer}
use Rattle.bench_report.specs.Happens.{out_of_memory, off, on_with, has_machine}
use Rattle.bench_report.specs.Turns.{refused, AnswersError, HartCommand, Resets, SuspendIssued, dozes, BenchFallsAsleep, BenchSleeps, BenchSleepsBy, BenchMakesCall, ComesTo, GuestTurn, GuestTurns}
use Rattle.bench_report.proofs.Issues.{takes_more, is_up, GoesOn, IsSound, Back, joined, said, Went, issued_back}

-- a hart's command is in doubt
abbrev pub Hidden : DurableState → Bool → DurableState → Bool → Type 0
Hidden s up t now = (up ≡ true) × (now ≡ false) × (c : Change) × IsOfHarts c × TakesSome (c ∷ []) s t

-- what one turn or call of hart h tells after which the life goes on: a hart whose command is in doubt was answered -1
abbrev pub TellsDid : Bool → ℕ → Bench → DurableState → Bool → DurableState → Bool → Type 0
TellsDid true h new s up t now = Keeps s up t now ⊎ (WasRefused h new × Hidden s up t now)
TellsDid false h new s up t now = Keeps s up t now

-- and its word
abbrev pub TellsOne : ℕ → Bench → Word → DurableState → Bool → DurableState → Bool → Type 0
TellsOne h new (words.Goes did) s up t now = TellsDid (is_answered did) h new s up t now
TellsOne h new (words.Over end) s up t now = EndsLife (IsEndBy end) s up t now

-- and of a row of turns, where an earlier one may hide a command
abbrev pub TellsWord : Word → DurableState → Bool → DurableState → Bool → Type 0
TellsWord (words.Goes did) s up t now = Hides s up t now
TellsWord (words.Over end) s up t now = EndsLife (IsEndBy end) s up t now

-- the state before and after, by the word
abbrev pub GoesBy : ℕ → Word → Bench → Bench → Type 0
GoesBy h word b new = Back b new (λ s t. TellsOne h new word s (is_up b.power) t (is_up new.power))

abbrev pub RowGoesBy : Word → Bench → Bench → Type 0
RowGoesBy word b new = Back b new (λ s t. TellsWord word s (is_up b.power) t (is_up new.power))

by_eqs : (h : ℕ) (word reported : Word) (b new n : Bench) → word ≡ reported → new ≡ n → GoesBy h reported b n → GoesBy h word b new
by_eqs h word reported b new n e f x =
    let P : Word → Type 0 = λ w. GoesBy h w b new in
    let Q : Bench → Type 0 = λ m. GoesBy h reported b m in
    subst P (sym e) (subst Q (sym f) x)

keeps_one : (h : ℕ) (new : Bench) (answered : Bool) (s t : DurableState) (up now : Bool) → Keeps s up t now → TellsDid answered h new s up t now
keeps_one h new true s t up now k = inl k
keeps_one h new false s t up now k = k

-- the life goes on with another machine
same_life : (life : BenchLife) (b : Bench) → IsSound b → b.power ≡ Some life → (other : BenchLife) → other.now ≡ life.now → other.doubt ≡ life.doubt → IsSound (on_with other b)
same_life life b sound on other now doubt =
    let F : Option BenchLife → Type 0 = λ p. GoesOn b.kept p in
    let was = subst F on sound.1 in
    (sound.0, (was.0 ∙ sym doubt, now ∙ was.1))

stays : (life : BenchLife) (b : Bench) (other : BenchLife) → IsSound b → b.power ≡ Some life → other.now ≡ life.now → other.doubt ≡ life.doubt
    → Back b (on_with other b) (λ s t. Keeps s (is_up b.power) t (is_up (on_with other b).power))
stays life b other sound on now doubt =
    (same_life life b sound on other now doubt, λ t found. (t, found, (refl, ap takes_more doubt ∙ sym (ap is_up on))))

-- a word that tells of no command
goes_on : (h : ℕ) (did : Did) (life : BenchLife) (b other_bench : Bench) (other : BenchLife) → other_bench ≡ on_with other b → (word : Word) → word ≡ words.Goes did → IsSound b → b.power ≡ Some life → other.now ≡ life.now → other.doubt ≡ life.doubt → GoesBy h word b other_bench
goes_on h did life b new other f word e sound on now doubt =
    by_eqs h word (words.Goes did) b new (on_with other b) e f
    (said b (on_with other b) (λ s t. Keeps s (is_up b.power) t (is_up (on_with other b).power)) (λ s t. TellsOne h (on_with other b) (words.Goes did) s (is_up b.power) t (is_up (on_with other b).power)) (stays life b other sound on now doubt)
    (λ s t k. keeps_one h (on_with other b) (is_answered did) s t (is_up b.power) (is_up (on_with other b).power) k))

-- ---- a command
-- the command by which a life ends is a hart's
pub of_harts : (end : LifeEnd) (c : Change) → IsEndBy end c → IsOfHarts c
of_harts life_ends.Asleep c is = inr is
of_harts (life_ends.Reset kind) c is = inl is

refuses_back : (e : SbiError) (h : ℕ) (life : BenchLife) (b : Bench) (word : Word) (new : Bench) → IsSound b → b.power ≡ Some life → AnswersError e h life b word new → GoesBy h word b new
refuses_back e h life b word new sound on x = goes_on h Next life b new (refused h e life) x.1 word x.0 sound on refl refl

held_back : (o : Result ℕ ℕ) (end : LifeEnd) (c : Change) → IsEndBy end c → (h : ℕ) (m : Machine) → call_of (hart_at m h) ≢ calls.Unknown → (b mid : Bench) (word : Word) (new : Bench)
    → Back b mid (Went o c (is_up b.power) (is_up mid.power)) → ((life : BenchLife) → mid.power ≡ Some life → life.machine ≡ m) → HartCommand o end h mid word new → GoesBy h word b new
held_back (Ok n) end c is h m known b mid word new back same x =
    by_eqs h word (words.Over end) b new (off mid) x.0 x.1
    ((back.0.0, tt), λ t found. (let s = back.1 t found in (s.0, s.1, (s.2.0, refl, c, is, (s.2.1, s.2.2)))))
held_back (Err n) end c is h m known b mid word new back same (life, on, (e, f)) =
    by_eqs h word (words.Goes Next) b new last e f
    (same_life life mid back.0 on (refused h Failed life) refl refl, λ t found. (let s = back.1 t found in (s.0, s.1, went s.0 t s.2)))
  where
    last : Bench
    last = on_with (refused h Failed life) mid

    stands : call_of (hart_at life.machine h) ≢ calls.Unknown
    stands = let P : Machine → Type 0 = λ k. call_of (hart_at k h) ≢ calls.Unknown in subst P (sym (same life on)) known

    shows : WasRefused h last
    shows = (refused h Failed life, refl, shown_answer life.machine h (2 ^ 64 - 1) stands)

    went : (s t : DurableState) → Went (Err n) c (is_up b.power) (is_up mid.power) s t → TellsOne h last (words.Goes Next) s (is_up b.power) t (takes_more life.doubt)
    went s t (inl w) = inl (w.1, sym (ap is_up on) ∙ w.2)
    went s t (inr (inl w)) = inl (w.1, sym (ap is_up on) ∙ w.3 ∙ sym w.2)
    went s t (inr (inr w)) = inr (shows, (w.1, sym (ap is_up on) ∙ w.2, c, of_harts end c is, w.3))

resets_back : (asked : Result (ResetType × Reason) SbiError) (h : ℕ) (life : BenchLife) (b : Bench) (word : Word) (new : Bench) → IsSound b → b.power ≡ Some life → call_of (hart_at life.machine h) ≢ calls.Unknown → Resets asked h life b word new → GoesBy h word b new
resets_back (Err e) h life b word new sound on known x = refuses_back e h life b word new sound on x
resets_back (Ok reset) h life b word new sound on known (o, mid, i, x) =
    held_back o (life_ends.Reset reset.0) (Reset reset.1) (reset.1, refl) h life.machine known b mid word new (issued_back (Reset reset.1) life b o mid sound on i) (issued_machine (Reset reset.1) life b o mid on i) x

-- where there was no memory, or the command did not fit, nothing went to the disk
none_went : (n : ℕ) (c : Change) (b mid : Bench) → IsSound b → n ≢ 6 → mid.disk_state ≡ b.disk_state → mid.kept ≡ b.kept → mid.power ≡ b.power → Back b mid (Went (Err n) c (is_up b.power) (is_up mid.power))
none_went n c b mid sound differs disk_state kept power =
    let F : Kept → Type 0 = λ k. GoesOn k mid.power in
    let G : Option BenchLife → Type 0 = λ p. GoesOn b.kept p in
    let K : Kept → DurableState → Type 0 = λ k t. MayFind k t in
    ((disk_state ∙ sound.0, subst F (sym kept) (subst G (sym power) sound.1)), λ t found. (t, (let R : Kept → Type 0 = λ k. MayFind k t in subst R kept found), inl (differs, refl, ap is_up power)))

suspends_back : (Fits : Type 0) (c : Change) (life : BenchLife) (b : Bench) (o : Result ℕ ℕ) (mid : Bench) → IsSound b → b.power ≡ Some life → SuspendIssued Fits c life b o mid → Back b mid (Went o c (is_up b.power) (is_up mid.power))
suspends_back Fits c life b o mid sound on (inl x) = issued_back c life b o mid sound on x.1
suspends_back Fits c life b o mid sound on (inr (inl x)) = at 11 (out_of_memory b) x.1 x.2 (none_went 11 c b (out_of_memory b) sound (λ f. omega (arith, f)) refl refl refl)
  where
    at : (n : ℕ) (y : Bench) → o ≡ Err n → mid ≡ y → Back b y (Went (Err n) c (is_up b.power) (is_up y.power)) → Back b mid (Went o c (is_up b.power) (is_up mid.power))
    at n y e f back =
        let P : Result ℕ ℕ → Type 0 = λ r. Back b mid (Went r c (is_up b.power) (is_up mid.power)) in
        let Q : Bench → Type 0 = λ m. Back b m (Went (Err n) c (is_up b.power) (is_up m.power)) in
        subst P (sym e) (subst Q (sym f) back)
suspends_back Fits c life b o mid sound on (inr (inr x)) = at 3 b x.1 x.2 (none_went 3 c b b sound (λ f. omega (arith, f)) refl refl refl)
  where
    at : (n : ℕ) (y : Bench) → o ≡ Err n → mid ≡ y → Back b y (Went (Err n) c (is_up b.power) (is_up y.power)) → Back b mid (Went o c (is_up b.power) (is_up mid.power))
    at n y e f back =
        let P : Result ℕ ℕ → Type 0 = λ r. Back b mid (Went r c (is_up b.power) (is_up mid.power)) in
        let Q : Bench → Type 0 = λ m. Back b m (Went (Err n) c (is_up b.power) (is_up m.power)) in
        subst P (sym e) (subst Q (sym f) back)

falls_back : (sleep : Sleep) (site opaque h : ℕ) (life : BenchLife) (b : Bench) (word : Word) (new : Bench) → IsSound b → b.power ≡ Some life → call_of (hart_at life.machine h) ≢ calls.Unknown → BenchFallsAsleep sleep site opaque h life b word new → GoesBy h word b new
falls_back ToRam site opaque h life b word new sound on known x =
    let next : BenchLife = dozes h site opaque life in by_eqs h word (word_of_sleep ToRam) b new (on_with next b) x.0 x.1 (stays life b next sound on refl refl)
falls_back ToDisk site opaque h life b word new sound on known (o, mid, i, x) =
    let hart = (hart_at life.machine h).id in
    let c : Change = Suspend hart site opaque life.machine.memory in
    held_back o life_ends.Asleep c (hart, site, opaque, life.machine.memory, refl) h life.machine known b mid word new
    (suspends_back _ c life b o mid sound on i) (suspended_machine _ c life b o mid on i) x

sleeps_back : (sleep : Sleep) (site opaque h : ℕ) (life : BenchLife) (b : Bench) (word : Word) (new : Bench) → IsSound b → b.power ≡ Some life → call_of (hart_at life.machine h) ≢ calls.Unknown → BenchSleeps sleep site opaque h life b word new → GoesBy h word b new
sleeps_back sleep site opaque h life b word new sound on known (inl x) = refuses_back Denied h life b word new sound on x.1
sleeps_back sleep site opaque h life b word new sound on known (inr x) = falls_back sleep site opaque h life b word new sound on known x.1

by_back : (asked : Result (Sleep × ℕ) SbiError) (opaque h : ℕ) (life : BenchLife) (b : Bench) (word : Word) (new : Bench) → IsSound b → b.power ≡ Some life → call_of (hart_at life.machine h) ≢ calls.Unknown → BenchSleepsBy asked opaque h life b word new → GoesBy h word b new
by_back (Err e) opaque h life b word new sound on known x = refuses_back e h life b word new sound on x
by_back (Ok asked) opaque h life b word new sound on known x = sleeps_back asked.0 asked.1 opaque h life b word new sound on known x

makes_back : (call : Call) (h : ℕ) (life : BenchLife) (b : Bench) (word : Word) (new : Bench) → IsSound b → b.power ≡ Some life → call_of (hart_at life.machine h) ≡ call → BenchMakesCall call h life b word new → GoesBy h word b new
makes_back (calls.SystemReset kind reason) h life b word new sound on at x =
    resets_back (reset_of kind reason) h life b word new sound on (λ unknown. (let e : calls.Unknown ≡ calls.SystemReset kind reason = sym unknown ∙ at in let no : ⊥ = cc in no)) x
makes_back (calls.SystemSuspend kind address opaque) h life b word new sound on at (asked, checked, x) =
    by_back asked opaque h life b word new sound on (λ unknown. (let e : calls.Unknown ≡ calls.SystemSuspend kind address opaque = sym unknown ∙ at in let no : ⊥ = cc in no)) x
makes_back call h life b word new sound on at x = refuses_back NotSupported h life b word new sound on x

-- what comes of what the machine did, from the bench before it
pub comes_back : (turned : Turned) (h : ℕ) (life other : BenchLife) (b : Bench) (word : Word) (new : Bench) → IsSound b → b.power ≡ Some life → other.now ≡ life.now → other.doubt ≡ life.doubt → ComesTo turned h other (on_with other b) word new → GoesBy h word b new
comes_back Durable h life other b word new sound on now doubt x =
    let start : Bench = on_with other b in
    let back : GoesBy h word start new = makes_back (call_of (hart_at other.machine h)) h other start word new (same_life life b sound on other now doubt) refl refl x in
    let up : is_up start.power ≡ is_up b.power = ap takes_more doubt ∙ sym (ap is_up on) in
    let P : Bool → Type 0 = λ u. (t : DurableState) → MayFind new.kept t → (s : DurableState) × MayFind b.kept s × TellsOne h new word s u t (is_up new.power) in
    (back.0, subst P up back.1)
comes_back (Made did) h life other b word new sound on now doubt x = goes_on h did life b new other x.1 word x.0 sound on now doubt

turn_back : (h : ℕ) (life : BenchLife) (b : Bench) (word : Word) (new : Bench) → IsSound b → b.power ≡ Some life → GuestTurn h life b word new → GoesBy h word b new
turn_back h life b word new sound on (m, did, turn, x) = comes_back did h life (has_machine m life) b word new sound on refl refl x

-- what one turn tells, as the only one of its line, and as one of a row
did_once : (answered : Bool) (h : ℕ) (last : Bench) (s t : DurableState) (up now : Bool) → TellsDid answered h last s up t now → MatchBool answered (Hides s up t now) (Keeps s up t now)
did_once true h last s t up now (inl k) = inl k
did_once true h last s t up now (inr x) = inr x.1
did_once false h last s t up now k = k

as_one : (h : ℕ) (last : Bench) (word : Word) (s t : DurableState) (up now : Bool) → TellsOne h last word s up t now → TellsTurns 1 word s up t now
as_one h last (words.Goes did) s t up now x = did_once (is_answered did) h last s t up now x
as_one h last (words.Over end) s t up now x = x

did_in_row : (answered : Bool) (h : ℕ) (last : Bench) (s t : DurableState) (up now : Bool) → TellsDid answered h last s up t now → Hides s up t now
did_in_row true h last s t up now (inl k) = inl k
did_in_row true h last s t up now (inr x) = inr x.1
did_in_row false h last s t up now k = inl k

in_row : (h : ℕ) (last : Bench) (word : Word) (s t : DurableState) (up now : Bool) → TellsOne h last word s up t now → TellsWord word s up t now
in_row h last (words.Goes did) s t up now x = did_in_row (is_answered did) h last s t up now x
in_row h last (words.Over end) s t up now x = x

row_of_one : (h : ℕ) (word : Word) (b new : Bench) → GoesBy h word b new → RowGoesBy word b new
row_of_one h word b new one = said b new (λ s t. TellsOne h new word s (is_up b.power) t (is_up new.power)) (λ s t. TellsWord word s (is_up b.power) t (is_up new.power)) one (λ s t x. in_row h new word s t (is_up b.power) (is_up new.power) x)

-- a turn after which others follow, and those
followed : (word : Word) (up mid now : Bool) (s u t : DurableState) → Hides s up u mid → TellsWord word u mid t now → TellsWord word s up t now
followed word up mid now s u t (inl x) y =
    let P : DurableState → Type 0 = λ v. TellsWord word v up t now in
    let Q : Bool → Type 0 = λ m. TellsWord word u m t now in
    subst P x.0 (subst Q x.1 y)
followed (words.Goes did) up mid now s u t (inr x) (inl y) =
    let P : DurableState → Type 0 = TakesSome (x.2 ∷ []) s in
    inr (x.0, y.1 ∙ x.1, x.2, x.3, subst P (sym y.0) x.4)
followed (words.Goes did) up mid now s u t (inr x) (inr y) = absurd (let e : true ≡ false = sym y.0 ∙ x.1 in let no : ⊥ = cc in no)
followed (words.Over end) up mid now s u t (inr x) y = absurd (let e : true ≡ false = sym y.0 ∙ x.1 in let no : ⊥ = cc in no)

-- a word that does not end a line tells no end of a life
hides : (word : Word) (up now : Bool) (s t : DurableState) → ends word ≡ false → TellsWord word s up t now → Hides s up t now
hides (words.Goes did) up now s t e x = x
hides (words.Over end) up now s t e x = absurd (let no : ⊥ = cc in no)

rows_back : (h n : ℕ) (b : Bench) (made : ℕ) (word : Word) (new : Bench) → IsSound b → GuestTurns h n b made word new → RowGoesBy word b new
rows_back h zero b made word new sound x = absurd x
rows_back h (suc n) b made word new sound (life, on, reported, mid, turn, inl x) =
    row_of_one h word b new (by_eqs h word reported b new mid x.2 x.3 (turn_back h life b reported mid sound on turn))
rows_back h (suc n) b made word new sound (life, on, reported, mid, turn, inr x) =
    let first : RowGoesBy reported b mid = row_of_one h reported b mid (turn_back h life b reported mid sound on turn) in
    let rest : RowGoesBy word mid new = rows_back h n mid x.2 word new first.0 x.4 in
    joined b mid new (λ s t. TellsWord reported s (is_up b.power) t (is_up mid.power)) (λ s t. TellsWord word s (is_up mid.power) t (is_up new.power)) (λ s t. TellsWord word s (is_up b.power) t (is_up new.power)) first rest
    (λ s u t p q. followed word (is_up b.power) (is_up mid.power) (is_up new.power) s u t (hides reported (is_up b.power) (is_up mid.power) s u x.0 p) q)

pub none_made : {A : Type 0} (h n : ℕ) (b : Bench) (word : Word) (new : Bench) → GuestTurns h n b 0 word new → A
none_made h zero b word new x = absurd x
none_made h (suc n) b word new (life, on, said, mid, turned, inl x) = absurd (let e : 0 ≡ 1 = x.1 in let no : ⊥ = cc in no)
none_made h (suc n) b word new (life, on, said, mid, turned, inr x) = absurd (omega (arith, x.3))

-- a row of several turns
tells_row : (made : ℕ) (word : Word) (s t : DurableState) (up now : Bool) → TellsWord word s up t now → TellsTurns (suc (suc made)) word s up t now
tells_row made (words.Goes did) s t up now x = x
tells_row made (words.Over end) s t up now x = x

-- what a line of turns tells
abbrev pub TurnsGoBy : ℕ → Word → Bench → Bench → Type 0
TurnsGoBy made word b new = Back b new (λ s t. TellsTurns made word s (is_up b.power) t (is_up new.power))

pub turns_back : (h n : ℕ) (b : Bench) (made : ℕ) (word : Word) (new : Bench) → IsSound b → GuestTurns h n b made word new → TurnsGoBy made word b new
turns_back h zero b made word new sound x = absurd x
turns_back h (suc n) b made word new sound (life, on, reported, mid, turn, inl x) =
    let one : GoesBy h word b new = by_eqs h word reported b new mid x.2 x.3 (turn_back h life b reported mid sound on turn) in
    let P : ℕ → Type 0 = λ k. TurnsGoBy k word b new in
    subst P (sym x.1) (said b new (λ s t. TellsOne h new word s (is_up b.power) t (is_up new.power)) (λ s t. TellsTurns 1 word s (is_up b.power) t (is_up new.power)) one (λ s t y. as_one h new word s t (is_up b.power) (is_up new.power) y))
turns_back h (suc n) b made word new sound (life, on, reported, mid, turn, inr (goes, calm, rest, is, more)) =
    let P : ℕ → Type 0 = λ k. TurnsGoBy k word b new in
    let row : RowGoesBy word b new = rows_back h (suc n) b made word new sound (life, on, reported, mid, turn, inr (goes, calm, rest, is, more)) in
    subst P (sym is) (by_rest rest more row)
  where
    by_rest : (k : ℕ) → GuestTurns h n mid k word new → RowGoesBy word b new → TurnsGoBy (suc k) word b new
    by_rest zero more row = none_made h n mid word new more
    by_rest (suc k) more row = said b new (λ s t. TellsWord word s (is_up b.power) t (is_up new.power)) (λ s t. TellsTurns (suc (suc k)) word s (is_up b.power) t (is_up new.power)) row (λ s t y. tells_row k word s t (is_up b.power) (is_up new.power) y)
