-- An idle turn changes nothing.
use Rattle.std.proofs.Common.{◌≡◌, inl, inr, ℕ, Bool, true, false, Option, Some, None, Result, Ok, Err, refl, sym, ap, ◌∙◌, subst}
use Rattle.board_model.specs.{Shapes.Size, declared.durable.Reason.Reason}
use Rattle.hart.specs.{State.ArchState, declared.Outcome.Outcome}
use Rattle.hart.specs.declared.Outcome.TheVariants as outcomes
use Rattle.hsm.specs.{Views.listed, States.{HartState, stopped, start_pending, started, suspended}}
use Rattle.sbi.specs.declared.{words.{Word.Word, LifeEnd.LifeEnd}, resets.ResetType.ResetType}
use Rattle.sbi.specs.declared.words.Word.TheVariants as words
use Rattle.sbi_abi.specs.{Calls.call_of, declared.{call.Call.Call, ret.SbiError.SbiError}}
use Rattle.sbi_abi.specs.declared.call.Call.TheVariants as calls
use Rattle.sbi_calls.specs.{Answers.Ends, Both.TableState, declared.{endings.Ending.Ending, words.{Did.Did, Turned.Turned}}}
use Rattle.sbi_calls.specs.declared.endings.Ending.TheVariants.{Answers, Stops, Suspends, SuspendsAfresh, Defers}
use Rattle.sbi_calls.specs.declared.words.Turned.TheVariants.{Made, Durable}
use Rattle.sbi_calls.specs.declared.words.Did.TheVariants as dids
use Rattle.susp.specs.{Dozes.doze_of, declared.{buses.Doze.Doze, sleeps.Sleep.{Sleep, TheVariants.{ToRam, ToDisk}}}}
use Rattle.turns.specs.Turns.{Moment, begun_by, woken_turn, has_pending, Finishes, TurnAs}
use Rattle.machine.{specs.{Machine.{Machine, hart_at}, Turns.{moment_of, with_moment, DozeTurn, TurnBy, MakesTurn}}, proofs.Rows.put_same}
use Rattle.bench_report.specs.{Bench.{BenchLife, Bench}, Happens.{on_with, has_machine}, Rows.{IdleTurnStays, is_idle, is_idle_did}}
use Rattle.bench_report.specs.Turns.{HartCommand, Resets, BenchFallsAsleep, BenchSleeps, BenchSleepsBy, BenchMakesCall, ComesTo, GuestTurns}
use Rattle.bench_report.proofs.Turns.{went_in}

-- ---- of a machine
no_call : (end : Ending) (u v : ArchState) → Ends end u v (Made dids.Idle) → ⊥
no_call (Answers a) u v e = let no : Made dids.Idle ≡ Made dids.Next = e.1 in let never : ⊥ = cc in never
no_call Stops u v e = let no : Made dids.Idle ≡ Made dids.Stopped = e.1 in let never : ⊥ = cc in never
no_call Suspends u v e = let no : Made dids.Idle ≡ Made dids.Suspended = e.1 in let never : ⊥ = cc in never
no_call (SuspendsAfresh a o) u v e = let no : Made dids.Idle ≡ Made dids.Suspended = e.1 in let never : ⊥ = cc in never
no_call Defers u v e = let no : Made dids.Idle ≡ Durable = e.1 in let never : ⊥ = cc in never

no_step : (size : Size) (outcome : Outcome) (x : TableState) (u : ArchState) (y : TableState) (v : ArchState) → Finishes size outcome x u y v (Made dids.Idle) → ⊥
no_step size outcomes.Next x u y v e = let no : Made dids.Idle ≡ Made dids.Next = e.2 in let never : ⊥ = cc in never
no_step size outcomes.TakePending x u y v e = let no : Made dids.Idle ≡ Made dids.Next = e.2 in let never : ⊥ = cc in never
no_step size outcomes.Ecall x u y v e = no_call _ u v e.0

woken_idle : (size : Size) (pending : Bool) (a b : Moment) → TurnAs size (woken_turn pending a.hart.id a.table).ready (woken_turn pending a.hart.id a.table).table a b (Made dids.Idle) → b ≡ a
woken_idle size true a b e = absurd (let no : Made dids.Idle ≡ Made dids.Woke = e.1 in let never : ⊥ = cc in never)
woken_idle size false a b e = e.0

begun_idle : (size : Size) (s : HartState) (a b : Moment) → TurnAs size (begun_by a.hart.id a.table s).ready (begun_by a.hart.id a.table s).table a b (Made dids.Idle) → b ≡ a
begun_idle size stopped a b e = e.0
begun_idle size (start_pending site o) a b e = absurd (let no : Made dids.Idle ≡ Made dids.Entered = e.1 in let never : ⊥ = cc in never)
begun_idle size started a b e = absurd (no_step size e.1 _ e.0 _ _ e.3)
begun_idle size suspended a b e = woken_idle size (has_pending a.hart.id a.table.pairs) a b e

doze_idle : (woken : Bool) (d : Doze) (h : ℕ) (old new : Machine) → DozeTurn woken d h old new (Made dids.Idle) → new ≡ old
doze_idle false d h old new e = e.0
doze_idle true d h old new e = absurd (let no : Made dids.Idle ≡ Made dids.Resumed = e.1 in let never : ⊥ = cc in never)

turn_idle : (o : Option Doze) (h : ℕ) (old new : Machine) → TurnBy o h old new (Made dids.Idle) → new ≡ old
turn_idle (Some d) h old new e = doze_idle d.woken d h old new e
turn_idle None h old new (after, does, is) =
    let a : Moment = moment_of h old in
    is ∙ (ap (with_moment h old) (begun_idle old.size (listed a.table.states a.hart.id) a after does) ∙ put_same h old)

-- ---- of a bench: no durable call is an idle turn
command_moves : (o : Result ℕ ℕ) (end : LifeEnd) (h : ℕ) (b : Bench) (word : Word) (new : Bench) → HartCommand o end h b word new → is_idle word ≡ true → ⊥
command_moves (Ok n) end h b word new e idle = let no : true ≡ false = sym idle ∙ ap is_idle e.0 in let never : ⊥ = cc in never
command_moves (Err n) end h b word new e idle = let no : true ≡ false = sym idle ∙ ap is_idle e.2.0 in let never : ⊥ = cc in never

goes_next : (word : Word) → word ≡ words.Goes dids.Next → is_idle word ≡ true → ⊥
goes_next word e idle = let no : true ≡ false = sym idle ∙ ap is_idle e in let never : ⊥ = cc in never

reset_moves : (asked : Result (ResetType × Reason) SbiError) (h : ℕ) (life : BenchLife) (b : Bench) (word : Word) (new : Bench) → Resets asked h life b word new → is_idle word ≡ true → ⊥
reset_moves (Err e) h life b word new did idle = goes_next word did.0 idle
reset_moves (Ok reset) h life b word new did idle = command_moves did.0 _ h did.1 word new did.3 idle

asleep_moves : (sleep : Sleep) (site opaque h : ℕ) (life : BenchLife) (b : Bench) (word : Word) (new : Bench) → BenchFallsAsleep sleep site opaque h life b word new → is_idle word ≡ true → ⊥
asleep_moves ToRam site opaque h life b word new did idle = let no : true ≡ false = sym idle ∙ ap is_idle did.0 in let never : ⊥ = cc in never
asleep_moves ToDisk site opaque h life b word new did idle = command_moves did.0 _ h did.1 word new did.3 idle

sleep_moves : (sleep : Sleep) (site opaque h : ℕ) (life : BenchLife) (b : Bench) (word : Word) (new : Bench) → BenchSleeps sleep site opaque h life b word new → is_idle word ≡ true → ⊥
sleep_moves sleep site opaque h life b word new (inl did) idle = goes_next word did.1.0 idle
sleep_moves sleep site opaque h life b word new (inr did) idle = asleep_moves sleep site opaque h life b word new did.1 idle

sleep_by_moves : (asked : Result (Sleep × ℕ) SbiError) (opaque h : ℕ) (life : BenchLife) (b : Bench) (word : Word) (new : Bench) → BenchSleepsBy asked opaque h life b word new → is_idle word ≡ true → ⊥
sleep_by_moves (Err e) opaque h life b word new did idle = goes_next word did.0 idle
sleep_by_moves (Ok asked) opaque h life b word new did idle = sleep_moves asked.0 asked.1 opaque h life b word new did idle

call_moves : (call : Call) (h : ℕ) (life : BenchLife) (b : Bench) (word : Word) (new : Bench) → BenchMakesCall call h life b word new → is_idle word ≡ true → ⊥
call_moves (calls.SystemReset kind reason) h life b word new did idle = reset_moves _ h life b word new did idle
call_moves (calls.SystemSuspend kind address opaque) h life b word new did idle = sleep_by_moves did.0 opaque h life b word new did.2 idle
call_moves call h life b word new did idle = goes_next word did.0 idle

made_idle : (did : Did) → is_idle_did did ≡ true → did ≡ dids.Idle
made_idle dids.Idle e = refl
made_idle did e = absurd (let never : ⊥ = cc in never)

same_life : (life : BenchLife) (m : Machine) (b : Bench) → b.power ≡ Some life → m ≡ life.machine → on_with (has_machine m life) b ≡ b
same_life life m b on same =
    let F : Machine → Bench = λ x. on_with (has_machine x life) b in
    let G : Option BenchLife → Bench = λ p. record b { power = p } in
    ap F same ∙ ap G (sym on)

comes_idle : (turned : Turned) (h : ℕ) (life : BenchLife) (m : Machine) (b : Bench) (word : Word) (new : Bench) → b.power ≡ Some life → MakesTurn h life.machine m turned → ComesTo turned h (has_machine m life) (on_with (has_machine m life) b) word new → is_idle word ≡ true → new ≡ b
comes_idle Durable h life m b word new on turn comes idle = absurd (call_moves (call_of (hart_at (has_machine m life).machine h)) h (has_machine m life) (on_with (has_machine m life) b) word new comes idle)
comes_idle (Made did) h life m b word new on turn comes idle =
    let is : did ≡ dids.Idle = made_idle did (ap is_idle (sym comes.0) ∙ idle) in
    let P : Did → Type 0 = λ d. MakesTurn h life.machine m (Made d) in
    comes.1 ∙ same_life life m b on (turn_idle (doze_of h life.machine.doze) h life.machine m (subst P is turn))

guest_idle : (h : ℕ) (b : Bench) (word : Word) (new : Bench) → is_idle word ≡ true → GuestTurns h 1 b 1 word new → new ≡ b
guest_idle h b word new idle (life, on, said, mid, (m, turned, turn, comes), inl (last, one, same, is)) =
    is ∙ comes_idle turned h life m b said mid on turn comes (ap is_idle (sym same) ∙ idle)
guest_idle h b word new idle (life, on, said, mid, turn, inr (goes, calm, rest, e, more)) = absurd more

pub idle_turn_stays : IdleTurnStays
idle_turn_stays size h word b new idle moves = guest_idle h b word new idle (went_in size h 1 b 1 word new moves).0.guest
