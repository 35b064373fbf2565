-- That a store was refused memory is remembered: where it was refused none by now, it was refused none before.
use Rattle.std.proofs.Common.{◌≡◌, ◌∙◌, ℕ, zero, suc, inl, inr, true, false, Result, Ok, Err, sym, ap}
use Rattle.board_model.specs.{Durable.Change, declared.{durable.Reason.Reason, refusal.Refusal.Refusal}}
use Rattle.hart.specs.State.{ArchState}
use Rattle.hsm.specs.Views.{listed}
use Rattle.machine.specs.Machine.{Machine}
use Rattle.sbi.specs.{Helds.{MakesReset, HeldIn}, Resets.reset_of, declared.{resets.ResetType.ResetType, words.Word.Word}}
use Rattle.sbi_abi.specs.declared.{call.Call.Call, ret.SbiError.SbiError}
use Rattle.sbi_abi.specs.declared.call.Call.TheVariants as calls
use Rattle.sbi_calls.specs.{Both.TableState, declared.words.Turned.{Turned, TheVariants.{Made, Durable}}}
use Rattle.store.specs.{Asked.Asked, Lives.Life, Views.was_refused_memory}
use Rattle.susp.specs.{Sleeps.{FallsAsleepBy, SleepsBy}, declared.{buses.Bus.Bus, sleeps.Sleep.{Sleep, TheVariants.{ToRam, ToDisk}}}}
use Rattle.board.specs.Turns as boards
use Rattle.bench_report.specs.Views.{SimStore}

module _ (old new : SimStore) (none : was_refused_memory new ≡ false) where
  abbrev Before : Type 0
  Before = was_refused_memory old ≡ false

  same : new ≡ old → Before
  same e = sym (ap was_refused_memory e) ∙ none

  asked : (Does : Life → Change → Result ℕ Refusal → Life → Type 0) (c : Change) (r : Result ℕ Refusal) → Asked Does old c r new → Before
  asked Does c r did = sym (did.as_before (λ e. (let f : true ≡ false = sym (did.remembered e) ∙ none in let no : ⊥ = cc in no))) ∙ none

  reset : (by : Result (ResetType × Reason) SbiError) (s t : ArchState) (word : Word) → MakesReset by s t old new word → Before
  reset (Err e) s t word x = same x.1
  reset (Ok it) s t word x = asked _ _ x.0 x.1

  falls : (sleep : Sleep) (hart site opaque : ℕ) (bus : Bus) (fell : Result Sleep SbiError) (after : Bus) → FallsAsleepBy sleep hart site opaque bus old fell after new → Before
  falls ToRam hart site opaque bus fell after x = same x.2
  falls ToDisk hart site opaque bus fell after x = asked _ _ x.0 x.1

  sleeps : (by : Result (Sleep × ℕ) SbiError) (harts hart opaque : ℕ) (table : TableState) (bus : Bus) (fell : Result Sleep SbiError) (after : Bus) → SleepsBy harts hart by opaque (listed table.states) bus old fell after new → Before
  sleeps (Err e) harts hart opaque table bus fell after x = same x.2
  sleeps (Ok by) harts hart opaque table bus fell after (inl x) = same x.3
  sleeps (Ok by) harts hart opaque table bus fell after (inr x) = falls by.0 hart by.1 opaque bus fell after x.1

  held : (call : Call) (harts : ℕ) (s t : ArchState) (table : TableState) (bus after : Bus) (word : Word) → HeldIn harts call s t table bus after old new word → Before
  held (calls.SystemReset kind reason) harts s t table bus after word x = reset (reset_of kind reason) s t word x.0
  held (calls.SystemSuspend kind address opaque) harts s t table bus after word x = sleeps x.1.asked harts s.id opaque table bus x.0 after x.1.slept
  held call harts s t table bus after word x = same x.1

  comes_before : (did : Turned) (h : ℕ) (m n : Machine) (word : Word) → boards.Comes did h m n old new word → Before
  comes_before Durable h m n word (doze, after, is, e) = held _ _ _ _ _ _ _ word is.0
  comes_before (Made did) h m n word x = same x.1

  turn_before : (h : ℕ) (m n : Machine) (word : Word) → boards.TurnsHeld h m n old new word → Before
  turn_before h m n word (mid, did, turned, came) = comes_before did h mid n word came

pub turns_before : (h count : ℕ) (m n : Machine) (old new : SimStore) (made : ℕ) (word : Word) → boards.TurnsManyHeld h count m n old new made word → was_refused_memory new ≡ false → was_refused_memory old ≡ false
turns_before h zero m n old new made word x none = absurd x
turns_before h (suc count) m n old new made word (mid, store, first, turned, inl x) none = turn_before old store (same store new none x.2) h m mid first turned
turns_before h (suc count) m n old new made word (mid, store, first, turned, inr x) none = turn_before old store (turns_before h count mid n store new x.2 word x.4 none) h m mid first turned
