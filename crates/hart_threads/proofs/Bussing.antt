-- What is done with a bus, and its history.
use Rattle.std.proofs.Common.{◌≡◌, ⊎_elim, ℕ, Bool, true, false, List, ◌∷◌, Option, None, Result, Ok, Err, refl, sym, ap, subst, inl, inr}
use Rattle.std.{specs.Prelude.IfSome, proofs.Math.Logic.{∥∥₁_map, ∥∥₁_map₂}}
use Rattle.board_model.specs.{Durable.{Change, ends_life}, Shapes.Size, declared.refusal.Refusal.Refusal}
use Rattle.disk.specs.{declared.{device.{Disk.Ghosts, Lane.{Ghosts as Lanes}}}}
use Rattle.hart.specs.State.{ArchState}
use Rattle.hsm.specs.Words.{HartView}
use Rattle.tallies.specs.{Books.{keeper_view, told_after}, Logs.Log, declared.book_views.{BookView.BookView, PartView.PartView}}
use Rattle.store.specs.{Asked.Asked, Lives.{Life, Applied}, Views.{life_of, size_of_store}, declared.stores.Store.Store}
use Rattle.sbi_abi.specs.{Calls.call_of, declared.{call.Call.Call, ret.SbiError.SbiError}}
use Rattle.sbi_abi.specs.declared.call.Call.TheVariants as calls
use Rattle.sbi_calls.specs.{Both.Known, Words.is_doze, declared.words.Turned.Turned}
use Rattle.susp.specs.{Sleeps.{FallsAsleep, SleepsAt}, declared.{buses.Bus.Bus, sleeps.Sleep.{Sleep, TheVariants.{ToRam, ToDisk}}}}
use Rattle.sbi.specs.{Helds.{EndsSleep, MakesHeld}, declared.words.{LifeEnd.LifeEnd, Word.{Word, TheVariants.{Goes, Over}}}}
use Rattle.turns.specs.{Own.{StepsIf, TurnAsOwn, TurnOwn}, declared.readies.Ready.Ready}
use Rattle.turns.specs.declared.readies.Ready.TheVariants as readies
use Rattle.hart_threads.specs.Bused.{AreCalls, AreSaved, CalledIf, FoundSo, HasCalls, HasEnded, HasFailed, IsCalled, Made, Makes, SavedBy, StepsBus, Takes, TurnsBus, WasTold, call_turn, held_call, part_of_hart, store_part}
use Rattle.hart_threads.specs.{LifeEnds.IsEndedAs, declared.bus_turns.{BusTurn.BusTurn, HeldCall.HeldCall}}
use Rattle.hart_threads.proofs.LifeEnding.{Answers, asked_ends, held_keeps}

-- ---- one turn more
pub more : (count who : ℕ) (x : BusTurn) (l : Log BusTurn) (ds : List (PartView BusTurn)) (v : BookView BusTurn) (m n left : Bus) → Made l m n → x.found ≡ n → x.left ≡ left
    → v ≡ keeper_view count ((who, x) ∷ l) ds → Made v.log m left
more count who x l ds v m n left made found is view =
    subst (λ (w : BookView BusTurn). Made w.log m left) (sym view) (∥∥₁_map made (λ (row : Makes l m n). (sym is, subst (λ k. Makes l m k) (sym found) row)))

-- ---- a turn of a hart, with the bus for its step or without it
turned_by : (size : Size) (r : Ready) (s t : ArchState) (m n : List ℕ) (k k' : Known) (word : Turned) (d d' : PartView BusTurn) (Any Same : Type 0) → TurnAsOwn size r s m t n k k' word → StepsIf r (StepsBus d d' m n) (Any × Same) → (Same → d' ≡ d)
    → TurnsBus r d d' m n
turned_by size readies.Idle s t m n k k' word d d' Any Same turned took same = same took.1
turned_by size readies.Woke s t m n k k' word d d' Any Same turned took same = same took.1
turned_by size (readies.Enters a o) s t m n k k' word d d' Any Same turned took same = same took.1
turned_by size (readies.Steps pending) s t m n k k' word d d' Any Same turned took same = took

pub turned_bus : (size : Size) (s t : ArchState) (m n : List ℕ) (k k' : Known) (word : Turned) (d d' : PartView BusTurn) (Any Same : Type 0) (own : TurnOwn size s m t n k k' word) → StepsIf own.0 (StepsBus d d' m n) (Any × Same) → (Same → d' ≡ d)
    → TurnsBus own.0 d d' m n
turned_bus size s t m n k k' word d d' Any Same own took same = turned_by size own.0 s t m n own.1 k' word d d' Any Same own.3 took same

-- ---- a durable call
stays_if : (dozes : Bool) (bus bus' : Bus) → bus' ≡ bus → CalledIf dozes bus bus'
stays_if true bus bus' e = ap (λ (b : Bus). b.ram) e
stays_if false bus bus' e = e

stays_called : (word : Word) (bus bus' : Bus) → bus' ≡ bus → IsCalled word bus bus'
stays_called (Goes did) bus bus' e = stays_if (is_doze did) bus bus' e
stays_called (Over end) bus bus' e = e

module _ {D L : Type 0} {g : Ghosts D L} {l : Lanes L} where
  fallen_called : (sleep : Sleep) (by site opaque : ℕ) (vs vs' : List HartView) (bus bus' : Bus) (fell : Result Sleep SbiError) (s t : ArchState) (old new : Store D L g l) (word : Word)
      → FallsAsleep sleep by site opaque vs bus old fell vs' bus' new → EndsSleep fell s t word → IsCalled word bus bus'
  fallen_called ToRam by site opaque vs vs' bus bus' fell s t old new word p ends =
      let told = subst (λ (x : Result Sleep SbiError). EndsSleep x s t word) p.0.0 ends in
      subst (λ (w : Word). IsCalled w bus bus') (sym told.1) (ap (λ (b : Bus). b.ram) p.0.1)
  fallen_called ToDisk by site opaque vs vs' bus bus' fell s t old new word p ends = stays_called word bus bus' p.3

  slept_called : (harts by : ℕ) (asked : Result (Sleep × ℕ) SbiError) (opaque : ℕ) (vs vs' : List HartView) (bus bus' : Bus) (fell : Result Sleep SbiError) (s t : ArchState) (old new : Store D L g l) (word : Word)
      → SleepsAt harts by asked opaque vs bus old fell vs' bus' new → EndsSleep fell s t word → IsCalled word bus bus'
  slept_called harts by (Err e) opaque vs vs' bus bus' fell s t old new word p ends = stays_called word bus bus' p.2
  slept_called harts by (Ok asked) opaque vs vs' bus bus' fell s t old new word p ends =
      ⊎_elim (λ denied. stays_called word bus bus' denied.3) (λ fallen. fallen_called asked.0 by asked.1 opaque p.1 vs' bus bus' fell s t old new word fallen.1 ends) p.3

  pub held_called : (harts : ℕ) (call : Call) (s t : ArchState) (k k' : Known) (bus bus' : Bus) (old new : Store D L g l) (word : Word) → MakesHeld harts call s t k k' bus bus' old new word → IsCalled word bus bus'
  held_called harts (calls.SystemReset kind cause) s t k k' bus bus' old new word p = stays_called word bus bus' p.2
  held_called harts (calls.SystemSuspend kind address opaque) s t k k' bus bus' old new word p =
      slept_called harts s.id p.1.asked opaque k.harts k'.harts bus bus' p.0 s t old new word p.1.slept p.3
  held_called harts call s t k k' bus bus' old new word p = stays_called word bus bus' p.3

-- ---- the durable calls
-- one turn more, which is none
pub calls_more : (count who : ℕ) (x : BusTurn) (l : Log BusTurn) (ds : List (PartView BusTurn)) (v : BookView BusTurn) → HasCalls l → x.call ≡ None → v ≡ keeper_view count ((who, x) ∷ l) ds → HasCalls v.log
calls_more count who x l ds v calls none view =
    subst (λ (w : BookView BusTurn). HasCalls w.log) (sym view) (∥∥₁_map calls (λ (all : AreCalls None l).
    let more : AreCalls None ((who, x) ∷ l) = subst (λ (o : Option HeldCall). IfSome o (λ call. who ≡ store_part) × AreCalls o l) (sym none) (tt, all) in
    more))

-- one call more: the turn of its hart, and the look for it
pub call_more : (count : ℕ) (size : Size) (call : HeldCall) (found left : Bus) (l : Log BusTurn) (ds : List (PartView BusTurn)) (v : BookView BusTurn) (life : Life) (caller store : PartView BusTurn) → HasCalls l → AreSaved size life store → caller.who ≡ part_of_hart call.asked.id
    → v ≡ keeper_view count ((store.who, call_turn call left left) ∷ (caller.who, call_turn call found left) ∷ l) ds → HasCalls v.log
call_more count size call found left l ds v life caller store calls saved is view =
    subst (λ (w : BookView BusTurn). HasCalls w.log) (sym view) (∥∥₁_map₂ calls saved (λ (all : AreCalls None l) (by : SavedBy size life store).
    let more : AreCalls None ((store.who, call_turn call left left) ∷ (caller.who, call_turn call found left) ∷ l) = (by.0, (is, refl, all)) in
    more))

-- ---- what the store's part was told
pub ended_more : (P P' Q Q' : Change → Type 0) (life : Life) → ((c : Change) → P c → P' c) → ((c : Change) → Q c → Q' c) → IsEndedAs P Q life → IsEndedAs P' Q' life
ended_more P P' Q Q' life on up is = record { journal = λ k c e ends. on c (is.journal k c e ends); doubt = λ c e ends. up c (is.doubt c e ends) }

told_more : (Answered : LifeEnd → HeldCall → Type 0) (size : Size) (told : List (ℕ × BusTurn)) (t : ℕ × BusTurn) (c : Change) → WasTold Answered size told c → WasTold Answered size (t ∷ told) c
told_more Answered size told t c was = ∥∥₁_map was (λ (so : FoundSo Answered size told c). let more : FoundSo Answered size (t ∷ told) c = inr so in more)

module _ {D L : Type 0} {g : Ghosts D L} {l : Lanes L} where
  -- once a command was asked for after which the life goes on
  pub saved_still : (size : Size) (d : PartView BusTurn) (old new : Store D L g l) (c : Change) (r : Result ℕ Refusal) → ends_life c ≡ false → AreSaved size (life_of old) d → Asked Applied old c r new → AreSaved size (life_of new) d
  saved_still size d old new c r goes saved asked =
      ∥∥₁_map saved (λ (by : SavedBy size (life_of old) d). let still : SavedBy size (life_of new) d = (by.0, by.1, asked_ends (WasTold HasEnded size d.told) (WasTold HasFailed size d.told) old new c r goes by.2 asked) in still)

  -- once a durable call was made, directly after which it looked
  pub saved_held : (harts : ℕ) (size : Size) (s t : ArchState) (k k' : Known) (bus bus' : Bus) (old new : Store D L g l) (word : Word) (d d' : PartView BusTurn)
      → size_of_store old ≡ size → Takes (call_turn (held_call s t word) bus' bus') d d' → AreSaved size (life_of old) d → bus'.ram ≡ bus.ram → MakesHeld harts (call_of s) s t k k' bus bus' old new word → AreSaved size (life_of new) d'
  saved_held harts size s t k k' bus bus' old new word d d' board takes saved same made =
      let turn = call_turn (held_call s t word) bus' bus' in
      let told = (takes.0, turn) ∷ d.told in
      let Ended : Change → Type 0 = WasTold HasEnded size told in
      let Failing : Change → Type 0 = WasTold HasFailed size told in
      let call = held_call s t word in
      let so : Answers Ended Failing size s t bus.ram word (call_of s) = record {
        reset = λ type cause asks is. ∣ inl (call, refl, (type, asks, is)) ∣₁;
        refused = λ type cause asks is. ∣ inl (call, refl, (type, asks, is)) ∣₁;
        slept = λ site opaque asks is. ∣ inl (call, refl, (refl, asks, is, sym same)) ∣₁;
        failed = λ site opaque asks is. ∣ inl (call, refl, (refl, asks, is, sym same)) ∣₁;
      } in
      subst (AreSaved size (life_of new)) (sym takes.1) (∥∥₁_map saved (λ (by : SavedBy size (life_of old) d).
      let was = ended_more (WasTold HasEnded size d.told) Ended (WasTold HasFailed size d.told) Failing (life_of old) (told_more HasEnded size d.told (takes.0, turn)) (told_more HasFailed size d.told (takes.0, turn)) by.2 in
      let kept = held_keeps Ended Failing harts size (call_of s) s t k k' bus bus' old new word board was so made in
      let still : SavedBy size (life_of new) (told_after takes.0 turn d) = (by.0, (refl, by.1), kept.ended) in
      still))
