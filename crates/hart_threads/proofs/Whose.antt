-- A hart's part of the history of the bus stays that hart's.
use Rattle.std.proofs.Common.{◌≡◌, ◌∙◌, ℕ, zero, suc, Bool, List, Option, Some, None, sym, ap}
use Rattle.board_model.specs.{Shapes.Size, declared.durable.Entry.Entry}
use Rattle.hart.specs.State.{ArchState}
use Rattle.machine.specs.Machine.{Machine}
use Rattle.sbi.specs.declared.words.Word.{Word}
use Rattle.sbi_calls.specs.{Both.Known, declared.words.Turned.{Turned, TheVariants.{Made, Durable}}}
use Rattle.susp.specs.declared.buses.Doze.{Doze}
use Rattle.tallies.specs.declared.book_views.PartView.{PartView}
use Rattle.turns.specs.declared.readies.Ready.{Ready}
use Rattle.turns.specs.declared.readies.Ready.TheVariants as readies
use Rattle.hart_threads.specs.{Bused.{Takes, TurnsBus, bus_turn, call_turn, held_call, part_of_hart}, declared.bus_turns.BusTurn.BusTurn}
use Rattle.hart_threads.specs.{Ends.{IsOfHart, AnyAnswer, AnyWord, own_receipt}, declared.{ends.HartEnd.HartEnd, loops.Why.Why}}
use Rattle.hart_threads.specs.Threads.{Seated, ComesOnce, LoopOnce, OwnOnce, TurnOnce, TurnOnceBy, TurnsOn}
use Rattle.hart_threads.specs.declared.loops.Why.TheVariants as whys

takes_whose : (turn : BusTurn) (d d' : PartView BusTurn) → Takes turn d d' → d'.who ≡ d.who
takes_whose turn d d' takes = ap (λ (p : PartView BusTurn). p.who) takes.1

same_whose : (d d' : PartView BusTurn) → d' ≡ d → d'.who ≡ d.who
same_whose d d' same = ap (λ (p : PartView BusTurn). p.who) same

-- ---- one turn
pub steps_whose : (ready : Ready) (d d' : PartView BusTurn) (found left : List ℕ) → TurnsBus ready d d' found left → d'.who ≡ d.who
steps_whose readies.Idle d d' found left p = same_whose d d' p
steps_whose readies.Woke d d' found left p = same_whose d d' p
steps_whose (readies.Enters a o) d d' found left p = same_whose d d' p
steps_whose (readies.Steps pending) d d' found left p = takes_whose (bus_turn p.0 p.1) d d' p.2

comes_whose : (size : Size) (did : Turned) (a b : Seated) (word : Word) (told : Option (ℕ × Entry)) → ComesOnce size did a b word told → b.took.who ≡ a.took.who
comes_whose size (Made did) a b word told p = ap (λ (x : Seated). x.took.who) p.0
comes_whose size Durable a b word told p = takes_whose (call_turn (held_call a.hart b.hart word) p.3.0 p.3.1) a.took b.took p.3.2

own_whose : (size : Size) (a b : Seated) (word : Word) (told : Option (ℕ × Entry)) → OwnOnce size a b word told → b.took.who ≡ a.took.who
own_whose size a b word told p = comes_whose size p.2 p.3 b word told p.5 ∙ steps_whose p.4.0 a.took p.3.took p.0 p.1 p.7

turned_whose : (doze : Option Doze) (size : Size) (a b : Seated) (word : Word) (told : Option (ℕ × Entry)) → TurnOnceBy doze size a b word told → b.took.who ≡ a.took.who
turned_whose None size a b word told p = own_whose size a b word told p
turned_whose (Some d) size a b word told p = takes_whose (bus_turn p.0.0 p.0.1) a.took b.took p.0.2

pub turn_whose : (size : Size) (a b : Seated) (word : Word) (told : Option (ℕ × Entry)) → TurnOnce size a b word told → b.took.who ≡ a.took.who
turn_whose size a b word told p = turned_whose a.doze size a b word told p

-- ---- a loop
module _ (size : Size) (answers : ℕ → Bool → Type 0) (hears : ℕ → Type 0) where
  turns_whose : (n : ℕ) (a b : Seated) → TurnsOn size answers hears n a b → b.took.who ≡ a.took.who
  turns_whose zero a b p = ap (λ (x : Seated). x.took.who) p
  turns_whose (suc n) a b p = turn_whose size p.0 b p.1 None p.3 ∙ turns_whose n a p.0 p.2

  loop_whose : (turns made : ℕ) (a b : Seated) (why : Why) (told : Option (ℕ × Entry)) → LoopOnce size answers hears turns made a b why told → b.took.who ≡ a.took.who
  loop_whose turns made a b whys.Life told p = turn_whose size p.1 b p.2 told p.5 ∙ turns_whose p.0 a p.1 p.4
  loop_whose turns made a b whys.Closed told p = turns_whose made a b p.0
  loop_whose turns made a b whys.Gate told p = turns_whose made a b p.0
  loop_whose turns made a b whys.Turns told p = turns_whose made a b p.0

-- of a hart that its end is told of
pub hart_whose : (m : Machine) (turns : ℕ) (took : PartView BusTurn) (later : Known) (e : HartEnd) → IsOfHart m turns took later e → took.who ≡ part_of_hart e.hart.id
hart_whose m turns took later e p =
    let gone = p.1 in
    sym (ap (λ (d : PartView BusTurn). d.who) p.2)
    ∙ loop_whose m.size AnyAnswer AnyWord turns e.made gone.0 p.0 e.why (own_receipt e) gone.2
    ∙ ap (λ (d : PartView BusTurn). d.who) gone.1.took
    ∙ ap (λ (s : ArchState). part_of_hart s.id) (sym p.4)
