-- Turns one after another.
use Rattle.std.proofs.Common.{◌≡◌, ◌+◌, ℕ, zero, suc, Bool, Option, Some, None, ap, true, false, arith, refl, sym, ◌∙◌, subst, inl, inr}
use Rattle.atomic_table.specs.Seated.{TableId}
use Rattle.board_model.specs.{Shapes.Size, declared.durable.Entry.Entry}
use Rattle.sbi_abi.specs.{declared.call.Call.Call, Calls.call_of}
use Rattle.hart_threads.specs.{Called.IsToldBy, Noted.part_after, Begun.BeginsAs, Ends.{AnyAnswer, AnyWord, HasGone}, Bused.CallsBus}
use Rattle.hart_threads.specs.{declared.bus_turns.BusTurn.BusTurn, Seated.{AreNamed, AreSeatsIn, StandsAfterTurn, StandsAfter}}
use Rattle.hart_threads.specs.Threads.{Seated, seated, HeldOnce, IsDozeBy, ComesOnce, OwnOnce, LookOnce, TurnOnceBy, TurnOnce, TurnsOn, LoopOnce}
use Rattle.hart_threads.specs.declared.loops.Why.{Why}
use Rattle.tallies.specs.declared.book_views.PartView.{PartView}
use Rattle.sbi.specs.{Words.{life_goes_on, stage_told, word_of_sleep}, declared.words.Word.{Word, TheVariants.{Goes, Over}}}
use Rattle.sbi.specs.declared.words.LifeEnd.TheVariants as ends
use Rattle.sbi_calls.specs.{declared.tables.{Seats.Seats, Tables.Tables}, Both.{GivesBack, Acts, AreSeatsOfBoth, views, Known}}
use Rattle.sbi_calls.specs.declared.words.{Did.Did, Turned.{Turned, TheVariants.{Made, Durable}}}
use Rattle.hsm.specs.{Calls.Sits, States.IsBetweenCalls, declared.view.Stage.TheVariants.{Out, Running, Suspended, Quiet}}
use Rattle.susp.specs.declared.{buses.Doze.Doze, sleeps.Sleep.{Sleep, TheVariants.{ToRam, ToDisk}}}
use Rattle.machine.specs.{Held.RestsBy, Machine.Machine}
use Rattle.hart.specs.State.{ArchState}
use Rattle.hart_threads.specs.declared.loops.Why.TheVariants as whys

-- ---- nothing was done yet
pub gives_none : (t : Tables) (by : ℕ) (s : Seats) → AreSeatsOfBoth t s → GivesBack t by s s
gives_none t by s are = record {
  seats = are;
  others = record { harts = refl; stages = λ k st ne x. x };
  pairs = record { harts = refl; each = λ h. refl };
}

-- seats of tables are of those of their names
pub seats_named : {starts raises : TableId} (t : Tables) (s : Seats) → AreNamed starts raises t → AreSeatsOfBoth t s → AreSeatsIn starts raises s
seats_named t s named are = ((are.0.0 ∙ named.0, are.0.1), (are.1.0 ∙ named.1, are.1.1))

-- ---- where the hart stands
-- after a durable call of which that is said
abbrev pub StandsTold : Size → Call → ℕ → Seats → Option Doze → Word → Type 0
StandsTold size call by s doze word = IsDozeBy size call by word doze → Acts by (stage_told word) s → StandsAfterTurn word doze by s

stands_asleep : (size : Size) (call : Call) (by : ℕ) (s : Seats) (doze : Option Doze) (sleep : Sleep) → StandsTold size call by s doze (word_of_sleep sleep)
stands_asleep size call by s doze ToRam = λ is a. subst (λ (o : Option Doze). RestsBy o by s) (sym is.3) a
stands_asleep size call by s doze ToDisk = λ is a. a

pub stands_told : (size : Size) (call : Call) (by : ℕ) (u t : ArchState) (k k' : Known) (s : Seats) (doze : Option Doze) (word : Word) → HeldOnce size call u t k k' word → StandsTold size call by s doze word
stands_told size call by u t k k' s doze word (inl p) =
    subst (λ (w : Word). StandsTold size call by s doze w) (sym p.1) (λ is a. subst (λ (o : Option Doze). RestsBy o by s) (sym is) (inr (inl a.0), a.1))
stands_told size call by u t k k' s doze word (inr (inl p)) = subst (λ (w : Word). StandsTold size call by s doze w) (sym p.2) (stands_asleep size call by s doze p.0)
stands_told size call by u t k k' s doze word (inr (inr p)) = subst (λ (w : Word). StandsTold size call by s doze w) (sym p.3) (λ is a. a)

-- at rest or in its doze, where the life goes on
pub rests_on : (by : ℕ) (s : Seats) (word : Word) (doze : Option Doze) → life_goes_on word ≡ true → StandsAfterTurn word doze by s → RestsBy doze by s
rests_on by s (Goes did) doze e stands = stands
rests_on by s (Over end) doze e stands = let n : ⊥ = cc in absurd n

-- and else after the life's end
pub stands_over : (by : ℕ) (s : Seats) (word : Word) (doze : Option Doze) → life_goes_on word ≡ false → StandsAfterTurn word doze by s → StandsAfter whys.Life doze by s
stands_over by s (Goes did) doze e stands = let n : ⊥ = cc in absurd n
stands_over by s (Over ends.Asleep) doze e stands = inr stands
stands_over by s (Over (ends.Reset kind)) doze e stands = inl stands

-- at some stage, whatever ended its loop
rests_sits : (by : ℕ) (s : Seats) (doze : Option Doze) → RestsBy doze by s → Sits by (views s)
rests_sits by s None (inl a, b) = (Out, a)
rests_sits by s None (inr (inl a), b) = (Running, a)
rests_sits by s None (inr (inr a), b) = (Suspended, a)
rests_sits by s (Some d) (a, b) = (Quiet, a)

pub sits_after : (by : ℕ) (s : Seats) (why : Why) (doze : Option Doze) → StandsAfter why doze by s → Sits by (views s)
sits_after by s whys.Life doze (inl a) = (Running, a.0)
sits_after by s whys.Life doze (inr a) = (Quiet, a.0)
sits_after by s whys.Closed doze a = rests_sits by s doze a
sits_after by s whys.Gate doze a = rests_sits by s doze a
sits_after by s whys.Turns doze a = rests_sits by s doze a

-- in no start of its own
rests_between : (by : ℕ) (s : Seats) (doze : Option Doze) → RestsBy doze by s → IsBetweenCalls by (views s)
rests_between by s None (inl a, b) = inl a
rests_between by s None (inr (inl a), b) = inr (inl a)
rests_between by s None (inr (inr a), b) = inr (inr (inl a))
rests_between by s (Some d) (a, b) = inr (inr (inr a))

pub between_after : (by : ℕ) (s : Seats) (why : Why) (doze : Option Doze) → StandsAfter why doze by s → IsBetweenCalls by (views s)
between_after by s whys.Life doze (inl a) = inr (inl a.0)
between_after by s whys.Life doze (inr a) = inr (inr (inr a.0))
between_after by s whys.Closed doze a = rests_between by s doze a
between_after by s whys.Gate doze a = rests_between by s doze a
between_after by s whys.Turns doze a = rests_between by s doze a

-- ---- one turn
-- of a hart that does not doze
pub undozed : (size : Size) (s : ArchState) (k : Known) (doze : Option Doze) (took : PartView BusTurn) (b : Seated) (word : Word) (told : Option (ℕ × Entry)) → doze ≡ None → OwnOnce size (seated s k None took) b word told → TurnOnce size (seated s k doze took) b word told
undozed size s k doze took b word told none own = subst (λ (o : Option Doze). TurnOnce size (seated s k o took) b word told) (sym none) own

-- of one that dozes
pub dozed : (size : Size) (s : ArchState) (k : Known) (doze : Option Doze) (d : Doze) (took : PartView BusTurn) (b : Seated) (word : Word) (told : Option (ℕ × Entry)) → doze ≡ Some d → LookOnce d (seated s k (Some d) took) b word → told ≡ None → TurnOnce size (seated s k doze took) b word told
dozed size s k doze d took b word told is once none = subst (λ (o : Option Doze). TurnOnce size (seated s k o took) b word told) (sym is) (once, none)

-- ---- what comes of what a hart did
-- that asked for no durable call
pub made_comes : (size : Size) (a : Seated) (turned : Turned) (did : Did) → turned ≡ Made did → ComesOnce size turned a a (Goes did) None
made_comes size a turned did is = subst (λ (w : Turned). ComesOnce size w a a (Goes did) None) (sym is) (refl, refl, refl)

-- that asked for one
pub held_comes : (size : Size) (s t : ArchState) (k k' : Known) (doze after : Option Doze) (took took' : PartView BusTurn) (turned : Turned) (word : Word) (told : Option (ℕ × Entry)) → turned ≡ Durable
    → HeldOnce size (call_of s) s t k k' word → IsToldBy size (call_of s) s.id word told → IsDozeBy size (call_of s) s.id word after → CallsBus s t word after took took' → ComesOnce size turned (seated s k doze took) (seated t k' after took') word told
held_comes size s t k k' doze after took took' turned word told is once has dozes called =
    subst (λ (w : Turned). ComesOnce size w (seated s k doze took) (seated t k' after took') word told) (sym is) (once, has, dozes, called)

-- the receipt that a turn has, by whether the life goes on
held_none : (size : Size) (call : Call) (by : ℕ) (word : Word) (told : Option (ℕ × Entry)) → IsToldBy size call by word told → life_goes_on word ≡ true → told ≡ None
held_none size call by (Goes did) told is on = is
held_none size call by (Over end) told is on = let n : ⊥ = cc in absurd n

comes_none : (size : Size) (turned : Turned) (a b : Seated) (word : Word) (told : Option (ℕ × Entry)) → ComesOnce size turned a b word told → life_goes_on word ≡ true → told ≡ None
comes_none size (Made did) a b word told p on = p.2
comes_none size Durable a b word told p on = held_none size (call_of a.hart) a.hart.id word told p.1 on

none_by : (doze : Option Doze) (size : Size) (a b : Seated) (word : Word) (told : Option (ℕ × Entry)) → TurnOnceBy doze size a b word told → life_goes_on word ≡ true → told ≡ None
none_by None size a b word told p on = comes_none size p.2 p.3 b word told p.5 on
none_by (Some d) size a b word told p on = p.1

turn_none : (size : Size) (a b : Seated) (word : Word) (told : Option (ℕ × Entry)) → TurnOnce size a b word told → life_goes_on word ≡ true → told ≡ None
turn_none size a b word told p on = none_by a.doze size a b word told p on

-- ---- one turn more
pub one_more : (size : Size) (answers : ℕ → Bool → Type 0) (hears : ℕ → Type 0) (n : ℕ) (a mid b : Seated) (word : Word) (told : Option (ℕ × Entry)) → TurnsOn size answers hears n a mid → TurnOnce size mid b word told → life_goes_on word ≡ true
    → answers n true → hears n → TurnsOn size answers hears (n + 1) a b
one_more size answers hears n a mid b word told many once on said heard =
    let e : suc n ≡ n + 1 = omega arith in
    let none = turn_none size mid b word told once on in
    subst (λ (k : ℕ). TurnsOn size answers hears k a b) e (mid, word, many, subst (λ (o : Option (ℕ × Entry)). TurnOnce size mid b word o) none once, on, said, heard)

-- that ended the life
pub ended_life : (size : Size) (answers : ℕ → Bool → Type 0) (hears : ℕ → Type 0) (turns n : ℕ) (a mid b : Seated) (word : Word) (told : Option (ℕ × Entry)) → TurnsOn size answers hears n a mid → TurnOnce size mid b word told → life_goes_on word ≡ false
    → answers n true → hears n → LoopOnce size answers hears turns (n + 1) a b whys.Life told
ended_life size answers hears turns n a mid b word told many once off said heard = let e : n + 1 ≡ suc n = omega arith in (n, mid, word, e, many, once, off, said, heard)

-- ---- a part that a turn was told nothing for
pub kept_part : (size : Size) (a b : Seated) (word : Word) (told : Option (ℕ × Entry)) (first now next : PartView Entry) → TurnOnce size a b word told → life_goes_on word ≡ true → now ≡ first → next ≡ part_after told now → next ≡ first
kept_part size a b word told first now next once on same is =
    let none = turn_none size a b word told once on in
    is ∙ (ap (λ (o : Option (ℕ × Entry)). part_after o now) none ∙ same)

-- ---- what is left where nothing is said of the gate
turns_alone : (size : Size) (answers : ℕ → Bool → Type 0) (hears : ℕ → Type 0) (n : ℕ) (a b : Seated) → TurnsOn size answers hears n a b → TurnsOn size AnyAnswer AnyWord n a b
turns_alone size answers hears zero a b none = none
turns_alone size answers hears (suc n) a b (mid, word, many, once, on, said, heard) = (mid, word, turns_alone size answers hears n a mid many, once, on, tt, tt)

loop_alone : (size : Size) (answers : ℕ → Bool → Type 0) (hears : ℕ → Type 0) (turns made : ℕ) (a b : Seated) (why : Why) (told : Option (ℕ × Entry)) → LoopOnce size answers hears turns made a b why told → LoopOnce size AnyAnswer AnyWord turns made a b why told
loop_alone size answers hears turns made a b whys.Life told (n, mid, word, is, many, once, off, said, heard) = (n, mid, word, is, turns_alone size answers hears n a mid many, once, off, tt, tt)
loop_alone size answers hears turns made a b whys.Closed told (many, few, none) = (turns_alone size answers hears made a b many, few, none)
loop_alone size answers hears turns made a b whys.Gate told (many, few, none, said) = (turns_alone size answers hears made a b many, few, none, tt)
loop_alone size answers hears turns made a b whys.Turns told (many, all, none) = (turns_alone size answers hears made a b many, all, none)

-- a loop whose hart is as the boot left it
pub has_gone : (m : Machine) (size : Size) (answers : ℕ → Bool → Type 0) (hears : ℕ → Type 0) (turns given made h : ℕ) (a b : Seated) (why : Why) (told : Option (ℕ × Entry)) → m.size ≡ size → given ≡ turns → b.hart.id ≡ h → BeginsAs m h a
    → LoopOnce size answers hears given made a b why told → HasGone m turns made b why told
has_gone m size answers hears turns given made h a b why told sized is same begins once =
    let all = loop_alone size answers hears given made a b why told once in (
      a,
      subst (λ (k : ℕ). BeginsAs m k a) (sym same) begins,
      subst (λ (n : ℕ). LoopOnce m.size AnyAnswer AnyWord n made a b why told) is (subst (λ (z : Size). LoopOnce z AnyAnswer AnyWord given made a b why told) (sym sized) all),
    )
