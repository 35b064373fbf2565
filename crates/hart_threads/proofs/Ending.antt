-- How a loop ends, and what its end says of the hart as the loop left it.
use Rattle.std.proofs.Common.{◌≡◌, ◌∙◌, ℕ, ◌+◌, ◌<◌, ◌≤◌, Bool, true, false, List, [], ◌∷◌, ◌++◌, All, Option, Some, None, IsTrue, arith, refl, ap, sym, subst}
use Rattle.std.{specs.{Prelude.is_some, Option.option_to_list}, proofs.lemmas.List.Elements.All-push}
use Rattle.board_model.specs.{Shapes.Size, declared.durable.Entry.Entry}
use Rattle.hart.specs.State.{ArchState}
use Rattle.tallies.specs.declared.book_views.PartView.{PartView}
use Rattle.sbi.specs.{declared.words.{LifeEnd.LifeEnd, Word.{Word, TheVariants.{Goes, Over}}}, Words.life_goes_on}
use Rattle.sbi.specs.declared.words.LifeEnd.TheVariants as ends
use Rattle.sbi_abi.specs.{declared.call.Call.Call, Calls.call_of}
use Rattle.sbi_calls.specs.declared.words.Turned.{Turned, TheVariants.{Made, Durable}}
use Rattle.hart_threads.specs.{Called.{AsksFor, IsToldBy}, Noted.part_after, Dozes.is_woken, declared.loops.Why.Why}
use Rattle.hart_threads.specs.Threads.{Seated, ComesOnce, DozeOnce, TurnOnceBy, TurnOnce, LoopOnce, is_end, ends_life}
use Rattle.susp.specs.declared.buses.Doze.{Doze}

-- ---- how often it asked
pub as_often : (n m : ℕ) → m ≡ n → n ≤ m
as_often n m e = omega (arith, e)

pub once_more : (n m k : ℕ) → k ≡ m + 1 → m ≡ n → n + 1 ≤ k
once_more n m k e f = omega (arith, e, f)

pub asked_before : (n m k : ℕ) → k ≡ m + 1 → m ≡ n → n ≤ k
asked_before n m k e f = omega (arith, e, f)

pub few_asked : (asked made turns : ℕ) → asked ≡ made → made < turns → turns < 18446744073709551616 → asked < 18446744073709551615
few_asked asked made turns few within range = omega (arith, few, within, range)

-- ---- what holds of what the hart has holds of what its end says that it has
pub as_it_was : {L : Type 0} {l l' : L} → l' ≡ l → (P : L → Type 0) → P l → P l'
as_it_was {L} {l} {l'} e P p = subst P (sym e) p

pub as_both_were : {L W : Type 0} {l l' : L} {w w' : W} → l' ≡ l → w' ≡ w → (P : L → W → Type 0) → P l w → P l' w'
as_both_were {L} {W} {l} {l'} {w} {w'} e f P p = subst (λ (x : L). P x w') (sym e) (subst (λ (y : W). P l y) (sym f) p)

pub seated_as : {L : Type 0} {l l' : L} {s s' : ArchState} → s' ≡ s → l' ≡ l → (view : ArchState → L → Seated) → view s' l' ≡ view s l
seated_as {L} {l} {l'} {s} {s'} e f view = ap (λ (x : ArchState). view x l') e ∙ ap (λ (y : L). view s y) f

pub said_so : (size : Size) (answers : ℕ → Bool → Type 0) (hears : ℕ → Type 0) (turns made made' : ℕ) (a b b' : Seated) (why why' : Why) (told told' : Option (ℕ × Entry)) → b' ≡ b → made' ≡ made → why' ≡ why → told' ≡ told
    → LoopOnce size answers hears turns made a b why told → LoopOnce size answers hears turns made' a b' why' told'
said_so size answers hears turns made made' a b b' why why' told told' at many as_why as_told once =
    subst (λ (o : Option (ℕ × Entry)). LoopOnce size answers hears turns made' a b' why' o) (sym as_told)
    (subst (λ (y : Why). LoopOnce size answers hears turns made' a b' y told) (sym as_why)
    (subst (λ (n : ℕ). LoopOnce size answers hears turns n a b' why told) (sym many)
    (subst (λ (x : Seated). LoopOnce size answers hears turns made a x why told) (sym at) once)))

-- ---- the turn that ended the life told a receipt, of a command that ends one
pub asks_end : (size : Size) (call : Call) (by : ℕ) (end : LifeEnd) (entry : Entry) → AsksFor size call by end entry → is_end entry ≡ true
asks_end size call by (ends.Reset type) entry (cause, asks, is) = subst (λ (e : Entry). is_end e ≡ true) (sym is) refl
asks_end size call by ends.Asleep entry (site, opaque, asks, is) = subst (λ (e : Entry). is_end e ≡ true) (sym is) refl

abbrev pub HasEnd : Option (ℕ × Entry) → Type 0
HasEnd told = IsTrue (is_some told) × (ends_life told ≡ true)

goes_not : {X : Type 0} (word : Word) → life_goes_on word ≡ true → life_goes_on word ≡ false → X
goes_not {X} word on off = let n : ⊥ = cc in absurd n

held_told : (size : Size) (call : Call) (by : ℕ) (word : Word) (told : Option (ℕ × Entry)) → IsToldBy size call by word told → life_goes_on word ≡ false → HasEnd told
held_told size call by (Goes did) told is off = goes_not (Goes did) refl off
held_told size call by (Over end) told (t, is, asks) off = subst HasEnd (sym is) (refl, asks_end size call by end t.1 asks)

comes_told : (size : Size) (turned : Turned) (a b : Seated) (word : Word) (told : Option (ℕ × Entry)) → ComesOnce size turned a b word told → life_goes_on word ≡ false → HasEnd told
comes_told size (Made did) a b word told p off = goes_not word (ap life_goes_on p.1) off
comes_told size Durable a b word told p off = held_told size (call_of a.hart) a.hart.id word told p.1 off

-- a look goes on
look_goes : (woken : Bool) (d : Doze) (a b : Seated) (word : Word) → DozeOnce woken d a b word → life_goes_on word ≡ true
look_goes false d a b word p = ap life_goes_on p.1
look_goes true d a b word p = ap life_goes_on p.3

told_by : (doze : Option Doze) (size : Size) (a b : Seated) (word : Word) (told : Option (ℕ × Entry)) → TurnOnceBy doze size a b word told → life_goes_on word ≡ false → HasEnd told
told_by None size a b word told p off = comes_told size p.2 p.3 b word told p.5 off
told_by (Some d) size a b word told p off = goes_not word (look_goes (is_woken a.hart.id p.0.0.doze) d a b word p.0.4) off

pub turn_told : (size : Size) (a b : Seated) (word : Word) (told : Option (ℕ × Entry)) → TurnOnce size a b word told → life_goes_on word ≡ false → HasEnd told
turn_told size a b word told p off = told_by a.doze size a b word told p off

-- what a part was told that was told nothing before
pub none_noted : (first now : PartView Entry) → now ≡ first → first.told ≡ [] → now.told ≡ []
none_noted first now same none = ap (λ (p : PartView Entry). p.told) same ∙ none

pub one_noted : (told : Option (ℕ × Entry)) (first now next : PartView Entry) → next ≡ part_after told now → now ≡ first → first.told ≡ [] → next.told ≡ option_to_list told
one_noted None first now next is same none = ap (λ (p : PartView Entry). p.told) is ∙ none_noted first now same none
one_noted (Some t) first now next is same none = ap (λ (p : PartView Entry). p.told) is ∙ ap (λ (l : List (ℕ × Entry)). t ∷ l) (none_noted first now same none)

-- what holds of each that was there and of the one that is put at the end holds of all
pub all_pushed : {W : Type 0} (P : W → Type 0) (before now : List W) (x : W) → now ≡ before ++ x ∷ [] → All P before → P x → All P now
all_pushed {W} P before now x is each here = subst (λ (l : List W). All P l) (sym is) (All-push P before x each here)

-- ---- as many loops as harts, or as many parts
pub all_run : (done works all harts a h : ℕ) → done ≡ works → works ≡ all → a ≡ h → all ≡ a → harts ≡ h → done ≡ harts
all_run done works all harts a h e f g i j = e ∙ (f ∙ (i ∙ (g ∙ sym j)))

pub all_back : (done left harts : ℕ) → done ≡ harts → left ≡ 0 → done + left ≡ harts
all_back done left harts e f = omega (arith, e, f)

pub parts_back : (loops left parts harts l p : ℕ) → loops ≡ 0 → l ≡ p → left ≡ l → parts ≡ p → parts ≡ harts → loops + left ≡ harts
parts_back loops left parts harts l p e f g h i = omega (arith, e, f, g, h, i)

-- ---- one more of the works is begun
pub one_begun : (begun rest all begun' rest' : ℕ) → begun + rest ≡ all → begun' ≡ begun + 1 → rest' + 1 ≡ rest → begun' + rest' ≡ all
one_begun begun rest all begun' rest' e f g = omega (arith, e, f, g)

pub one_given : (parts rest parts' rest' : ℕ) → parts ≡ rest → parts' + 1 ≡ parts → rest' + 1 ≡ rest → parts' ≡ rest'
one_given parts rest parts' rest' e f g = omega (arith, e, f, g)

-- its thread was started, or it ended before its first turn
pub one_started : (handles given rest room handles' rest' room' : ℕ) → handles + given + rest ≡ room → handles' ≡ handles + 1 → rest' + 1 ≡ rest → room' ≡ room → handles' + given + rest' ≡ room'
one_started handles given rest room handles' rest' room' e f g h = omega (arith, e, f, g, h)

pub one_refused : (handles given rest room given' rest' : ℕ) → handles + given + rest ≡ room → given' ≡ given + 1 → rest' + 1 ≡ rest → handles + given' + rest' ≡ room
one_refused handles given rest room given' rest' e f g = omega (arith, e, f, g)

pub one_left : (parts rest rest' : ℕ) → parts ≡ rest → rest' + 1 ≡ rest → 0 < parts
one_left parts rest rest' e f = omega (arith, e, f)

pub has_room : (begun rest all room rest' : ℕ) → begun + rest ≡ all → room ≡ all → rest' + 1 ≡ rest → begun < room
has_room begun rest all room rest' e f g = omega (arith, e, f, g)

pub all_begun : (begun rest all : ℕ) → begun + rest ≡ all → rest ≡ 0 → begun ≡ all
all_begun begun rest all e f = omega (arith, e, f)

pub same_number : (n m k : ℕ) → n ≡ m → m ≡ k → n ≡ k
same_number n m k e f = e ∙ f
