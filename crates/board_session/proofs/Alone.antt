-- A suspension to disk found every other hart STOPPED: what the log of the hart table has of the hart that asked for it.
use Rattle.std.proofs.Common.{◌≡◌, ◌∙◌, ◌⊎◌, ◌<◌, ◌+◌, ◌==◌, ℕ, zero, suc, Bool, true, false, List, [], ◌∷◌, ◌++◌, All, Option, Some, None, length, drop, if◌then◌else◌, inl, inr, arith, refl, sym, ap, subst}
use Rattle.std.{specs.Prelude.{IfSome, slice_get}, proofs.lemmas.{Bool.Decides.nat_tests, List.Elements.{All-head, All-tail}}}
use Rattle.std.proofs.Math.Logic.{∥∥₁_elim, ∥∥₁_map, ∥∥₁_prop}
use Rattle.board_model.specs.{Durable.{Change, Suspend}, Shapes.Size, declared.durable.Entry.Entry}
use Rattle.hsm.specs.{Words.HartView, declared.view.{Action.{Action, TheVariants.{Looked, Quieted}}, Stage.Stage}, Calls.stage_of}
use Rattle.hsm.specs.Outcomes.{after_quiet}
use Rattle.hart.specs.State.{ArchState}
use Rattle.ipi.specs.declared.view.IpiAction.{IpiAction}
use Rattle.machine.specs.Machine.{Machine}
use Rattle.sbi.specs.{Words.life_goes_on, declared.words.{LifeEnd.TheVariants.Asleep, Word.{Word, TheVariants.Over}}}
use Rattle.sbi_abi.specs.{Calls.call_of, declared.call.Call.Call}
use Rattle.sbi_calls.specs.declared.words.Turned.{Turned, TheVariants.{Made, Durable}}
use Rattle.susp.specs.{Sleeps.AreUnclaimed, declared.buses.{Bus.Bus, Doze.Doze}}
use Rattle.tallies.specs.{Books.{Each, told_by}, Logs.{Log, actions_in, log_places}, Notes.{HasNoted, hart_notes, noted}}
use Rattle.tallies.specs.declared.book_views.PartView.{PartView}
use Rattle.turns.specs.{Own.StepsIf, declared.readies.Ready.Ready}
use Rattle.turns.specs.declared.readies.Ready.TheVariants as readies
use Rattle.hart_threads.specs.Bused.{HasEnded, IsMoment, StepsBus, TakesBus, begun_bus, call_turn, held_call, part_of_hart, store_part}
use Rattle.hart_threads.specs.{Dozes.is_woken, LifeEnds.{AllEndAs, EndsAs}, declared.bus_turns.{BusTurn.BusTurn, HeldCall.HeldCall}}
use Rattle.hart_threads.specs.{Ends.{AnyAnswer, AnyWord, AreNumberedFrom, IsEnding, IsOfHart, own_receipt}, declared.ends.HartEnd.HartEnd}
use Rattle.hart_threads.specs.{Threads.{ComesOnce, DozeOnce, HeldOnce, LoopOnce, Seated, TurnOnceBy, TurnsOn}, declared.loops.Why.Why}
use Rattle.hart_threads.specs.declared.loops.Why.TheVariants as whys
use Rattle.board_session.specs.Histories.{AreDriven, FoundAlone, IsHistory, SleptAlone, harts_after, known_by, noted_by, took_by}
use Rattle.board_session.specs.declared.talks.Left.{Left}

-- ---- the calls of a hart's turns
-- after that turn the life went on
abbrev GoesOn : ℕ × BusTurn → Type 0
GoesOn t = IfSome t.1.call (λ (call : HeldCall). life_goes_on call.word ≡ true)

-- with its call the board fell asleep
abbrev Sleeps : BusTurn → Type 0
Sleeps t = (call : HeldCall) × (t.call ≡ Some call) × (call.word ≡ Over Asleep)

abbrev Slept : List (ℕ × BusTurn) → Type 0
Slept [] = ⊥
Slept (t ∷ ts) = Sleeps t.1 ⊎ Slept ts

no_sleep : (ts : List (ℕ × BusTurn)) → Each GoesOn ts → Slept ts → ⊥
no_sleep [] all is = is
no_sleep (t ∷ ts) all (inl s) =
    let on : life_goes_on s.0.word ≡ true = subst (λ (o : Option HeldCall). IfSome o (λ (call : HeldCall). life_goes_on call.word ≡ true)) s.1 all.0 in
    let wrong : false ≡ true = subst (λ (w : Word). life_goes_on w ≡ true) s.2 on in
    let no : ⊥ = cc in no
no_sleep (t ∷ ts) all (inr more) = no_sleep ts all.1 more

-- a turn more that has no call
quiet_more : (found left : Bus) (d d' : PartView BusTurn) → TakesBus found left d d' → Each GoesOn d.told → Each GoesOn d'.told
quiet_more found left d d' is all = subst (λ (x : PartView BusTurn). Each GoesOn x.told) (sym is.1) (tt, all)

step_more : (ready : Ready) (d d' : PartView BusTurn) (found left : List ℕ) → StepsIf ready (StepsBus d d' found left) (d' ≡ d) → Each GoesOn d.told → Each GoesOn d'.told
step_more (readies.Steps pending) d d' found left is all = quiet_more is.0 is.1 d d' is.2 all
step_more readies.Idle d d' found left is all = subst (λ (x : PartView BusTurn). Each GoesOn x.told) (sym is) all
step_more readies.Woke d d' found left is all = subst (λ (x : PartView BusTurn). Each GoesOn x.told) (sym is) all
step_more (readies.Enters a o) d d' found left is all = subst (λ (x : PartView BusTurn). Each GoesOn x.told) (sym is) all

asleep_now : (call : HeldCall) (found left : Bus) → Sleeps (call_turn call found left) → call.word ≡ Over Asleep
asleep_now call found left s = subst (λ (o : Option HeldCall). IfSome o (λ (c : HeldCall). c.word ≡ Over Asleep)) (sym s.1) s.2

told_last : (call : HeldCall) (n : ℕ) (found left : Bus) (ts : List (ℕ × BusTurn)) → Each GoesOn ts → Slept ((n, call_turn call found left) ∷ ts) → call.word ≡ Over Asleep
told_last call n found left ts all (inl s) = asleep_now call found left s
told_last call n found left ts all (inr more) = absurd (no_sleep ts all more)

-- that hart's last step asked whether every other hart was STOPPED, and found so
abbrev WentAlone : ℕ → Seated → Type 0
WentAlone harts b = (vs : List HartView) × (found : ℕ) × (stage : Stage) × AreUnclaimed harts b.hart.id found × HasNoted b.hart.id stage (Quieted found) vs b.known.harts

module _ (size : Size) where
  -- ---- a turn after which the life goes on
  came_on : (did : Turned) (m b : Seated) (word : Word) (told : Option (ℕ × Entry)) → ComesOnce size did m b word told → life_goes_on word ≡ true → Each GoesOn m.took.told → Each GoesOn b.took.told
  came_on Durable m b word told is on all = subst (λ (x : PartView BusTurn). Each GoesOn x.told) (sym is.3.2.1) (on, all)
  came_on (Made did) m b word told is on all = subst (λ (x : Seated). Each GoesOn x.took.told) (sym is.0) all

  turn_on : (doze : Option Doze) (a b : Seated) (word : Word) (told : Option (ℕ × Entry)) → TurnOnceBy doze size a b word told → life_goes_on word ≡ true → Each GoesOn a.took.told → Each GoesOn b.took.told
  turn_on None a b word told is on all = came_on is.2 is.3 b word told is.5 on (step_more is.4.0 a.took is.3.took is.0 is.1 is.7 all)
  turn_on (Some d) a b word told is on all = quiet_more is.0.0 is.0.1 a.took b.took is.0.2 all

  turns_on : (n : ℕ) (a b : Seated) → TurnsOn size AnyAnswer AnyWord n a b → Each GoesOn a.took.told → Each GoesOn b.took.told
  turns_on zero a b is all = subst (λ (x : Seated). Each GoesOn x.took.told) (sym is) all
  turns_on (suc n) a b is all = turn_on is.0.doze is.0 b is.1 None is.3 is.4 (turns_on n a is.0 is.2 all)

  -- ---- the last one
  held : (call : Call) (m b : Seated) (word : Word) → HeldOnce size call m.hart b.hart m.known b.known word → word ≡ Over Asleep → WentAlone size.harts b
  held call m b word (inl is) asleep = absurd (let goes = is.1 in let no : ⊥ = cc in no)
  held call m b word (inr (inl is)) asleep =
      let found = is.1.0 in
      let same = sym is.1.3 in (
        m.known.harts,
        found,
        after_quiet size.harts m.hart.id found,
        subst (λ (s : ArchState). AreUnclaimed size.harts s.id found) same is.1.1,
        subst (λ (s : ArchState). HasNoted s.id (after_quiet size.harts m.hart.id found) (Quieted found) m.known.harts b.known.harts) same is.1.2,
      )
  held call m b word (inr (inr is)) asleep = absurd (let reset = is.3 in let no : ⊥ = cc in no)

  came_last : (did : Turned) (m b : Seated) (word : Word) (told : Option (ℕ × Entry)) → ComesOnce size did m b word told → life_goes_on word ≡ false → Each GoesOn m.took.told → Slept b.took.told → WentAlone size.harts b
  came_last Durable m b word told is over all slept =
      held (call_of m.hart) m b word is.0
      (told_last (held_call m.hart b.hart word) is.3.2.0 is.3.0 is.3.1 m.took.told all (subst (λ (x : PartView BusTurn). Slept x.told) is.3.2.1 slept))
  came_last (Made did) m b word told is over all slept = absurd (let on : true ≡ false = subst (λ (w : Word). life_goes_on w ≡ false) is.1 over in let no : ⊥ = cc in no)

  dozed : (woken : Bool) (d : Doze) (a b : Seated) (word : Word) → DozeOnce woken d a b word → life_goes_on word ≡ true
  dozed false d a b word is = ap life_goes_on is.1
  dozed true d a b word is = ap life_goes_on is.3

  turn_last : (doze : Option Doze) (a b : Seated) (word : Word) (told : Option (ℕ × Entry)) → TurnOnceBy doze size a b word told → life_goes_on word ≡ false → Each GoesOn a.took.told → Slept b.took.told → WentAlone size.harts b
  turn_last None a b word told is over all slept = came_last is.2 is.3 b word told is.5 over (step_more is.4.0 a.took is.3.took is.0 is.1 is.7 all) slept
  turn_last (Some d) a b word told is over all slept =
      absurd (let on : life_goes_on word ≡ true = dozed (is_woken a.hart.id is.0.0.doze) d a b word is.0.4 in let no : ⊥ = cc in no)

  -- ---- a loop that ended
  looped : (turns made : ℕ) (a b : Seated) (why : Why) (told : Option (ℕ × Entry)) → LoopOnce size AnyAnswer AnyWord turns made a b why told → Each GoesOn a.took.told → Slept b.took.told → WentAlone size.harts b
  looped turns made a b whys.Life told is all slept = turn_last is.1.doze is.1 b is.2 told is.5 is.6 (turns_on is.0 a is.1 is.4 all) slept
  looped turns made a b whys.Closed told is all slept = absurd (no_sleep b.took.told (turns_on made a b is.0 all) slept)
  looped turns made a b whys.Gate told is all slept = absurd (no_sleep b.took.told (turns_on made a b is.0 all) slept)
  looped turns made a b whys.Turns told is all slept = absurd (no_sleep b.took.told (turns_on made a b is.0 all) slept)

-- ---- the steps of one hart alone
abbrev hart_of : List HartView → ℕ
hart_of [] = 0
hart_of (v ∷ vs) = v.hart

abbrev actions_of : List HartView → List Action
actions_of [] = []
actions_of (v ∷ vs) = v.actions

differ : (a b : ℕ) → false ≡ (a == b) → b ≡ a → ⊥
differ a b is same = grind (arith, nat_tests)

equal : (a b : ℕ) → true ≡ (a == b) → a ≡ b
equal a b is = grind (arith, nat_tests)

-- what was noted last, of a seat that then has that hart alone
last_if : (own : Bool) (h : ℕ) (st st' : Stage) (x : Action) (v : HartView) (vs : List HartView) (ds : List Action) (ps : List ℕ) (place : ℕ) → own ≡ (v.hart == h)
    → hart_notes h st' ds ps ∷ [] ≡ (if own then hart_notes v.hart st (x ∷ v.actions) (place ∷ v.places) ∷ vs else v ∷ noted h st place x vs)
    → (w : HartView) × (v ∷ vs ≡ w ∷ []) × (w.hart ≡ h) × (ds ≡ x ∷ w.actions)
last_if true h st st' x v vs ds ps place own is = (v, ap (λ (l : List HartView). v ∷ drop 1 l) (sym is), equal v.hart h own, ap actions_of is)
last_if false h st st' x v vs ds ps place own is = absurd (differ v.hart h own (ap hart_of is))

last_of : (h : ℕ) (st st' : Stage) (x : Action) (vs : List HartView) (ds : List Action) (ps : List ℕ) → HasNoted h st x vs (hart_notes h st' ds ps ∷ []) → (w : HartView) × (vs ≡ w ∷ []) × (w.hart ≡ h) × (ds ≡ x ∷ w.actions)
last_of h st st' x [] ds ps is = absurd (let long : 1 ≡ 0 = ap (λ (l : List HartView). length l) is.1 in let no : ⊥ = cc in no)
last_of h st st' x (v ∷ vs) ds ps is = last_if (v.hart == h) h st st' x v vs ds ps is.0 refl is.1

-- ---- what a log has of the hart
pub has_alone : (m : Machine) (turns : ℕ) (took : PartView BusTurn) (starts : Log Action) (raises : Log IpiAction) (stage : Stage) (e : HartEnd) → IsOfHart m turns took (known_by starts raises e.hart.id stage) e → Slept took.told
    → (found last : ℕ) × (before : List Action) × (actions_in e.hart.id starts ≡ Looked last ∷ Quieted found ∷ before) × AreUnclaimed m.size.harts e.hart.id found
has_alone m turns took starts raises stage e of slept =
    let b = of.0 in
    let gone = of.1 in
    let h = e.hart.id in
    let own : b.hart.id ≡ h = ap (λ (s : ArchState). s.id) (sym of.4) in
    let fresh : Each GoesOn gone.0.took.told = subst (λ (d : PartView BusTurn). Each GoesOn d.told) (sym gone.1.took) tt in
    let alone = looped m.size turns e.made gone.0 b e.why (own_receipt e) gone.2 fresh (subst (λ (d : PartView BusTurn). Slept d.told) (sym of.2) slept) in
    let last = of.3.0 in
    let at = stage_of b.hart.id b.known.harts in
    let looked : HasNoted h at (Looked last) b.known.harts (noted_by starts h stage) = subst (λ (k : ℕ). HasNoted k at (Looked last) b.known.harts (noted_by starts h stage)) own of.3.2.0 in
    let one = last_of h at stage (Looked last) b.known.harts (actions_in h starts) (log_places h starts) looked in
    let v = one.0 in
    let sits : b.known.harts ≡ hart_notes h v.stage v.actions v.places ∷ [] = one.1 ∙ (λ i. record { hart = one.2 i; stage = v.stage; actions = v.actions; places = v.places } ∷ []) in
    let quieted = subst (λ (vs : List HartView). HasNoted h alone.2 (Quieted alone.1) alone.0 vs) sits
    (subst (λ (k : ℕ). HasNoted k alone.2 (Quieted alone.1) alone.0 b.known.harts) own alone.4) in
    let two = last_of h alone.2 v.stage (Quieted alone.1) alone.0 v.actions v.places quieted in (
      alone.1,
      last,
      two.0.actions,
      one.3 ∙ ap (λ (l : List Action). Looked last ∷ l) two.3,
      subst (λ (k : ℕ). AreUnclaimed m.size.harts k alone.1) own alone.3,
    )

-- ---- the turn of the history
each_rest : (P : ℕ × BusTurn → Type 0) (front l : Log BusTurn) → Each P (front ++ l) → Each P l
each_rest P [] l all = all
each_rest P (e ∷ front) l all = each_rest P front l all.1

here : (own : Bool) (n : ℕ) (t : BusTurn) (ts : List (ℕ × BusTurn)) → own ≡ true → Sleeps t → Slept (if own then (n, t) ∷ ts else ts)
here true n t ts is s = inl s
here false n t ts is s = absurd (let no : ⊥ = cc in no)

there : (own : Bool) (n : ℕ) (t : BusTurn) (ts : List (ℕ × BusTurn)) → Slept ts → Slept (if own then (n, t) ∷ ts else ts)
there true n t ts s = inr s
there false n t ts s = s

self : (n : ℕ) → (n == n) ≡ true
self n = grind (arith, nat_tests)

told_there : (who : ℕ) (front l : Log BusTurn) → Slept (told_by who l) → Slept (told_by who (front ++ l))
told_there who [] l s = s
told_there who (e ∷ front) l s = there (e.0 == who) (suc (length (front ++ l))) e.1 (told_by who (front ++ l)) (told_there who front l s)

-- a hart of the board has an end
ended : (P : HartEnd → Type 0) (first n : ℕ) (es : List HartEnd) → AreNumberedFrom first es → All P es → n < length es → (e : HartEnd) × (e.hart.id ≡ first + n) × P e
ended P first n [] are all lt = absurd (omega (arith, lt))
ended P first zero (e ∷ es) are all lt = (e, (let at = are.0 in omega (arith, at)), All-head P e es all)
ended P first (suc n) (e ∷ es) are all lt =
    let rest = ended P (suc first) n es are.1 (All-tail P e es all) (omega (arith, lt)) in
    (rest.0, (let at = rest.1 in omega (arith, at)), rest.2)

module _ (size : Size) (machine : Machine) (turns : ℕ) (log : Log BusTurn) (starts : Log Action) (raises : Log IpiAction) (left : Left) (ends : List HartEnd) (driven : AreDriven size.harts machine turns log starts raises (Some left) ends) where
  one_alone : (memory : List ℕ) (hart address opaque : ℕ) (image : List ℕ) → Each (λ e. e.0 < size.harts + 2) log → IsMoment HasEnded size log (begun_bus memory) (Suspend hart address opaque image) → FoundAlone machine.size.harts starts hart
  one_alone memory hart address opaque image of moment =
      ∥∥₁_elim moment ∥∥₁_prop (λ is.
      let by = is.4.asked.id in
      let who = part_of_hart by in
      let rest : Log BusTurn = (who, is.3) ∷ is.1 in
      let looks : Log BusTurn = (store_part, is.2) ∷ rest in
      let within = each_rest (λ e. e.0 < size.harts + 2) is.0 looks (subst (λ (l : Log BusTurn). Each (λ e. e.0 < size.harts + 2) l) is.6 of) in
      let lt : by + 2 < size.harts + 2 = within.1.0 in
      let sleeps : Sleeps is.3 = (is.4, is.8, is.9.2) in
      let told : Slept (told_by who log) = subst (λ (l : Log BusTurn). Slept (told_by who l)) (sym is.6)
      (told_there who is.0 looks (there (store_part == who) (suc (length rest)) is.2 (told_by who rest) (here (who == who) (suc (length is.1)) is.3 (told_by who is.1) (self who) sleeps))) in
      let P : HartEnd → Type 0 = λ e. (stage : Stage) × IsEnding machine turns false (harts_after left) (took_by log e.hart.id) (known_by starts raises e.hart.id stage) e in
      let many = driven.0 in
      let e = ended P 0 by ends driven.1 driven.2 (omega (arith, lt, many)) in
      let named : e.0.hart.id ≡ by = (let at = e.1 in omega (arith, at)) in
      let of_end : P e.0 = e.2 in
      let slept : Slept (told_by (part_of_hart e.0.hart.id) log) = subst (λ (k : ℕ). Slept (told_by (part_of_hart k) log)) (sym named) told in
      subst (λ (k : ℕ). FoundAlone machine.size.harts starts k) (named ∙ is.9.0)
      (∥∥₁_map of_end.1.1 (λ (h : IsOfHart machine turns (took_by log e.0.hart.id) (known_by starts raises e.0.hart.id of_end.0) e.0).
      has_alone machine turns (took_by log e.0.hart.id) starts raises of_end.0 e.0 h slept)))

  -- so did the hart of a suspension of the journal
  one_of : (memory : List ℕ) (journal : List Change) (doubt : Option Change) (woken : ℕ) → ∥ IsHistory size memory journal doubt woken log ∥₁ → (k : ℕ) (c : Change) → slice_get journal k ≡ Some c → EndsAs (SleptAlone machine.size.harts starts) c
  one_of memory journal doubt woken history k (Suspend hart address opaque image) at = λ is.
      ∥∥₁_elim history ∥∥₁_prop (λ (h : IsHistory size memory journal doubt woken log). one_alone memory hart address opaque image h.of (h.ended k (Suspend hart address opaque image) at is))
  one_of memory journal doubt woken history k c at = λ is. tt

  -- and of each
  pub all_alone : (memory : List ℕ) (journal : List Change) (doubt : Option Change) (woken : ℕ) → ∥ IsHistory size memory journal doubt woken log ∥₁ → AllEndAs (SleptAlone machine.size.harts starts) journal
  all_alone memory journal doubt woken history = λ k c at. one_of memory journal doubt woken history k c at
