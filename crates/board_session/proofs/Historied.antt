-- The parts of a history that has ended, and what they say of it.
use Rattle.std.proofs.Common.{◌≡◌, ◌∙◌, ℕ, suc, Bool, true, false, List, [], ◌∷◌, ◌++◌, ◌==◌, All, Option, Some, None, length, if◌then◌else◌, arith, inl, inr, refl, sym, ap, subst}
use Rattle.std.{proofs.lemmas.{Bool.Decides.nat_tests, List.{append_assoc, Elements.All-push}}, specs.Prelude.{IfSome, get_or}}
use Rattle.std.proofs.Math.Logic.{∥∥₁_map, ∥∥₁_map₂}
use Rattle.board_model.specs.{Durable.Change, Shapes.Size}
use Rattle.hart.specs.State.{ArchState}
use Rattle.hsm.specs.{Words.HartView, declared.view.{Action.Action, Stage.Stage}}
use Rattle.ipi.specs.{Ledger.PendingView, declared.view.IpiAction.IpiAction}
use Rattle.machine.specs.Machine.{Machine, only_first}
use Rattle.sbi.specs.declared.words.LifeEnd.{LifeEnd}
use Rattle.sbi_calls.specs.{Both.{Known, known, pending_views, views}, declared.tables.Seats.Seats}
use Rattle.store.specs.Lives.{Life}
use Rattle.susp.specs.declared.buses.Bus.{Bus}
use Rattle.tallies.specs.{Books.{Each, IsPart, part_view, told_by}, Logs.{IsOfLog, Log, actions_in, log_places}, Notes.numbers}
use Rattle.tallies.specs.declared.{view.HartNotes.HartNotes, book_views.PartView.PartView}
use Rattle.hart_threads.specs.Bused.{AreCalls, AreSaved, AreWakes, AsksSo, FoundSo, HasEnded, HasFailed, IsMoment, IsSaving, IsWaking, LooksFor, Makes, SavedBy, WasTold, begun_bus, console_part, count_of, part_of_hart, store_part}
use Rattle.hart_threads.specs.{Ends.{IsEnding, IsOfHart}, Seated.AreOfHart, declared.{ends.HartEnd.HartEnd, bus_turns.BusTurn.BusTurn}}
use Rattle.hart_threads.{specs.{LifeEnds.{AllEndAs, EndsAs, IsEndedAs}, declared.bus_turns.HeldCall.HeldCall}, proofs.Bussing.ended_more}
use Rattle.hart_threads.{specs.declared.closing.AfterConsole.AfterConsole, proofs.Whose.hart_whose}
use Rattle.board_session.specs.Histories.{EndsHistory, EndsWith, HasTables, IsAmong, IsHistory, IsOneOf, IsUnended, known_by, noted_by, took_by}

-- ---- a life that no command was to end yet
abbrev none : Change → Type 0
none c = ⊥

pub ends_none : (P Q : Change → Type 0) (life : Life) → IsUnended life → IsEndedAs P Q life
ends_none P Q life is = ended_more none P none Q life (λ c no. absurd no) (λ c no. absurd no) is

-- nothing was done with its bus
pub no_history : (size : Size) (memory : List ℕ) (life : Life) (journal : List Change) (doubt : Option Change) → journal ≡ life.journal → doubt ≡ life.doubt → IsUnended life → ∥ IsHistory size memory journal doubt 0 [] ∥₁
no_history size memory life journal doubt issued down unended =
    let by_life = ends_none (IsMoment HasEnded size [] (begun_bus memory)) (IsMoment HasFailed size [] (begun_bus memory)) life unended in
    ∣ record {
      left = begun_bus memory;
      made = refl;
      of = tt;
      calls = tt;
      saves = tt;
      wakes = tt;
      often = refl;
      ended = subst (λ (cs : List Change). AllEndAs (IsMoment HasEnded size [] (begun_bus memory)) cs) (sym issued) by_life.journal;
      doubted = subst (λ (o : Option Change). (c : Change) → o ≡ Some c → EndsAs (IsMoment HasFailed size [] (begun_bus memory)) c) (sym down) by_life.doubt;
    } ∣₁

-- ---- what is among what came back
one_of : {V : Type 0} (P : V → Type 0) (d : V) (ps : List V) → IsOneOf d ps → Each P ps → P d
one_of P d [] is all = absurd is
one_of P d (p ∷ ps) (inl same) all = subst P same all.0
one_of P d (p ∷ ps) (inr rest) all = one_of P d ps rest all.1

one_more : {V : Type 0} (d : V) (ps qs : List V) → IsOneOf d ps → IsOneOf d (ps ++ qs)
one_more d [] qs is = absurd is
one_more d (p ∷ ps) qs (inl same) = inl same
one_more d (p ∷ ps) qs (inr rest) = inr (one_more d ps qs rest)

one_there : {V : Type 0} (d : V) (ps qs : List V) → IsOneOf d (ps ++ d ∷ qs)
one_there d [] qs = inl refl
one_there d (p ∷ ps) qs = inr (one_there d ps qs)

each_of : {V : Type 0} (P : V → Type 0) (vs ps : List V) → Each (λ v. IsOneOf v ps) vs → Each P ps → Each P vs
each_of P [] ps are all = tt
each_of P (v ∷ vs) ps are all = (one_of P v ps are.0 all, each_of P vs ps are.1 all)

each_more : {V : Type 0} (vs ps qs : List V) → Each (λ v. IsOneOf v ps) vs → Each (λ v. IsOneOf v (ps ++ qs)) vs
each_more [] ps qs are = tt
each_more (v ∷ vs) ps qs are = (one_more v ps qs are.0, each_more vs ps qs are.1)

each_there : {V : Type 0} (ps vs : List V) → Each (λ v. IsOneOf v (ps ++ vs)) vs
each_there {V} ps [] = tt
each_there {V} ps (v ∷ vs) = (one_there v ps vs, subst (λ (l : List V). Each (λ w. IsOneOf w l) vs) (append_assoc ps (v ∷ []) vs) (each_there (ps ++ v ∷ []) vs))

among_more : (starts more : List HartView) (raises also : List PendingView) (h : ℕ) (k : Known) → IsAmong starts raises h k → IsAmong (starts ++ more) (raises ++ also) h k
among_more starts more raises also h k is = (is.0, is.1, each_more k.harts starts more is.2, each_more k.pairs raises also is.3)

-- the seats of one hart more
among_these : (starts : List HartView) (raises : List PendingView) (h : ℕ) (s : Seats) → AreOfHart h s → IsAmong (starts ++ views s) (raises ++ pending_views s) h (known s)
among_these starts raises h s of = (of.0, of.1, each_there starts (views s), each_there raises (pending_views s))

-- ---- what a log has of one hart
-- those of one hart alone that are in a log
noted_in : {S D : Type 0} (log : Log D) (h : ℕ) (vs : List (HartNotes S D)) → numbers vs ≡ h ∷ [] → Each (λ v. IsOfLog log v.hart v.actions v.places) vs → (stage : S) × (vs ≡ noted_by log h stage)
noted_in log h [] is of = absurd (cc)
noted_in log h (v ∷ []) is of =
    let same : v.hart ≡ h = ap (λ (l : List ℕ). get_or l 0 0) is in
    let did : v.actions ≡ actions_in h log = of.0.0 ∙ ap (λ (k : ℕ). actions_in k log) same in
    let at : v.places ≡ log_places h log = of.0.1 ∙ ap (λ (k : ℕ). log_places k log) same in
    (v.stage, λ i. (record { hart = same i; stage = v.stage; actions = did i; places = at i }) ∷ [])
noted_in log h (v ∷ w ∷ vs) is of = absurd (let long : suc (suc (length (numbers vs))) ≡ 1 = ap (λ (l : List ℕ). length l) is in omega (arith, long))

known_in : (starts : Log Action) (raises : Log IpiAction) (h : ℕ) (k : Known) → numbers k.harts ≡ h ∷ [] → numbers k.pairs ≡ h ∷ [] → Each (λ v. IsOfLog starts v.hart v.actions v.places) k.harts → Each (λ v. IsOfLog raises v.hart v.actions v.places) k.pairs
    → (stage : Stage) × (k ≡ known_by starts raises h stage)
known_in starts raises h k one also did sent =
    let x = noted_in starts h k.harts one did in
    let y = noted_in raises h k.pairs also sent in
    (x.0, λ i. record { harts = x.1 i; pairs = y.1 i })

-- ---- parts that are back
part_is : (log : Log BusTurn) (d : PartView BusTurn) (k : ℕ) → IsPart log d → d.who ≡ k → d ≡ part_view k (told_by k log)
part_is log d k is who = let told : d.told ≡ told_by k log = is ∙ ap (λ (j : ℕ). told_by j log) who in λ i. record { who = who i; told = told i }

module _ (machine : Machine) (turns : ℕ) (gated : Bool) (parting : AfterConsole) where
  -- one more is back
  pub one_with : (d : PartView BusTurn) (parts : List (PartView BusTurn)) (starts : List HartView) (raises : List PendingView) (s : Seats) (of : ArchState) (e : HartEnd) → e.hart ≡ of → AreOfHart of.id s → IsEnding machine turns gated parting d (known s) e
      → EndsWith machine turns gated parting (d ∷ parts) (starts ++ views s) (raises ++ pending_views s) e
  one_with d parts starts raises s of e same alone is = (d, known s, inl refl, subst (λ (a : ArchState). IsAmong (starts ++ views s) (raises ++ pending_views s) a.id (known s)) (sym same) (among_these starts raises of.id s alone), is)

  pub ends_with : (d : PartView BusTurn) (parts : List (PartView BusTurn)) (starts more : List HartView) (raises also : List PendingView) (es : List HartEnd) → All (EndsWith machine turns gated parting parts starts raises) es
      → All (EndsWith machine turns gated parting (d ∷ parts) (starts ++ more) (raises ++ also)) es
  ends_with d parts starts more raises also es all = λ k e lt. let is = all k e lt in (is.0, is.1, inr is.2, among_more starts more raises also _ is.1 is.3, is.4)

  -- and its end after the others
  pub all_with : (d : PartView BusTurn) (before parts : List (PartView BusTurn)) (starts starts' : List HartView) (raises raises' : List PendingView) (s : Seats) (of : ArchState) (es es' : List HartEnd) (e : HartEnd)
      → parts ≡ d ∷ before → starts' ≡ starts ++ views s → raises' ≡ raises ++ pending_views s → es' ≡ es ++ e ∷ [] → e.hart ≡ of → AreOfHart of.id s → IsEnding machine turns gated parting d (known s) e
      → All (EndsWith machine turns gated parting before starts raises) es → All (EndsWith machine turns gated parting parts starts' raises') es'
  all_with d before parts starts starts' raises raises' s of es es' e back came sent grown same alone is all =
      let P = EndsWith machine turns gated parting (d ∷ before) (starts ++ views s) (raises ++ pending_views s) in
      subst (λ (ps : List (PartView BusTurn)). All (EndsWith machine turns gated parting ps starts' raises') es') (sym back)
      (subst (λ (vs : List HartView). All (EndsWith machine turns gated parting (d ∷ before) vs raises') es') (sym came)
      (subst (λ (ws : List PendingView). All (EndsWith machine turns gated parting (d ∷ before) (starts ++ views s) ws) es') (sym sent)
      (subst (λ (xs : List HartEnd). All P xs) (sym grown)
      (All-push P es e (ends_with d before starts (views s) raises (pending_views s) es all) (one_with d before starts raises s of e same alone is)))))

  -- all are
  abbrev pub EndedBy : Log BusTurn → Log Action → Log IpiAction → HartEnd → Type 0
  EndedBy log starts raises e = (stage : Stage) × IsEnding machine turns gated parting (took_by log e.hart.id) (known_by starts raises e.hart.id stage) e

  ends_by : (log : Log BusTurn) (d : PartView BusTurn) (later : Known) (e : HartEnd) → IsPart log d → IsEnding machine turns gated parting d later e → IsEnding machine turns gated parting (took_by log e.hart.id) later e
  ends_by log d later e is ending = (
    ending.0,
    ∥∥₁_map ending.1 (λ (of : IsOfHart machine turns d later e).
        let so : IsOfHart machine turns (took_by log e.hart.id) later e = subst (λ (p : PartView BusTurn). IsOfHart machine turns p later e) (part_is log d (part_of_hart e.hart.id) is (hart_whose machine turns d later e of)) of in so),
  )

  one_ends_by : (log : Log BusTurn) (starts : Log Action) (raises : Log IpiAction) (parts : List (PartView BusTurn)) (vs : List HartView) (ws : List PendingView) (e : HartEnd) → Each (IsPart log) parts
      → Each (λ v. IsOfLog starts v.hart v.actions v.places) vs → Each (λ w. IsOfLog raises w.hart w.actions w.places) ws → EndsWith machine turns gated parting parts vs ws e → EndedBy log starts raises e
  one_ends_by log starts raises parts vs ws e told did sent is =
      let am = is.3 in
      let knows = known_in starts raises e.hart.id is.1 am.0 am.1 (each_of (λ v. IsOfLog starts v.hart v.actions v.places) is.1.harts vs am.2 did) (each_of (λ w. IsOfLog raises w.hart w.actions w.places) is.1.pairs ws am.3 sent) in
      (knows.0, subst (λ (l : Known). IsEnding machine turns gated parting (took_by log e.hart.id) l e) knows.1 (ends_by log is.0 is.1 e (one_of (IsPart log) is.0 parts is.2 told) is.4))

  pub all_ends_by : (log : Log BusTurn) (starts : Log Action) (raises : Log IpiAction) (parts : List (PartView BusTurn)) (vs : List HartView) (ws : List PendingView) (es : List HartEnd) → Each (IsPart log) parts
      → Each (λ v. IsOfLog starts v.hart v.actions v.places) vs → Each (λ w. IsOfLog raises w.hart w.actions w.places) ws → All (EndsWith machine turns gated parting parts vs ws) es → All (EndedBy log starts raises) es
  all_ends_by log starts raises parts vs ws es told did sent all = λ k e lt. one_ends_by log starts raises parts vs ws _ told did sent (all k e lt)

-- no step was made
pub no_steps : (harts : ℕ) (machine : Machine) (first : ℕ) → machine.table.states ≡ only_first harts first → HasTables harts machine [] []
no_steps harts machine first only = record { first = first; only = only; started = tt; raised = tt }

-- ---- a memory that the store found as it looked for a call
equal : (a b : ℕ) → (a == b) ≡ true → a ≡ b
equal a b is = grind (arith, nat_tests)

module _ (Answered : LifeEnd → HeldCall → Type 0) (size : Size) (begun : Bus) (c : Change) where
  abbrev HasMoment : Log BusTurn → Type 0
  HasMoment log =
      (later earlier : Log BusTurn) × (look turn : BusTurn) × (call : HeldCall) × (left : Bus)
      × (log ≡ later ++ (store_part, look) ∷ (part_of_hart call.asked.id, turn) ∷ earlier)
      × (look.call ≡ Some call) × (turn.call ≡ Some call) × AsksSo Answered size c call left.ram
      × Makes ((part_of_hart call.asked.id, turn) ∷ earlier) begun left

  abbrev Looked : List (ℕ × BusTurn) → Type 0
  Looked told = FoundSo Answered size told c

  moment_later : (e : ℕ × BusTurn) (l : Log BusTurn) → HasMoment l → HasMoment (e ∷ l)
  moment_later e l m = (e ∷ m.0, m.1, m.2, m.3, m.4, m.5, ap (λ (x : Log BusTurn). e ∷ x) m.6, m.7, m.8, m.9, m.10)

  -- a look, directly after the turn of the hart that asked
  here : (e : ℕ × BusTurn) (l : Log BusTurn) (n : Bus) (call : HeldCall) → e.0 ≡ store_part → e.1.call ≡ Some call → AreCalls (Some call) l → Makes (e ∷ l) begun n → AsksSo Answered size c call e.1.found.ram → HasMoment (e ∷ l)
  here e [] n call own is calls row so = absurd calls
  here e (f ∷ l) n call own is calls row so =
      let looked : e ≡ (store_part, e.1) = λ i. (own i, e.1) in
      let turned : f ≡ (part_of_hart call.asked.id, f.1) = λ i. (calls.0 i, f.1) in (
        [],
        l,
        e.1,
        f.1,
        call,
        e.1.found,
        (λ i. looked i ∷ turned i ∷ l),
        is,
        calls.1,
        so,
        subst (λ (x : ℕ × BusTurn). Makes (x ∷ l) begun e.1.found) turned row.1,
      )

  -- a turn more, of the store or of another
  moment_if : (own : Bool) (e : ℕ × BusTurn) (l : Log BusTurn) → (LooksFor Answered size c e.1 → HasMoment (e ∷ l)) → (Looked (told_by store_part l) → HasMoment l)
      → Looked (if own then (suc (length l), e.1) ∷ told_by store_part l else told_by store_part l) → HasMoment (e ∷ l)
  moment_if true e l now rest (inl look) = now look
  moment_if true e l now rest (inr so) = moment_later e l (rest so)
  moment_if false e l now rest so = moment_later e l (rest so)

  -- the turn of a hart is no look of the store
  not_own : (own : Bool) (who : ℕ) (e : ℕ × BusTurn) (l : Log BusTurn) → own ≡ (e.0 == store_part) → e.0 ≡ part_of_hart who → Looked (if own then (suc (length l), e.1) ∷ told_by store_part l else told_by store_part l) → Looked (told_by store_part l)
  not_own true who e l is of so = let zero : e.0 ≡ 0 = equal e.0 0 (sym is) in absurd (omega (arith, zero, of))
  not_own false who e l is of so = so

  moment : (after : Option HeldCall) (log : Log BusTurn) (n : Bus) → AreCalls after log → Makes log begun n → Looked (told_by store_part log) → HasMoment log
  moment None [] n calls row so = absurd so
  moment (Some call) [] n calls row so = absurd calls
  moment None (e ∷ l) n calls row so =
      moment_if (e.0 == store_part) e l
      (λ look. here e l n look.0 (subst (λ (o : Option HeldCall). IfSome o (λ call. e.0 ≡ store_part)) look.1 calls.0) look.1 (subst (λ (o : Option HeldCall). AreCalls o l) look.1 calls.1) row look.2)
      (λ told. moment e.1.call l e.1.found calls.1 row.1 told) so
  moment (Some call) (e ∷ l) n calls row so = moment_later e l (moment None l e.1.found calls.2 row.1 (not_own (e.0 == store_part) call.asked.id e l refl calls.0 so))

  moment_told : (log : Log BusTurn) (n : Bus) → AreCalls None log → Makes log begun n → WasTold Answered size (told_by store_part log) c → IsMoment Answered size log begun c
  moment_told log n calls row was = ∥∥₁_map was (λ (so : Looked (told_by store_part log)). moment None log n calls row so)

-- ---- the whole history
module _ (size : Size) (memory : List ℕ) (log : Log BusTurn) (store console : PartView BusTurn) (parts : List (PartView BusTurn)) (ends : EndsHistory size memory log store console parts) where
  told_of : (d : PartView BusTurn) (k : ℕ) → IsPart log d → d.who ≡ k → d.told ≡ told_by k log
  told_of d k is who = is ∙ ap (λ (j : ℕ). told_by j log) who

  whole : (life : Life) (woken : ℕ) → Makes log (begun_bus memory) ends.left → AreCalls None log → SavedBy size life store → AreWakes woken console → IsHistory size memory life.journal life.doubt woken log
  whole life woken made calls saved wakes =
      let own = told_of store store_part ends.told.1.0 saved.0 in
      let woke = told_of console console_part ends.told.0 wakes.0 in
      let looks = subst (λ (ts : List (ℕ × BusTurn)). Each (λ t. IsSaving t.1) ts) own saved.1 in
      let told = λ (Answered : LifeEnd → HeldCall → Type 0) (c : Change) (was : WasTold Answered size store.told c).
      moment_told Answered size (begun_bus memory) c log ends.left calls made (subst (λ (ts : List (ℕ × BusTurn)). WasTold Answered size ts c) own was) in
      let by_life = ended_more (WasTold HasEnded size store.told) (IsMoment HasEnded size log (begun_bus memory)) (WasTold HasFailed size store.told) (IsMoment HasFailed size log (begun_bus memory)) life (told HasEnded) (told HasFailed) saved.2 in
      record {
        left = ends.left;
        made = made;
        of = ends.of;
        calls = calls;
        saves = looks;
        wakes = subst (λ (ts : List (ℕ × BusTurn)). Each (λ t. IsWaking t.1) ts) woke wakes.1;
        often = wakes.2 ∙ ap count_of woke;
        ended = by_life.journal;
        doubted = by_life.doubt;
      }

  pub history : (life : Life) (woken : ℕ) → AreSaved size life store → AreWakes woken console → ∥ IsHistory size memory life.journal life.doubt woken log ∥₁
  history life woken saved wakes =
      let rows : ∥ Makes log (begun_bus memory) ends.left × AreCalls None log ∥₁ = ∥∥₁_map₂ ends.made ends.calls (λ made calls. (made, calls)) in
      ∥∥₁_map₂ rows saved (λ row by. whole life woken row.0 row.1 by wakes)

-- under its other names
pub history_of : (size : Size) (memory begins : List ℕ) (log : Log BusTurn) (store console : PartView BusTurn) (parts : List (PartView BusTurn)) → EndsHistory size memory log store console parts → (life : Life) (journal : List Change) (doubt : Option Change) (woken : ℕ)
    → begins ≡ memory → journal ≡ life.journal → doubt ≡ life.doubt → AreSaved size life store → AreWakes woken console → ∥ IsHistory size begins journal doubt woken log ∥₁
history_of size memory begins log store console parts ends life journal doubt woken left_by issued down saved wakes =
    subst (λ (m : List ℕ). ∥ IsHistory size m journal doubt woken log ∥₁) (sym left_by)
    (subst (λ (cs : List Change). ∥ IsHistory size memory cs doubt woken log ∥₁) (sym issued)
    (subst (λ (d : Option Change). ∥ IsHistory size memory life.journal d woken log ∥₁) (sym down)
    (history size memory log store console parts ends life woken saved wakes)))
