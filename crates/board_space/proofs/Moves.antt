-- The successors of a board, event by event.
use Rattle.std.proofs.{Common.{◌≡◌, ⊎_elim, ℕ, Bool, true, false, ◌+◌, ◌<◌, ◌≤◌, List, refl, sym, ◌∙◌, subst, arith}, lemmas.Bool.cases_lt}
use Rattle.model_board.specs.{Boards.Board, Events.{Event, Turn, Refused, Wake, Cut, PowerOn}, Maps.{Map, Keeps, TurnKeeps}}
use Rattle.state_space.specs.{Successors.{found_count, found_event, found_row}, Systems.{Moves, IsExpanded}}
use Rattle.state_space.specs.declared.found.Successors.{Successors}
use Rattle.board_space.specs.Space.{Asked, IsOne, Happens, KeepsEach, KeepsSure, ReadsKept, number_of, SettlesSure, sure_rules}
use Rattle.board_space.specs.Expanding.{IsTold, IsMove, AreTold, IsTeller, IsPushed}

module _ (asked : Asked) (map : Map) (leaves : Bool) where
  told_lifted : (old new : List ℕ → Board → Type 0) (found grown : Successors) (b : Board) (e : Event) (mid : Board) → ((r : List ℕ) (c : Board) → old r c → new r c) → found_count found ≤ found_count grown → ((k : ℕ) → k < found_count found → found_event grown k ≡ found_event found k) → ((k : ℕ) → k < found_count found → found_row grown k ≡ found_row found k) → IsTold asked map leaves old found b e mid → IsTold asked map leaves new grown b e mid
  told_lifted old new found grown b e mid stays more events rows told = (
    told.0,
    told.1,
    omega (arith, told.2),
    events told.0 told.2 ∙ told.3,
    told.4,
    subst (λ (r : List ℕ). new r told.1) (sym (rows told.0 told.2)) (stays (found_row found told.0) told.1 told.5),
  )

  move_lifted : (old new : List ℕ → Board → Type 0) (found grown : Successors) (b : Board) (i : ℕ) → ((r : List ℕ) (c : Board) → old r c → new r c) → found_event grown i ≡ found_event found i → found_row grown i ≡ found_row found i → IsMove asked map leaves old found b i → IsMove asked map leaves new grown b i
  move_lifted old new found grown b i stays event row move = (
    move.0,
    subst (λ (n : ℕ). Moves (sure_rules asked map leaves) n b move.0) (sym event) move.1,
    subst (λ (r : List ℕ). new r move.0) (sym row) (stays (found_row found i) move.0 move.2),
  )

  pub told_none : (stands : List ℕ → Board → Type 0) (found : Successors) (b : Board) → found_count found ≡ 0 → AreTold asked map leaves stands found b 0
  told_none stands found b none = record {
    complete = λ e mid lt did. absurd (omega arith);
    sound = λ i lt. absurd (omega arith);
  }

  -- an event of the next number
  pub told_more : (old new : List ℕ → Board → Type 0) (found grown : Successors) (b : Board) (n : ℕ) (e : Event) → ((r : List ℕ) (c : Board) → old r c → new r c) → ((f : Event) → IsOne asked f → number_of f ≡ n → f ≡ e) → AreTold asked map leaves old found b n → IsTeller asked map leaves new found grown b e → AreTold asked map leaves new grown b (n + 1)
  told_more old new found grown b n e stays only told teller = record {
    complete = λ f mid lt did.
        ⊎_elim
        (λ below. told_lifted old new found grown b f mid stays teller.grown teller.events teller.rows (told.complete f mid below did))
        (λ last.
        let is : f ≡ e = only f did.0 (omega arith) in
        subst (λ (g : Event). IsTold asked map leaves new grown b g mid) (sym is) (teller.told mid (subst (λ (g : Event). Happens asked g b mid) is did)))
        (cases_lt (number_of f) n);
    sound = λ i lt.
        ⊎_elim
        (λ below. move_lifted old new found grown b i stays (teller.events i below) (teller.rows i below) (told.sound i below))
        (λ above. teller.sound i (omega arith) lt)
        (cases_lt i (found_count found));
  }

  -- no event has the next number
  pub told_other : (old new : List ℕ → Board → Type 0) (found : Successors) (b : Board) (n : ℕ) → ((r : List ℕ) (c : Board) → old r c → new r c) → ((f : Event) → IsOne asked f → number_of f ≡ n → ⊥) → AreTold asked map leaves old found b n → AreTold asked map leaves new found b (n + 1)
  told_other old new found b n stays none told = record {
    complete = λ f mid lt did.
        ⊎_elim
        (λ below. told_lifted old new found found b f mid stays (omega arith) (λ k lt. refl) (λ k lt. refl) (told.complete f mid below did))
        (λ last. absurd (none f did.0 (omega arith)))
        (cases_lt (number_of f) n);
    sound = λ i lt. move_lifted old new found found b i stays refl refl (told.sound i lt);
  }

  pub told_stays : (old new : List ℕ → Board → Type 0) (found : Successors) (b : Board) (n : ℕ) → ((r : List ℕ) (c : Board) → old r c → new r c) → AreTold asked map leaves old found b n → AreTold asked map leaves new found b n
  told_stays old new found b n stays told = record {
    complete = λ f mid lt did. told_lifted old new found found b f mid stays (omega arith) (λ k lt. refl) (λ k lt. refl) (told.complete f mid lt did);
    sound = λ i lt. move_lifted old new found found b i stays refl refl (told.sound i lt);
  }

  -- all of them
  pub told_all : (stands : List ℕ → Board → Type 0) (found : Successors) (b : Board) (n : ℕ) → ((f : Event) → IsOne asked f → number_of f < n) → ((e : Event) → IsOne asked e → Keeps map e b × ReadsKept leaves e b) → AreTold asked map leaves stands found b n → IsExpanded (sure_rules asked map leaves) stands (found_count found) (found_event found) (found_row found) b
  told_all stands found b n below keeps told = record {
    keeps = keeps;
    complete = λ e mid step.
        let told = told.complete step.0 mid (below step.0 step.2.0) step.2 in
        (told.0, told.1, told.2, told.3 ∙ step.1, told.4, told.5);
    sound = told.sound;
  }

  -- its event was told
  pub teller_pushed : (stands : List ℕ → Board → Type 0) (old new : Successors) (b mid to : Board) (e : Event) (row : List ℕ) → found_count new ≡ found_count old + 1 → found_event new (found_count old) ≡ number_of e → found_row new (found_count old) ≡ row → ((k : ℕ) → k < found_count old → found_event new k ≡ found_event old k) → ((k : ℕ) → k < found_count old → found_row new k ≡ found_row old k) → Happens asked e b mid → ((c : Board) → Happens asked e b c → c ≡ mid) → SettlesSure asked.size map leaves mid to → stands row to → IsTeller asked map leaves stands old new b e
  teller_pushed stands old new b mid to e row counted event is events rows did only settles has =
      let has_new : stands (found_row new (found_count old)) to = subst (λ (r : List ℕ). stands r to) (sym is) has in
      record {
        grown = omega arith;
        events = events;
        rows = rows;
        told = λ c happens. (found_count old, to, omega arith, event, subst (λ (d : Board). SettlesSure asked.size map leaves d to) (sym (only c happens)) settles, has_new);
        sound = λ i from lt.
            let at : found_count old ≡ i = omega arith in
            subst (λ (n : ℕ). IsMove asked map leaves stands new b n) at (to, (mid, (e, sym event, did), settles), has_new);
      }

  -- one successor more tells it
  pub teller_by : (stands : List ℕ → Board → Type 0) (old new : Successors) (b mid : Board) (e : Event) (n : ℕ) → IsPushed asked map leaves stands old new mid n → n ≡ number_of e → Happens asked e b mid → ((c : Board) → Happens asked e b c → c ≡ mid) → IsTeller asked map leaves stands old new b e
  teller_by stands old new b mid e n pushed is did only =
      teller_pushed stands old new b mid pushed.to e (found_row new (found_count old)) pushed.counted (pushed.event ∙ is) refl pushed.events pushed.rows did only pushed.settles pushed.has

  -- no event of the next numbers happens
  pub told_skipped : (stands : List ℕ → Board → Type 0) (found : Successors) (b : Board) (n m : ℕ) → ((f : Event) (c : Board) → n ≤ number_of f → number_of f < m → Happens asked f b c → ⊥) → AreTold asked map leaves stands found b n → AreTold asked map leaves stands found b m
  told_skipped stands found b n m none told = record {
    complete = λ f mid lt did. ⊎_elim (λ below. told.complete f mid below did) (λ above. absurd (none f mid above lt did)) (cases_lt (number_of f) n);
    sound = told.sound;
  }

  -- its event could not happen
  pub teller_none : (stands : List ℕ → Board → Type 0) (found : Successors) (b : Board) (e : Event) → ((c : Board) → Happens asked e b c → ⊥) → IsTeller asked map leaves stands found found b e
  teller_none stands found b e never = record {
    grown = omega arith;
    events = λ k lt. refl;
    rows = λ k lt. refl;
    told = λ c happens. absurd (never c happens);
    sound = λ i from lt. absurd (omega arith);
  }

-- each event that is asked for keeps the map where the turns of the harts do
pub keeps_each : (asked : Asked) (map : Map) (b : Board) → ((h : ℕ) → h < asked.size.harts → TurnKeeps map h b) → (e : Event) → KeepsEach asked map e b
keeps_each asked map b keeps (Turn h) one = keeps h one.0
keeps_each asked map b keeps (Refused h down) one = keeps h one.0
keeps_each asked map b keeps Wake one = tt
keeps_each asked map b keeps Cut one = tt
keeps_each asked map b keeps PowerOn one = tt

-- nor does one read a register that is left out
reads_refused : (leaves : Bool) (h : ℕ) (down : Bool) (b : Board) → ReadsKept leaves (Turn h) b → ReadsKept leaves (Refused h down) b
reads_refused true h down b none = none
reads_refused false h down b none = tt

reads_wake : (leaves : Bool) (b : Board) → ReadsKept leaves Wake b
reads_wake true b = λ h k left. tt
reads_wake false b = tt

reads_cut : (leaves : Bool) (b : Board) → ReadsKept leaves Cut b
reads_cut true b = λ h k left. tt
reads_cut false b = tt

reads_power_on : (leaves : Bool) (b : Board) → ReadsKept leaves PowerOn b
reads_power_on true b = λ h k left. tt
reads_power_on false b = tt

pub keeps_sure : (asked : Asked) (map : Map) (leaves : Bool) (b : Board) → ((h : ℕ) → h < asked.size.harts → KeepsSure map leaves h b) → (e : Event) → IsOne asked e → Keeps map e b × ReadsKept leaves e b
keeps_sure asked map leaves b keeps (Turn h) one = keeps h one.0
keeps_sure asked map leaves b keeps (Refused h down) one = ((keeps h one.0).0, reads_refused leaves h down b (keeps h one.0).1)
keeps_sure asked map leaves b keeps Wake one = (tt, reads_wake leaves b)
keeps_sure asked map leaves b keeps Cut one = (tt, reads_cut leaves b)
keeps_sure asked map leaves b keeps PowerOn one = (tt, reads_power_on leaves b)
