-- What is known of a board holds of each for which it stands.
use Rattle.std.{proofs.Common.{◌≡◌, ◌<◌, ℕ, zero, suc, Bool, true, false, List, [], refl, sym, ap, ◌∙◌, subst}, specs.Prelude.slice_range}
use Rattle.board_model.specs.Shapes.{Size}
use Rattle.model_board.specs.{Boards.{Board, Life, On, Off, Ended}, Events.{Event, Turn, TurnOn, Does}, Maps.{Map, Keeps, Local}}
use Rattle.model_board.specs.{LeftOut.{IsLeftOut, StandsFor, ReadsNone, AreProbed}, Plain.status_of}
use Rattle.model_board.proofs.Filling.{stands_on, life_for, off_filled, ended_filled}
use Rattle.model_board.specs.declared.powers.Status.TheVariants as statuses
use Rattle.state_space.specs.{Orders.Chain, Systems.{Stay, IsExpanded}}
use Rattle.board_space.specs.{Covering.StandsAll, OneBoard.one_board, Rows.Stands, Shown.Shows, declared.outcomes.Outcome.Outcome}
use Rattle.board_space.specs.{declared.{outcomes.Outcome.TheVariants.{Rests, Ends}, board_rows.BoardRows.BoardRows}, Standing.Standing}
use Rattle.board_space.specs.Space.{Asked, IsFor, IsLocalTurn, IsSureTurn, ReadsKept, Settles, SettlesSure, board_rules, sure_rules}

pub for_self : (leaves : Bool) (b : Board) → IsFor leaves b b
for_self true b = (0, refl)
for_self false b = refl

pub for_on : (leaves : Bool) (b c d : Board) → IsFor leaves b c → IsFor leaves c d → IsFor leaves b d
for_on true b c d first later = stands_on b c d first later
for_on false b c d first later = later ∙ first

pub for_stands : (leaves : Bool) (b c : Board) → IsFor leaves b c → StandsFor b c
for_stands true b c is = is
for_stands false b c is = (0, is)

module _ (law : Standing) where
  for_event : (leaves : Bool) (payload : List ℕ) (size : Size) (e : Event) (b c d : Board) → IsFor leaves b d → ReadsKept leaves e b → Does payload size e b c → (f : Board) × Does payload size e d f × IsFor leaves c f
  for_event true payload size e b c d is none did = law.event payload size is.0 e b c d is.1 none did
  for_event false payload size e b c d is none did =
      (c, subst (λ (a : Board). Does payload size e a c) (sym is) did, refl)

  for_back : (leaves : Bool) (payload : List ℕ) (size : Size) (e : Event) (b d f : Board) → IsFor leaves b d → ReadsKept leaves e b → Does payload size e d f → (c : Board) × Does payload size e b c × IsFor leaves c f
  for_back true payload size e b d f is none did = law.back payload size is.0 e b d f is.1 none did
  for_back false payload size e b d f is none did =
      (f, subst (λ (a : Board). Does payload size e a f) is did, refl)

  for_keeps : (leaves : Bool) (map : Map) (e : Event) (b d : Board) → IsFor leaves b d → ReadsKept leaves e b → Keeps map e b → Keeps map e d
  for_keeps true map e b d is none keeps = law.keeps map is.0 e b d is.1 none keeps
  for_keeps false map e b d is none keeps = subst (λ (a : Board). Keeps map e a) (sym is) keeps

  for_turn : (leaves : Bool) (size : Size) (map : Map) (h : ℕ) (b c d : Board) → IsFor leaves b d → IsSureTurn size map leaves h b c → (f : Board) × IsLocalTurn size map h d f × IsFor leaves c f
  for_turn true size map h b c d is turn =
      let on = law.local map is.0 h b c d is.1 turn.1 turn.2 turn.0.1 in
      (on.0, (turn.0.0, on.1), on.2)
  for_turn false size map h b c d is turn =
      (c, (turn.0.0, subst (λ (a : Board). Local map h a c) (sym is) turn.0.1), refl)

  for_chain : (leaves : Bool) (size : Size) (map : Map) (n : ℕ) (b c d : Board) → IsFor leaves b d → Chain (IsSureTurn size map leaves) n b c → (f : Board) × Chain (IsLocalTurn size map) n d f × IsFor leaves c f
  for_chain leaves size map zero b c d is chain =
      (d, refl, subst (λ (a : Board). IsFor leaves a d) (sym chain) is)
  for_chain leaves size map (suc n) b c d is chain =
      let first = for_turn leaves size map chain.0 b chain.1 d is chain.2 in
      let rest = for_chain leaves size map n chain.1 c first.0 first.2 chain.3 in
      (rest.0, (chain.0, first.0, first.1, rest.1), rest.2)

  for_settles : (leaves : Bool) (size : Size) (map : Map) (b c d : Board) → IsFor leaves b d → SettlesSure size map leaves b c → (f : Board) × Settles size map d f × IsFor leaves c f
  for_settles leaves size map b c d is settles =
      let on = for_chain leaves size map settles.0 b c d is settles.1 in
      (on.0, (settles.0, on.1), on.2)

  all_on : (leaves : Bool) (rows : BoardRows) (row : List ℕ) (c f : Board) → IsFor leaves c f → StandsAll leaves rows row c → StandsAll leaves rows row f
  all_on leaves rows row c f is stands = (stands.0, stands.1, for_on leaves stands.0 c f stands.2 is)

  -- the successors of a board are those of each for which it stands
  pub expanded_for : (asked : Asked) (map : Map) (leaves : Bool) (rows : BoardRows) (count : ℕ) (event : ℕ → ℕ) (row : ℕ → List ℕ) (b d : Board) → IsFor leaves b d → IsExpanded (sure_rules asked map leaves) (StandsAll leaves rows) count event row b → IsExpanded (board_rules asked map) (StandsAll leaves rows) count event row d
  expanded_for asked map leaves rows count event row b d is old = record {
    keeps = λ e one. let keeps = old.keeps e one in for_keeps leaves map e b d is keeps.1 keeps.0;
    complete = λ e mid step.
        let one = step.2.0 in
        let before = for_back leaves asked.payload asked.size step.0 b d mid is (old.keeps step.0 one).1 step.2.1 in
        let was = old.complete e before.0 (step.0, step.1, (one, before.1)) in
        let to = for_settles leaves asked.size map before.0 was.1 mid before.2 was.4 in
        (was.0, to.0, was.2, was.3, to.1, all_on leaves rows (row was.0) was.1 to.0 to.2 was.5);
    sound = λ i lt.
        let was = old.sound i lt in
        let step = was.1.1 in
        let one = step.2.0 in
        let after = for_event leaves asked.payload asked.size step.0 b was.1.0 d is (old.keeps step.0 one).1 step.2.1 in
        let to = for_settles leaves asked.size map was.1.0 was.0 after.0 after.2 was.1.2 in
        (to.0, (after.0, (step.0, step.1, (one, after.1)), to.1), all_on leaves rows (row i) was.0 to.0 to.2 was.2);
  }

  -- ---- at rest
  pub rest_for : (leaves : Bool) (payload : List ℕ) (size : Size) (h : ℕ) (b d : Board) → IsFor leaves b d → ReadsKept leaves (Turn h) b → (leaves ≡ true → AreProbed h b) → TurnOn h b b → TurnOn h d d
  rest_for true payload size h b d is none probes rests = law.rests payload size is.0 h b d is.1 none (probes refl) rests
  rest_for false payload size h b d is none probes rests = subst (λ (a : Board). TurnOn h a a) (sym is) rests

  -- a turn changes each board for which one stands, where it leads from that to one that can't stand for any of them
  pub change_for : (leaves : Bool) (h : ℕ) (b c d : Board) → IsFor leaves b d → ReadsKept leaves (Turn h) b → TurnOn h b c → ((a : Board) → StandsFor b a → StandsFor c a → ⊥) → ((f : Board) → TurnOn h d f → f ≡ d) → ⊥
  change_for leaves h b c d is none did differs rests =
      let on = for_event leaves [] no_size (Turn h) b c d is none did in
      differs d (for_stands leaves b d is) (for_stands leaves c d (subst (λ (a : Board). IsFor leaves c a) (rests on.0 on.1) on.2))
    where
      no_size : Size
      no_size = record { harts = 0; pages = 0; lanes = 0 }

-- ---- whether it is on
pub on_for : (leaves : Bool) (l : Life) (d : Board) → IsFor leaves (On l) d → (k : Life) × (d ≡ On k) × (k.machine.doze ≡ l.machine.doze) × (k.machine.size ≡ l.machine.size)
on_for true l d is =
    let on = life_for is.0 l d is.1 in
    (on.0, on.1, ap (λ (k : Life). k.machine.doze) on.2.same, ap (λ (k : Life). k.machine.size) on.2.same)
on_for false l d is = (l, is, refl, refl)

pub same_off : (leaves : Bool) (b d : Board) → statuses.Off ≡ status_of b → IsFor leaves b d → d ≡ b
same_off leaves (On l) d is stands = absurd (cc)
same_off true (Off s) d is stands = off_filled stands.0 s d stands.1
same_off false (Off s) d is stands = stands
same_off leaves (Ended s) d is stands = absurd (cc)

pub same_ended : (leaves : Bool) (b d : Board) → statuses.Ended ≡ status_of b → IsFor leaves b d → d ≡ b
same_ended leaves (On l) d is stands = absurd (cc)
same_ended leaves (Off s) d is stands = absurd (cc)
same_ended true (Ended s) d is stands = ended_filled stands.0 s d stands.1
same_ended false (Ended s) d is stands = stands

-- ---- rows
pub all_stays : (leaves : Bool) (old new : BoardRows) → ((r : List ℕ) (b : Board) → Stands old r b → Stands new r b) → Stay (StandsAll leaves old) (StandsAll leaves new)
all_stays leaves old new stays r x y has = (
  λ at. (at.0, stays r at.0 at.1, at.2),
  λ at.
      let same : has.0 ≡ at.0 = one_board new r has.0 at.0 (stays r has.0 has.1) at.1 in
      (at.0, subst (λ (n : Board). Stands old r n) same has.1, at.2),
)

-- ---- local turns that are sure are local turns
sure_chain : (size : Size) (map : Map) (leaves : Bool) (n : ℕ) (b c : Board) → Chain (IsSureTurn size map leaves) n b c → Chain (IsLocalTurn size map) n b c
sure_chain size map leaves zero b c chain = chain
sure_chain size map leaves (suc n) b c chain =
    (chain.0, chain.1, chain.2.0, sure_chain size map leaves n chain.1 c chain.3)

pub sure_settles : (size : Size) (map : Map) (b c : Board) → SettlesSure size map false b c → Settles size map b c
sure_settles size map b c settles = (settles.0, sure_chain size map false settles.0 b c settles.1)

-- ---- what a board shows
pub shows_for : (leaves : Bool) (from to : ℕ) (outcome : Outcome) (b d : Board) → IsFor leaves b d → Shows from to outcome b → Shows from to outcome d
shows_for true from to (Rests bytes) (On l) d is shows =
    let on = life_for is.0 l d is.1 in
    subst (λ (a : Board). Shows from to (Rests bytes) a) (sym on.1) (ap (λ (k : Life). slice_range k.machine.memory from to) on.2.same ∙ shows)
shows_for true from to (Ends why) (On l) d is shows = absurd shows
shows_for true from to outcome (Off s) d is shows =
    subst (λ (a : Board). Shows from to outcome a) (sym (off_filled is.0 s d is.1)) shows
shows_for true from to outcome (Ended s) d is shows =
    subst (λ (a : Board). Shows from to outcome a) (sym (ended_filled is.0 s d is.1)) shows
shows_for false from to outcome b d is shows = subst (λ (a : Board). Shows from to outcome a) (sym is) shows

-- where nothing is left out, a row stands for the board alone that it tells
pub exact_stands : (leaves : Bool) (rows : BoardRows) (row : List ℕ) (b : Board) → leaves ≡ false → StandsAll leaves rows row b → Stands rows row b
exact_stands true rows row b is stands = absurd (cc)
exact_stands false rows row b is stands = subst (λ (a : Board). Stands rows row a) (sym stands.2) stands.1

pub reads_none : (leaves : Bool) (e : Event) (b : Board) → leaves ≡ true → ReadsNone e b → ReadsKept leaves e b
reads_none true e b is none = none
reads_none false e b is none = absurd (cc)

pub reads_any : (leaves : Bool) (e : Event) (b : Board) → leaves ≡ false → ReadsKept leaves e b
reads_any true e b is = absurd (cc)
reads_any false e b is = tt

pub left_small : (h k : ℕ) (b : Board) → IsLeftOut h k b → k < 32
left_small h k (On l) left = left.1
left_small h k (Off s) left = absurd left
left_small h k (Ended s) left = absurd left

pub stay_by : (leaves later : Bool) (old new : BoardRows) → later ≡ leaves → ((r : List ℕ) (b : Board) → Stands old r b → Stands new r b) → Stay (StandsAll leaves old) (StandsAll later new)
stay_by leaves later old new is stays =
    subst (λ (l : Bool). Stay (StandsAll leaves old) (StandsAll l new)) (sym is) (all_stays leaves old new stays)
