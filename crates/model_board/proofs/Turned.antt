-- A turn of another hart, on the memory that a step of this one left.
use Rattle.std.proofs.Common.{ℕ, Bool, true, false, List, ◌≡◌, ◌≢◌, ◌/◌, length, slice_index, refl, sym, ◌∙◌, subst, inl, inr}
use Rattle.std.specs.Prelude.{Ok}
use Rattle.board_model.specs.Shapes.{Size}
use Rattle.hart.{specs.{State.ArchState, Means.Steps, declared.Outcome.Outcome}, proofs.{Decided.{IsDecided, unless}, Numbered.step_keeps}}
use Rattle.hart.specs.declared.Outcome.TheVariants as outcomes
use Rattle.hsm.specs.{States.{HartState, stopped, start_pending, started, suspended}, Views.listed}
use Rattle.sbi_abi.specs.Calls.{call_of}
use Rattle.sbi_calls.specs.{Requests.request_of, declared.requests.Request.TheVariants.Send, Both.TableState, Answers.{row, with_state}}
use Rattle.sbi_calls.specs.declared.words.Turned.{Turned}
use Rattle.turns.specs.Turns.{Moment, moment, begun_by, woken_turn, has_pending, after_take, Finishes, TurnAs}
use Rattle.model_board.{specs.Touches.{ReadsWord, WritesWord, SendsTo}, proofs.{Words.{SameWord, Merges, merged, merges}, Steps.step_calls}}
use Rattle.model_board.proofs.Frames.{Moves, step_moves, step_changes, step_long}
use Rattle.model_board.proofs.Stays.{Leaves, leaves, state_leaves, take_leaves, row_leaves}

same_bool : (a b : Bool) → IsDecided (a ≡ b)
same_bool true true = inl refl
same_bool true false = inr (λ e. cc)
same_bool false true = inr (λ e. cc)
same_bool false false = inl refl

leaves_then : (h : ℕ) (x y z : TableState) (P : Type 0) → Leaves h x y P → Leaves h y z P → Leaves h x z P
leaves_then h x y z P a b =
    record { runs = b.runs; more = λ p. b.more (a.more p); same = λ none. b.same none ∙ a.same none }

-- ---- what it leaves of the tables
pub finish_leaves : (size : Size) (o : Outcome) (h : ℕ) (x y : TableState) (p : Bool) (s u v : ArchState) (m l : List ℕ) (word : Turned) → h ≢ s.id → listed x.states h ≡ started → Steps p s m u l o → Finishes size o x u y v word → Leaves h x y (SendsTo size p s m h)
finish_leaves size outcomes.Next h x y p s u v m l word other runs step f =
    subst (λ (z : TableState). Leaves h x z (SendsTo size p s m h)) (sym f.0) (leaves h x (SendsTo size p s m h) runs)
finish_leaves size outcomes.TakePending h x y p s u v m l word other runs step f =
    subst (λ (z : TableState). Leaves h x z (SendsTo size p s m h)) (sym f.0) (take_leaves h u.id x (SendsTo size p s m h) (λ e. other (e ∙ step_keeps p s u m l outcomes.TakePending step)) runs)
finish_leaves size outcomes.Ecall h x y p s u v m l word other runs step f =
    let left = row_leaves h u.id (request_of size (call_of u)) x (λ e. other (e ∙ step_keeps p s u m l outcomes.Ecall step)) runs in
    subst (λ (z : TableState). Leaves h x z (SendsTo size p s m h)) (sym f.1) (record {
      runs = left.runs;
      more = left.more;
      same = λ none. unless
          (same_bool (has_pending h (row u.id (request_of size (call_of u)) x).table.pairs) (has_pending h x.pairs))
          (λ differ. step_calls p s u m l step
          (λ at. differ (left.same (λ sent. none (record {
            comes = at.comes;
            targets = sent.0;
            asks = subst (λ (q : ArchState). request_of size (call_of q) ≡ Ok (Send sent.0)) at.same sent.1;
            named = sent.2;
          })))));
    })

-- ---- a whole turn
abbrev pub pending_in : Moment → Bool
pending_in a = has_pending a.hart.id a.table.pairs

-- the memory n agrees with that of the moment on what its hart's step touches
pub record Fits (state : HartState) (a : Moment) (n : List ℕ) : Type 0 where
  pub long : length n ≡ length a.memory
  pub reads : state ≡ started → (k : ℕ) → ReadsWord (pending_in a) a.hart a.memory k → SameWord a.memory n k
  pub writes : state ≡ started → (k : ℕ) → WritesWord (pending_in a) a.hart a.memory k → SameWord a.memory n k

-- the same turn on the memory n, which then has the turn's changes, and what the turn leaves of the hart h; state is that
-- of the hart that makes it
pub record Turns (size : Size) (h : ℕ) (state : HartState) (a b : Moment) (n : List ℕ) (word : Turned) : Type 0 where
  pub memory : List ℕ
  pub merges : Merges a.memory b.memory n memory
  pub long : length b.memory ≡ length a.memory
  pub makes : TurnAs size (begun_by a.hart.id a.table state).ready (begun_by a.hart.id a.table state).table (moment a.table a.hart n) (moment b.table b.hart memory) word
  pub leaves : Leaves h a.table b.table ((state ≡ started) × SendsTo size (pending_in a) a.hart a.memory h)
  pub changes : (j : ℕ) → (slice_index b.memory j ≡ slice_index a.memory j → ⊥) → ((state ≡ started) × WritesWord (pending_in a) a.hart a.memory (j / 8) → ⊥) → ⊥

nothing_new : (m n : List ℕ) → Merges m m n n
nothing_new m n = record { long = refl; kept = λ j e. refl; new = λ j d. absurd (d refl) }

woken_turns : (size : Size) (h : ℕ) (woken : Bool) (a b : Moment) (n : List ℕ) (word : Turned) → h ≢ a.hart.id → listed a.table.states h ≡ started → has_pending a.hart.id a.table.pairs ≡ woken → TurnAs size (woken_turn woken a.hart.id a.table).ready (woken_turn woken a.hart.id a.table).table a b word → Turns size h suspended a b n word
woken_turns size h true a b n word other runs is x =
    let x' : TableState = with_state a.table a.hart.id started in
    subst (λ (c : Moment). Turns size h suspended a c n word) (sym x.0) (record {
      memory = n;
      merges = nothing_new a.memory n;
      long = refl;
      makes = subst (λ (w : Bool). TurnAs size (woken_turn w a.hart.id a.table).ready (woken_turn w a.hart.id a.table).table (moment a.table a.hart n) (moment x' a.hart n) word) (sym is) (refl, x.1);
      leaves = state_leaves h a.hart.id a.table started _ other runs;
      changes = λ j d never. d refl;
    })
woken_turns size h false a b n word other runs is x =
    subst (λ (c : Moment). Turns size h suspended a c n word) (sym x.0) (record {
      memory = n;
      merges = nothing_new a.memory n;
      long = refl;
      makes = subst (λ (w : Bool). TurnAs size (woken_turn w a.hart.id a.table).ready (woken_turn w a.hart.id a.table).table (moment a.table a.hart n) (moment a.table a.hart n) word) (sym is) (refl, x.1);
      leaves = leaves h a.table _ runs;
      changes = λ j d never. d refl;
    })

pub turn_moves : (size : Size) (h : ℕ) (state : HartState) (a b : Moment) (n : List ℕ) (word : Turned) → h ≢ a.hart.id → listed a.table.states h ≡ started → Fits state a n → TurnAs size (begun_by a.hart.id a.table state).ready (begun_by a.hart.id a.table state).table a b word → Turns size h state a b n word
turn_moves size h stopped a b n word other runs fits x =
    subst (λ (c : Moment). Turns size h stopped a c n word) (sym x.0) (record {
      memory = n;
      merges = nothing_new a.memory n;
      long = refl;
      makes = (refl, x.1);
      leaves = leaves h a.table _ runs;
      changes = λ j d never. d refl;
    })
turn_moves size h (start_pending site opaque) a b n word other runs fits x =
    subst (λ (c : Moment). Turns size h (start_pending site opaque) a c n word) (sym x.0) (record {
      memory = n;
      merges = nothing_new a.memory n;
      long = refl;
      makes = (refl, x.1);
      leaves =
          let first = state_leaves h a.hart.id a.table started ((start_pending site opaque ≡ started) × SendsTo size (pending_in a) a.hart a.memory h) other runs in
          leaves_then h a.table (with_state a.table a.hart.id started) (after_take (with_state a.table a.hart.id started) a.hart.id) _ first
          (take_leaves h a.hart.id (with_state a.table a.hart.id started) _ other first.runs);
      changes = λ j d never. d refl;
    })
turn_moves size h started a b n word other runs fits x =
    let p : Bool = pending_in a in
    let long = step_long p a.hart x.0 a.memory b.memory x.1 x.2 in
    let both = merges a.memory b.memory n long fits.long in
    let moves : Moves p a.hart a.memory b.memory n (merged a.memory b.memory n) = record { long = fits.long; merges = both; reads = fits.reads refl; writes = fits.writes refl } in
    record {
      memory = merged a.memory b.memory n;
      merges = both;
      long = long;
      makes = (x.0, x.1, step_moves p a.hart x.0 a.memory b.memory n (merged a.memory b.memory n) x.1 moves x.2, x.3);
      leaves =
          let left = finish_leaves size x.1 h a.table b.table p a.hart x.0 b.hart a.memory b.memory word other runs x.2 x.3 in
          record { runs = left.runs; more = left.more; same = λ none. left.same (λ sent. none (refl, sent)) };
      changes = λ j d never. step_changes p a.hart x.0 a.memory b.memory x.1 j x.2 d (λ w. never (refl, w));
    }
turn_moves size h suspended a b n word other runs fits x =
    woken_turns size h (has_pending a.hart.id a.table.pairs) a b n word other runs refl x
