-- A local turn of a hart, and a turn of another: what the other touches, and the two in either order.
use Rattle.std.proofs.Common.{ℕ, Bool, IsTrue, List, ◌≡◌, ◌≢◌, ◌+◌, ◌/◌, ◌<◌, ◌≤◌, slice_index, refl, sym, ap, ◌∙◌, subst, inl, Option, None}
use Rattle.std.proofs.lemmas.List.{get_or-set_other, set_comm, length-set, ext_get_or}
use Rattle.board_model.specs.Shapes.{Size}
use Rattle.hart.{specs.{State.{ArchState, never_started}, declared.Outcome.TheVariants.Next}, proofs.Decided.{unless, same_number}}
use Rattle.hsm.specs.{States.HartState, Views.listed}
use Rattle.sbi_calls.specs.declared.words.Turned.{Turned}
use Rattle.turns.specs.Turns.{Moment, moment, has_pending, TurnOf}
use Rattle.susp.specs.{Dozes.doze_of, declared.buses.Doze.Doze}
use Rattle.machine.specs.{Machine.{Machine, hart_at}, Turns.{moment_of, with_moment, DoneBy, TurnBy, MakesTurn}}
use Rattle.model_board.{specs.{Held.with_hart, Touches.{word_of, Fetches}}, proofs.Words.{SameWord, Merges, merges_back}}
use Rattle.model_board.specs.Maps.{Map, pending_at, StepKeeps, KeepsMap, HearsNone, StepsAlone, MovesAlone, moved}
use Rattle.model_board.proofs.{Frames.step_long, Turned.{Fits, Turns, turn_moves}}
use Rattle.model_board.proofs.Steps.{Agrees, reads_in, writes_in, sends_in, OthersChange, alone_pending, alone_memory, alone_changes, none_called}

pub beside : (g h : ℕ) (t : ArchState) (n : List ℕ) (m : Machine) → g ≢ h → hart_at (moved h t n m) g ≡ hart_at m g
beside g h t n m ne = get_or-set_other m.harts h g t (never_started g) ne

-- ---- what a hart may touch by the map, another's local step left alone
pub read_stays : (map : Map) (g h : ℕ) (p : Bool) (s t : ArchState) (m n : List ℕ) (k : ℕ) → g ≢ h → StepsAlone map h p s m t n → IsTrue (map.reads g k) → SameWord m n k
read_stays map g h p s t m n k ne x may j at =
    unless (same_number (slice_index n j) (slice_index m j)) (λ d. alone_changes map h p s t m n j x d (λ reads writes. reads g ne (subst (λ (i : ℕ). IsTrue (map.reads g i)) (sym at) may)))

pub write_stays : (map : Map) (g h : ℕ) (p : Bool) (s t : ArchState) (m n : List ℕ) (k : ℕ) → g ≢ h → StepsAlone map h p s m t n → IsTrue (map.writes g k) → SameWord m n k
write_stays map g h p s t m n k ne x may j at =
    unless (same_number (slice_index n j) (slice_index m j)) (λ d. alone_changes map h p s t m n j x d (λ reads writes. writes g ne (subst (λ (i : ℕ). IsTrue (map.writes g i)) (sym at) may)))

-- a step that keeps the map after a local one of another hart keeps it before
step_before : (map : Map) (g h : ℕ) (size : Size) (p q : Bool) (s u t : ArchState) (m n : List ℕ) → g ≢ h → StepsAlone map h q u m t n → StepKeeps map g size p s n → StepKeeps map g size p s m
step_before map g h size p q s u t m n ne alone keeps =
    let long = step_long q u t m n Next alone.step in
    let agrees : Agrees p s m n = record {
      long = long;
      fetch = λ f.
          let there : Fetches p s n = record { calm = f.calm; aligned = f.aligned; inside = (f.inside.0, subst (λ (len : ℕ). s.pc + 4 ≤ 0x80000000 + len) (sym long) f.inside.1) } in
          read_stays map g h q u t m n (word_of s.pc) ne alone (keeps.reads (word_of s.pc) (inl (there, refl)));
    } in
    record {
      reads = λ k x. keeps.reads k (reads_in p s m n k agrees x);
      writes = λ k x. keeps.writes k (writes_in p s m n k agrees x);
      sends = λ k x. keeps.sends k (sends_in size p s m n k agrees x);
    }

pub keeps_before : (map : Map) (g h : ℕ) (m : Machine) (t : ArchState) (n : List ℕ) → g ≢ h → MovesAlone map h m t n → KeepsMap map g (moved h t n m) → KeepsMap map g m
keeps_before map g h m t n ne local keeps =
    let e = beside g h t n m ne in
    record {
      numbered = ap (λ (u : ArchState). u.id) (sym e) ∙ keeps.numbered;
      step = λ at.
          step_before map g h m.size (pending_at g m) (pending_at h m) (hart_at m g) (hart_at m h) t m.memory n ne local.alone
          (subst (λ (u : ArchState). StepKeeps map g m.size (has_pending u.id m.table.pairs) u n) e (keeps.step (ap (λ (u : ArchState). listed m.table.states u.id) e ∙ at)));
    }

-- and so does the local turn itself
pub keeps_own : (map : Map) (h : ℕ) (m : Machine) (t : ArchState) (n : List ℕ) → MovesAlone map h m t n → KeepsMap map h m
keeps_own map h m t n local = record {
  numbered = local.numbered;
  step = λ at. record {
    reads = λ k x. (local.alone.reads k x).0;
    writes = λ k x. (local.alone.writes k x).0;
    sends = λ k x. absurd (none_called _ _ t m.memory n local.alone.step x.comes);
  };
}

-- ---- the other's turn, before and after
-- the turn of hart g makes o of m, and o with the local turn of hart h of m with it
pub record Swaps (map : Map) (g h : ℕ) (m o : Machine) (t : ArchState) (n : List ℕ) (word : Turned) : Type 0 where
  pub memory : List ℕ
  pub makes : MakesTurn g (moved h t n m) (moved h t memory o) word
  pub local : MovesAlone map h o t memory

awake_turn : (g : ℕ) (m o : Machine) (word : Turned) → m.doze ≡ None → MakesTurn g m o word → DoneBy (λ a b. TurnOf m.size a b word) g m o
awake_turn g m o word awake x = subst (λ (d : Option Doze). TurnBy (doze_of g d) g m o word) awake x

pub turn_awake : (g : ℕ) (m o : Machine) (word : Turned) → m.doze ≡ None → DoneBy (λ a b. TurnOf m.size a b word) g m o → MakesTurn g m o word
turn_awake g m o word awake x = subst (λ (d : Option Doze). TurnBy (doze_of g d) g m o word) (sym awake) x

abbrev pub state_of : ℕ → Machine → HartState
state_of g m = listed m.table.states (hart_at m g).id

swaps_after : (map : Map) (g h : ℕ) (m : Machine) (a : Moment) (t : ArchState) (n : List ℕ) (word : Turned) → g ≢ h → MovesAlone map h m t n → KeepsMap map g m → Turns m.size (hart_at m h).id (state_of g m) (moment_of g m) a n word → Swaps map g h m (with_moment g m a) t n word
swaps_after map g h m a t n word ne local keeps x =
    let s : ArchState = hart_at m h in
    let r : List ℕ = x.memory in
    let long = step_long _ s t m.memory n Next local.alone.step in
    let others : OthersChange map h m.memory a.memory = λ j d own. x.changes j d (λ w. own g ne ((keeps.step w.0).writes (j / 8) w.1)) in
    let apart : (j : ℕ) → (slice_index a.memory j ≡ slice_index m.memory j → ⊥) → slice_index n j ≡ slice_index m.memory j =
    λ j d. unless (same_number (slice_index n j) (slice_index m.memory j)) (λ f. alone_changes map h _ s t m.memory n j local.alone f (λ reads writes. others j d writes)) in
    let back : Merges m.memory n a.memory r = merges_back m.memory a.memory n r (x.long ∙ sym long) apart x.merges in
    let told : HearsNone map h → has_pending s.id a.table.pairs ≡ has_pending s.id m.table.pairs =
    λ hears. x.leaves.same (λ sent. hears g ne (subst (λ (k : ℕ). IsTrue (map.sends g k)) local.numbered ((keeps.step sent.0).sends s.id sent.1))) in
    let step = alone_memory map h (has_pending s.id a.table.pairs) s t m.memory n a.memory r x.long back others (alone_pending map h (pending_at h m) (has_pending s.id a.table.pairs) s t m.memory n x.leaves.more told local.alone) in
    let here : hart_at (with_moment g m a) h ≡ s = get_or-set_other m.harts g h a.hart (never_started h) (λ e. ne (sym e)) in
    record {
      memory = r;
      makes = turn_awake g (moved h t n m) (moved h t r (with_moment g m a)) word local.awake (
        moment a.table a.hart r,
        subst (λ (u : ArchState). TurnOf m.size (moment m.table u n) (moment a.table a.hart r) word) (sym (beside g h t n m ne)) x.makes,
        ap (λ (hs : List ArchState). record { size = m.size; memory = r; doze = m.doze; harts = hs; table = a.table }) (set_comm m.harts g h a.hart t ne),
      );
      local = record {
        numbered = ap (λ (u : ArchState). u.id) here ∙ local.numbered;
        known = subst (λ (k : ℕ). h < k) (sym (length-set m.harts g a.hart)) local.known;
        counted = local.counted;
        awake = local.awake;
        runs = ap (λ (u : ArchState). listed a.table.states u.id) here ∙ x.leaves.runs;
        alone = subst (λ (u : ArchState). StepsAlone map h (has_pending u.id a.table.pairs) u a.memory t r) (sym here) step;
        changes = λ e f.
            local.changes (e ∙ here) (ext_get_or 0 n m.memory long (λ j low.
            unless (same_number (slice_index n j) (slice_index m.memory j)) (λ d.
            let same : slice_index a.memory j ≡ slice_index m.memory j = unless (same_number (slice_index a.memory j) (slice_index m.memory j)) (λ c. d (apart j c)) in
            d (sym (back.new j d) ∙ (ap (λ (b : List ℕ). slice_index b j) f ∙ same)))));
      };
    }

pub swaps : (map : Map) (g h : ℕ) (m o : Machine) (t : ArchState) (n : List ℕ) (word : Turned) → g ≢ h → MovesAlone map h m t n → KeepsMap map g m → MakesTurn g m o word → Swaps map g h m o t n word
swaps map g h m o t n word ne local keeps x =
    let done = awake_turn g m o word local.awake x in
    let long = step_long _ (hart_at m h) t m.memory n Next local.alone.step in
    let fits : Fits (state_of g m) (moment_of g m) n = record {
      long = long;
      reads = λ at k rd. read_stays map g h _ _ t m.memory n k ne local.alone ((keeps.step at).reads k rd);
      writes = λ at k w. write_stays map g h _ _ t m.memory n k ne local.alone ((keeps.step at).writes k w);
    } in
    let other : (hart_at m h).id ≢ (hart_at m g).id = λ e. ne (sym keeps.numbered ∙ (sym e ∙ local.numbered)) in
    let turn = turn_moves m.size (hart_at m h).id (state_of g m) (moment_of g m) done.0 n word other local.runs fits done.1 in
    subst (λ (k : Machine). Swaps map g h m k t n word) (sym done.2) (swaps_after map g h m done.0 t n word ne local keeps turn)

-- a hart beside it that is given an answer
pub beside_hart : (map : Map) (g h : ℕ) (m : Machine) (z t : ArchState) (n : List ℕ) → g ≢ h → MovesAlone map h m t n → MovesAlone map h (with_hart g m z) t n
beside_hart map g h m z t n ne local =
    let here : hart_at (with_hart g m z) h ≡ hart_at m h = get_or-set_other m.harts g h z (never_started h) (λ e. ne (sym e)) in
    record {
      numbered = ap (λ (u : ArchState). u.id) here ∙ local.numbered;
      known = subst (λ (k : ℕ). h < k) (sym (length-set m.harts g z)) local.known;
      counted = local.counted;
      awake = local.awake;
      runs = ap (λ (u : ArchState). listed m.table.states u.id) here ∙ local.runs;
      alone = subst (λ (u : ArchState). StepsAlone map h (has_pending u.id m.table.pairs) u m.memory t n) (sym here) local.alone;
      changes = λ e f. local.changes (e ∙ here) f;
    }

pub hart_moved : (g h : ℕ) (m : Machine) (z t : ArchState) (n : List ℕ) → g ≢ h → with_hart g (moved h t n m) z ≡ moved h t n (with_hart g m z)
hart_moved g h m z t n ne =
    ap (λ (hs : List ArchState). record { size = m.size; memory = n; doze = m.doze; harts = hs; table = m.table }) (set_comm m.harts h g t z (λ e. ne (sym e)))
