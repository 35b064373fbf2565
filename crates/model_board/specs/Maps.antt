-- A fixed map of which hart may read and write which word, and send an interrupt to which; turns that keep it, and turns
-- that are local by it.
use Rattle.std.specs.Prelude.{◌≡◌, ◌≢◌, ◌⊎◌, ℕ, ◌/◌, ◌<◌, Bool, IsTrue, List, None, length, slice_index, slice_set}
use Rattle.board_model.specs.Shapes.{Size}
use Rattle.hart.specs.State.{ArchState}
use Rattle.hart.specs.Means.{Steps}
use Rattle.hart.specs.declared.Outcome.TheVariants.{Next}
use Rattle.hsm.specs.States.{started}
use Rattle.hsm.specs.Views.{listed}
use Rattle.turns.specs.Turns.{has_pending}
use Rattle.machine.specs.Machine.{Machine, hart_at}
use Rattle.model_board.specs.Boards.{Life, Board, On, Off, Ended}
use Rattle.model_board.specs.Events.{Event, Turn, Refused, Wake, Cut, PowerOn}
use Rattle.model_board.specs.Touches.{ReadsWord, WritesWord, SendsTo, ReadsPending, IsOpen}

pub record Map : Type 0 where
  -- whether the hart may read, or write, the word of that number
  pub reads : ℕ → ℕ → Bool
  pub writes : ℕ → ℕ → Bool
  -- whether the first hart may send to the second
  pub sends : ℕ → ℕ → Bool

-- whether one is pending for hart h
abbrev pub pending_at : ℕ → Machine → Bool
pending_at h m = has_pending (hart_at m h).id m.table.pairs

-- ---- what keeps the map
-- what a step of hart h touches, it may by the map
pub record StepKeeps (map : Map) (h : ℕ) (size : Size) (p : Bool) (s : ArchState) (m : List ℕ) : Type 0 where
  pub reads : (k : ℕ) → ReadsWord p s m k → IsTrue (map.reads h k)
  pub writes : (k : ℕ) → WritesWord p s m k → IsTrue (map.writes h k)
  pub sends : (t : ℕ) → SendsTo size p s m t → IsTrue (map.sends h t)

-- the next turn of hart h of this machine keeps the map, and the hart has its number: only one that is STARTED steps
pub record KeepsMap (map : Map) (h : ℕ) (m : Machine) : Type 0 where
  pub numbered : (hart_at m h).id ≡ h
  pub step : listed m.table.states (hart_at m h).id ≡ started
      → StepKeeps map h m.size (pending_at h m) (hart_at m h) m.memory

abbrev pub TurnKeeps : Map → ℕ → Board → Type 0
TurnKeeps map h (On l) = KeepsMap map h l.machine
TurnKeeps map h (Off s) = Unit {0}
TurnKeeps map h (Ended s) = Unit {0}

abbrev pub Keeps : Map → Event → Board → Type 0
Keeps map (Turn h) b = TurnKeeps map h b
Keeps map (Refused h down) b = TurnKeeps map h b
Keeps map Wake b = Unit {0}
Keeps map Cut b = Unit {0}
Keeps map PowerOn b = Unit {0}

-- ---- local turns
-- no other hart may, by the map
abbrev pub WritesAlone : Map → ℕ → ℕ → Type 0
WritesAlone map h k = (g : ℕ) → g ≢ h → IsTrue (map.writes g k) → ⊥

abbrev pub ReadsAlone : Map → ℕ → ℕ → Type 0
ReadsAlone map h k = (g : ℕ) → g ≢ h → IsTrue (map.reads g k) → ⊥

abbrev pub HearsNone : Map → ℕ → Type 0
HearsNone map h = (g : ℕ) → g ≢ h → IsTrue (map.sends g h) → ⊥

-- What is asked of what is pending, no other hart changes: an interrupt is taken, which others can't take away; or
-- nothing is asked; or no other hart may send one.
abbrev pub IsSure : Map → ℕ → Bool → ArchState → List ℕ → Type 0
IsSure map h p s m = (IsTrue p × IsOpen s) ⊎ ((ReadsPending p s m → ⊥) ⊎ HearsNone map h)

-- the machine once its hart h stands so, and the memory is this
abbrev pub moved : ℕ → ArchState → List ℕ → Machine → Machine
moved h t n m = record m { memory = n; harts = slice_set m.harts h t }

-- A step that asks nothing of the firmware, and whose place no other hart's turn can change: what it reads no other hart
-- may write, and what it writes no other hart may read or write.
pub record StepsAlone (map : Map) (h : ℕ) (p : Bool) (s : ArchState) (m : List ℕ) (t : ArchState) (n : List ℕ)
    : Type 0 where
  pub step : Steps p s m t n Next
  pub reads : (k : ℕ) → ReadsWord p s m k → IsTrue (map.reads h k) × WritesAlone map h k
  pub writes : (k : ℕ) → WritesWord p s m k → IsTrue (map.writes h k) × ReadsAlone map h k × WritesAlone map h k
  pub sure : IsSure map h p s m

-- A turn of hart h is local: the hart is STARTED on a board that does not doze, makes such a step, and changes something.
-- It then is t, and the memory n.
pub record MovesAlone (map : Map) (h : ℕ) (m : Machine) (t : ArchState) (n : List ℕ) : Type 0 where
  pub numbered : (hart_at m h).id ≡ h
  pub known : h < length m.harts
  pub counted : h < m.size.harts
  pub awake : m.doze ≡ None
  pub runs : listed m.table.states (hart_at m h).id ≡ started
  pub alone : StepsAlone map h (pending_at h m) (hart_at m h) m.memory t n
  pub changes : t ≡ hart_at m h → n ≡ m.memory → ⊥

-- the machine is another after such a turn
abbrev pub MovesTo : Map → ℕ → Machine → Machine → Type 0
MovesTo map h m m' = (t : ArchState) × (n : List ℕ) × MovesAlone map h m t n × (m' ≡ moved h t n m)

abbrev pub IsLocal : Map → ℕ → Life → Life → Type 0
IsLocal map h l l' =
    (t : ArchState) × (n : List ℕ) × MovesAlone map h l.machine t n
    × (l' ≡ record l { machine = moved h t n l.machine })

abbrev pub Local : Map → ℕ → Board → Board → Type 0
Local map h (On l) (On l') = IsLocal map h l l'
Local map h (On l) (Off s) = ⊥
Local map h (On l) (Ended s) = ⊥
Local map h (Off s) b = ⊥
Local map h (Ended s) b = ⊥

-- ---- memory
-- the memory n is m but for words that some hart may write by the map
pub record SameOutside (map : Map) (m n : List ℕ) : Type 0 where
  pub long : length n ≡ length m
  pub same : (j : ℕ) → ((g : ℕ) → IsTrue (map.writes g (j / 8)) → ⊥) → slice_index n j ≡ slice_index m j
