-- The successors of a board that are told so far.
use Rattle.std.specs.Prelude.{◌≡◌, ℕ, ◌+◌, Bool, ◌<◌, ◌≤◌, List}
use Rattle.model_board.specs.Boards.{Board}
use Rattle.model_board.specs.Events.{Event, Refused}
use Rattle.model_board.specs.Maps.{Map}
use Rattle.state_space.specs.Successors.{found_count, found_event, found_row}
use Rattle.state_space.specs.Systems.{Moves}
use Rattle.state_space.specs.declared.found.Successors.{Successors}
use Rattle.board_space.specs.Space.{Asked, Happens, number_of, SettlesSure, sure_rules}

-- what an event leads to from a board has settled to that of a successor
abbrev pub IsTold : Asked → Map → Bool → (List ℕ → Board → Type 0) → Successors → Board → Event → Board → Type 0
IsTold asked map leaves stands found b e mid =
    (i : ℕ) × (to : Board) × (i < found_count found) × (found_event found i ≡ number_of e) × SettlesSure asked.size map leaves mid to
    × stands (found_row found i) to

-- a successor is of a move of the board
abbrev pub IsMove : Asked → Map → Bool → (List ℕ → Board → Type 0) → Successors → Board → ℕ → Type 0
IsMove asked map leaves stands found b i =
    (to : Board) × Moves (sure_rules asked map leaves) (found_event found i) b to × stands (found_row found i) to

-- the events of the first numbers are told, and nothing else is
pub record AreTold (asked : Asked) (map : Map) (leaves : Bool) (stands : List ℕ → Board → Type 0) (found : Successors) (b : Board) (numbers : ℕ) : Type 0 where
  pub complete : (e : Event) (mid : Board) → number_of e < numbers → Happens asked e b mid → IsTold asked map leaves stands found b e mid
  pub sound : (i : ℕ) → i < found_count found → IsMove asked map leaves stands found b i

-- one event more is told
pub record IsTeller (asked : Asked) (map : Map) (leaves : Bool) (stands : List ℕ → Board → Type 0) (old new : Successors) (b : Board) (e : Event) : Type 0 where
  pub grown : found_count old ≤ found_count new
  pub events : (k : ℕ) → k < found_count old → found_event new k ≡ found_event old k
  pub rows : (k : ℕ) → k < found_count old → found_row new k ≡ found_row old k
  pub told : (mid : Board) → Happens asked e b mid → IsTold asked map leaves stands new b e mid
  pub sound : (i : ℕ) → found_count old ≤ i → i < found_count new → IsMove asked map leaves stands new b i

-- what a board has settled to is told by one successor more, under that number
pub record IsPushed (asked : Asked) (map : Map) (leaves : Bool) (stands : List ℕ → Board → Type 0) (old new : Successors) (mid : Board) (number : ℕ) : Type 0 where
  pub to : Board
  pub settles : SettlesSure asked.size map leaves mid to
  pub has : stands (found_row new (found_count old)) to
  pub counted : found_count new ≡ found_count old + 1
  pub event : found_event new (found_count old) ≡ number
  pub events : (k : ℕ) → k < found_count old → found_event new k ≡ found_event old k
  pub rows : (k : ℕ) → k < found_count old → found_row new k ≡ found_row old k

-- no refusal of the store that is asked for happens in the next turn of that hart
abbrev pub AsksNone : Asked → ℕ → Board → Type 0
AsksNone asked h b = (down : Bool) (c : Board) → Happens asked (Refused h down) b c → ⊥
