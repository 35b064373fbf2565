-- What crate model_board proves of local turns, as one fact.
use Rattle.std.specs.Prelude.{◌≡◌, ◌⊎◌, ℕ, List}
use Rattle.board_model.specs.Shapes.{Size}
use Rattle.model_board.specs.Boards.{Board}
use Rattle.model_board.specs.Events.{Event, Turn, Does, IsEnd, IsOff}
use Rattle.model_board.specs.Maps.{Map, Keeps, Local}

pub record Moving : Type 0 where
  pub turns : (payload : List ℕ) (size : Size) (map : Map) (h : ℕ) (b b' : Board) → Local map h b b' → Does payload size (Turn h) b b'
  pub one : (payload : List ℕ) (size : Size) (map : Map) (h : ℕ) (b b' c : Board) → Local map h b b' → Does payload size (Turn h) b c → c ≡ b'
  pub moves : (map : Map) (h : ℕ) (b b' : Board) → Local map h b b' → IsEnd b → ⊥
  pub decides : (h : ℕ) (e : Event) → (e ≡ Turn h) ⊎ (e ≡ Turn h → ⊥)
  pub keeps_back : (map : Map) (h : ℕ) (e : Event) (b b' : Board) → Local map h b b' → Keeps map e b' → Keeps map e b
  pub keeps_own : (map : Map) (h : ℕ) (b b' : Board) → Local map h b b' → Keeps map (Turn h) b
  pub swaps : (payload : List ℕ) (size : Size) (map : Map) (h : ℕ) (e : Event) (b b' c : Board) → Local map h b b' → (e ≡ Turn h → ⊥) → Keeps map e b' → Does payload size e b c → (Does payload size e b' c × IsOff c) ⊎ ((c' : Board) × Does payload size e b' c' × Local map h c c')
