-- What crate model_board proves of boards that stand for others.
use Rattle.std.specs.Prelude.{ℕ, List}
use Rattle.board_model.specs.Shapes.{Size}
use Rattle.model_board.specs.Boards.{Board}
use Rattle.model_board.specs.Events.{Event, Turn, TurnOn, Does}
use Rattle.model_board.specs.LeftOut.{Filled, StandsFor, ReadsNone, AreProbed}
use Rattle.model_board.specs.Maps.{Map, Keeps, Local}
use Rattle.model_board.specs.Registers.{MovesPc}

pub record Standing : Type 0 where
  pub event : (payload : List ℕ) (size : Size) (n : ℕ) (e : Event) (b c d : Board) → Filled n b d → ReadsNone e b → Does payload size e b c → (f : Board) × Does payload size e d f × StandsFor c f
  pub back : (payload : List ℕ) (size : Size) (n : ℕ) (e : Event) (b d f : Board) → Filled n b d → ReadsNone e b → Does payload size e d f → (c : Board) × Does payload size e b c × StandsFor c f
  pub keeps : (map : Map) (n : ℕ) (e : Event) (b d : Board) → Filled n b d → ReadsNone e b → Keeps map e b → Keeps map e d
  pub local : (map : Map) (n g : ℕ) (b c d : Board) → Filled n b d → ReadsNone (Turn g) b → MovesPc g b c → Local map g b c → (f : Board) × Local map g d f × StandsFor c f
  pub rests : (payload : List ℕ) (size : Size) (n g : ℕ) (b d : Board) → Filled n b d → ReadsNone (Turn g) b → AreProbed g b → TurnOn g b b → TurnOn g d d
