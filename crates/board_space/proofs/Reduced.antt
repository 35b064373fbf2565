-- The turns of the harts of a board, as `state_space` asks for them.
use Rattle.std.proofs.Common.{⊎_elim, inl, inr}
use Rattle.model_board.specs.{Events.{Turn, IsEnd}, Maps.Map}
use Rattle.state_space.specs.Orders.{Reduction}
use Rattle.board_space.specs.{Moving.Moving, Space.{Asked, Happens, KeepsEach, IsLocalTurn}}

pub reduced : Moving → (asked : Asked) (map : Map) → Reduction (Happens asked) Turn IsEnd (KeepsEach asked map) (IsLocalTurn asked.size map)
reduced moving asked map = record {
  turns = λ h b c is. ((is.0, tt), moving.turns asked.payload asked.size map h b c is.1);
  only = λ h b c d is did. moving.one asked.payload asked.size map h b c d is.1 did.1;
  own = λ h b c is one. moving.keeps_own map h b c is.1;
  moves = λ h b c is end. moving.moves map h b c is.1 end;
  decides = moving.decides;
  before = λ h e b c is other keeps one. moving.keeps_back map h e b c is.1 (keeps one);
  swaps = λ h e b c d is other keeps did.
      ⊎_elim
      (λ lost. inl (did.0, lost.0))
      (λ met. inr (met.0, (did.0, met.1), (is.0, met.2)))
      (moving.swaps asked.payload asked.size map h e b c d is.1 other (keeps did.0) did.1);
}
