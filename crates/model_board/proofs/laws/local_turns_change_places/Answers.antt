use Rattle.model_board.proofs.Swaps as swaps
use Rattle.model_board.proofs.laws.local_turns_change_places.Goals as goal

pub returns : goal.returns
returns c = record {
  turns = swaps.turns;
  one = swaps.one c.machine_determines_turn.ensures.turn;
  moves = swaps.moves;
  decides = swaps.decides;
  keeps_back = swaps.keeps_back;
  keeps_own = swaps.keeps_turn;
  swaps = swaps.events_swap_after c.machine_determines_turn.ensures.turn;
}
