use Rattle.std.specs.Prelude.{[]}
use Rattle.model_board.proofs.Filling as filling
use Rattle.model_board.proofs.left_out.left_out_registers_change_nothing.Goals as goal

pub returns : goal.returns
returns c =
    let law = c.word_determines_instruction.ensures.instruction in
    let single = c.machine_determines_turn.ensures.turn in
    record {
      event = λ payload size n e b co d filled none did. filling.filled_event law single payload size n e b co d filled none did;
      back = λ payload size n e b d f filled none did. filling.event_back law single payload size n e b d f filled none did;
      keeps = λ map n e b d filled none keeps. filling.keeps_filled law map n e b d filled none keeps;
      local = λ map n g b co d filled none moves local. filling.local_filled law single [] (record { harts = 0; pages = 0; lanes = 0 }) map n g b co d filled none moves local;
      rests = λ payload size n g b d filled none probes rests. filling.all_rest law single payload size g n b d filled none probes rests;
    }
