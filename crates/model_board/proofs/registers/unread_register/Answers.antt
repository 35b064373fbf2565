use Rattle.model_board.proofs.UnreadEvents as events
use Rattle.model_board.proofs.UnreadTouches as touches
use Rattle.model_board.proofs.registers.unread_register.Goals as goal

pub returns : goal.returns
returns c =
    let one = c.word_determines_instruction.ensures.instruction in
    record {
      same = λ h k x payload size e b d has none y. events.event_unread h k x one payload size e b d has none y;
      keeps = λ map h k x e b has none y. touches.keeps_unread one map h k x e b has none y;
      local = λ map h k x g b d has none moves y. touches.local_unread one map h k x g b d has none moves y;
    }
