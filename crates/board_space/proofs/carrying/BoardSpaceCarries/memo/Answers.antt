use Rattle.board_space.{specs.{Covering.StandsAll, Settings.setting_of}, proofs.Remembered.knows_none}
use Rattle.board_space.proofs.carrying.BoardSpaceCarries.memo.Goals as goal

pub returns : goal.returns
returns c from to =
    knows_none (setting_of from) (StandsAll from.leaves from.rows) (StandsAll to.leaves to.rows) c.new.result c.new.ensures.harts c.new.ensures.words
