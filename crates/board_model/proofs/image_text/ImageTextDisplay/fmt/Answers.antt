use Rattle.board_model.proofs.image_text.ImageTextDisplay.fmt.Goals as goal

pub returns-clause-writes : goal.returns-clause-writes
returns-clause-writes g c = rw (c.number-hart.ensures.value, c.value.ensures.value) at c.write.ensures.writes
