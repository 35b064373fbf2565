use Rattle.script_lang.proofs.Spelled.{line_of-text}
use Rattle.script_lang.proofs.laws.lines_read_as_spelled.Goals as goal

pub returns : goal.returns
returns c = line_of-text
