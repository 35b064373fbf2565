use Rattle.script_lang.proofs.Written.{script_of-text}
use Rattle.script_lang.proofs.laws.scripts_read_as_written.Goals as goal

pub returns : goal.returns
returns c = script_of-text
