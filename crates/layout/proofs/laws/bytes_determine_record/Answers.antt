use Rattle.layout.proofs.OneSpelling.{bytes_determine_record}
use Rattle.layout.proofs.laws.bytes_determine_record.Goals as goal

pub returns : goal.returns
returns c = bytes_determine_record
