use Rattle.layout.proofs.SpelledPlaces.{bytes_determine_place_head}
use Rattle.layout.proofs.laws.bytes_determine_place_head.Goals as goal

pub returns : goal.returns
returns c = bytes_determine_place_head
