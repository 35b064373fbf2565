use Rattle.layout.proofs.SpelledPlaces.{filled_place}
use Rattle.layout.proofs.places.place_head_bytes.Goals as goal

pub returns : goal.returns
returns c = let filled = filled_place c.args.head.now in cc
