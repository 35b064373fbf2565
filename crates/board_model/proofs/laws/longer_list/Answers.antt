use Rattle.std.proofs.Common.{◌≡◌, List, [], ◌∷◌, ◌++◌, refl}
use Rattle.board_model.specs.Durable.{DurableState, Change, after, fold}
use Rattle.board_model.proofs.laws.longer_list.Goals as goal

folds : (s : DurableState) (cs ds : List Change) → fold s (cs ++ ds) ≡ fold (fold s cs) ds
folds s [] ds = refl
folds s (c ∷ cs) ds = folds (after s c) cs ds

pub returns : goal.returns
returns c = folds
