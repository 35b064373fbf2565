-- What a crash leaves of a store that ends, by whether a command is in doubt.
use Rattle.std.proofs.Common.{◌≡◌, Option, None, Some, refl}
use Rattle.disk.specs.Facts.{Facts}
use Rattle.board_model.specs.{Durable.{DurableState, Change, after}, Shapes.Size}
use Rattle.store.specs.Leaves.{LeavesOnly, LeavesEither}
use Rattle.board.specs.Unbooted.{LeavesLife}

pub leaves_life : (doubt : Option Change) (disk : Facts) (size : Size) (s : DurableState) → (doubt ≡ None → LeavesOnly disk size s) → ((c : Change) → doubt ≡ Some c → LeavesEither disk size s (after s c)) → LeavesLife doubt disk size s
leaves_life None disk size s up down = up refl
leaves_life (Some c) disk size s up down = down c refl
