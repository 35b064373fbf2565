use Rattle.std.proofs.Common.{◌≡◌, ℕ, ◌*◌, arith}
use Rattle.board_model.specs.Shapes.{places_of}
use Rattle.image.proofs.Written.{lanes_of}
use Rattle.planned_store.proofs.SavingArea.{places_enough}
use Rattle.planned_store.proofs.saves.Saving.sector.Goals as goal

nine : (l k : ℕ) → l * (9 * k) ≡ 9 * (l * k)
nine l k = omega arith

pub returns-clause-within : goal.returns-clause-within
returns-clause-within c =
    let size = c.args.self.now.from.shape in
    omega (arith, c.requires.page, c.index.ensures.value, c.area_start.ensures.within, places_enough size (omega (arith, c.requires.board)), lanes_of size, nine size.lanes (places_of size))
