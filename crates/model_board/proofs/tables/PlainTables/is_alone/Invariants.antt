use Rattle.std.proofs.Common.{◌≡◌, ◌≢◌, ◌<◌, ℕ}
use Rattle.hsm.specs.{Views.listed, States.stopped}
use Rattle.model_board.proofs.tables.PlainTables.is_alone.Given as goal

abbrev pub invariant-loop-place : goal.invariant-loop-place
invariant-loop-place l = (t : ℕ) → t < l.place → t ≢ l.by → listed l.self.states t ≡ stopped
