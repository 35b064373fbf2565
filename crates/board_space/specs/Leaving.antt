-- A hart of which registers are left out.
use Rattle.std.specs.Prelude.{◌≡◌, ℕ, ◌<◌, length}
use Rattle.hart.specs.State.{ArchState}
use Rattle.machine.specs.Machine.{hart_at}
use Rattle.model_board.specs.Boards.{Life, On}
use Rattle.model_board.specs.Held.{with_hart}
use Rattle.model_board.specs.LeftOut.{StandsFor}

-- in the place of the first, it makes a board that stands for the one before
abbrev pub IsLeft : ArchState → ArchState → Type 0
IsLeft s t =
    (h : ℕ) (l : Life) → h < length l.machine.harts → hart_at l.machine h ≡ s
    → StandsFor (On (record l { machine = with_hart h l.machine t })) (On l)
