-- What all rows have in common: which words of 8 bytes of RAM are told, and what all other words hold.
use Rattle.std.specs.Prelude.{◌≡◌, ℕ, ◌+◌, ◌/◌, ◌<◌, List, length, slice_index}
use Rattle.board_model.specs.Shapes.{Size}
use Rattle.state_space.specs.declared.word_pool.WordPool.{WordPool}
use Rattle.model_board.specs.Plain.{Sized}
use Rattle.board_space.specs.Tracked.{IsTracked, segment_count}
use Rattle.board_space.specs.declared.row_layout.Layout.{Layout}

abbrev pub size_of : Layout → Size
size_of layout = layout.shape

abbrev pub base_of : Layout → List ℕ
base_of layout = layout.base.items

abbrev pub tracked_of : Layout → WordPool
tracked_of layout = layout.tracked

-- how many numbers a row has: one for what is beside harts and memory, one for each hart, and one for each segment
abbrev pub width_of : Layout → ℕ
width_of layout = 1 + layout.shape.harts + segment_count layout.tracked

-- a memory is the base but for the words that are told
pub record IsOnBase (layout : Layout) (memory : List ℕ) : Type 0 where
  pub long : length memory ≡ length (base_of layout)
  pub same : (i : ℕ) → i < length memory → (IsTracked (tracked_of layout) (i / 8) → ⊥)
      → slice_index memory i ≡ slice_index (base_of layout) i

-- a board of that size, with such a memory
pub record IsBased (layout : Layout) (board : Sized) : Type 0 where
  pub size : board.machine.size ≡ size_of layout
  pub memory : IsOnBase layout board.machine.memory

-- what a layout has beside the board's size: the words of all segments, end to end; where each segment ends; and the base
pub record Laid : Type 0 where
  pub words : List ℕ
  pub ends : List ℕ
  pub base : List ℕ

abbrev pub laid_by : Layout → Laid
laid_by layout = record { words = layout.tracked.words.items; ends = layout.tracked.ends.items; base = layout.base.items }
