-- Rows of numbers, and the boards for which they stand.
use Rattle.std.specs.Prelude.{◌≡◌, ℕ, ◌+◌, ◌*◌, ◌<◌, List, length, slice_index, get_or, replicate, Bool, true, false, if◌then◌else◌, Some, None}
use Rattle.hart.specs.State.{ArchState, never_started}
use Rattle.hsm.specs.declared.standings.Standing.TheVariants.{Stopped}
use Rattle.machine.specs.Machine.{Machine, hart_at, stopped_harts}
use Rattle.model_board.specs.Boards.{Board, Life, On}
use Rattle.model_board.specs.Plain.{Sized, board_shown, with_machine}
use Rattle.model_board.specs.Rests.{Fits, table_copied}
use Rattle.model_board.specs.declared.powers.Power.{Power}
use Rattle.model_board.specs.declared.powers.Power.TheVariants as powers
use Rattle.model_board.specs.declared.rests.Rest.{Rest}
use Rattle.model_board.specs.declared.tables.TableCopy.{TableCopy}
use Rattle.ram.specs.Memory.{value}
use Rattle.state_space.specs.Numbered.{word_count, words_of}
use Rattle.state_space.specs.declared.interner.Interner.{Interner}
use Rattle.board_space.specs.Layouts.{IsOnBase, size_of, tracked_of, width_of}
use Rattle.board_space.specs.Tracked.{segment, segment_count}
use Rattle.board_space.specs.Records.{IsAt}
use Rattle.board_space.specs.declared.board_rows.BoardRows.{BoardRows}
use Rattle.board_space.specs.declared.row_layout.Layout.{Layout}

-- the words of a memory hold these values
pub record Hold (memory words values : List ℕ) : Type 0 where
  pub long : length values ≡ length words
  pub each : (j : ℕ) → j < length words → slice_index values j ≡ value memory (8 * slice_index words j) 8

-- these numbers of a row, from a place on, are of the values of each segment
abbrev pub AreSegments : Layout → Interner → List ℕ → ℕ → List ℕ → Type 0
AreSegments layout words row from memory = (s : ℕ) → s < segment_count (tracked_of layout)
    → (slice_index row (from + s) < word_count words)
    × Hold memory (segment (tracked_of layout) s) (words_of words (slice_index row (from + s)))

pub record IsMemory (layout : Layout) (words : Interner) (row memory : List ℕ) : Type 0 where
  pub based : IsOnBase layout memory
  pub bytes : (i : ℕ) → i < length memory → slice_index memory i < 256
  pub segments : AreSegments layout words row (1 + (size_of layout).harts) memory

-- these numbers of a row, from a place on, are of so many harts
abbrev pub AreHarts : List ArchState → List ℕ → ℕ → ℕ → List ArchState → Type 0
AreHarts records row from count harts = (h : ℕ) → h < count → IsAt records (slice_index row (from + h)) (get_or harts h (never_started h))

-- the machine has the harts, the tables and the memory of a row
pub record IsMachine (rows : BoardRows) (row : List ℕ) (rest : Rest) (m : Machine) : Type 0 where
  pub size : m.size ≡ size_of rows.layout
  pub doze : m.doze ≡ rest.doze
  pub table : m.table ≡ table_copied m.size.harts rest.tables
  pub many : length m.harts ≡ m.size.harts
  pub numbered : (h : ℕ) → h < m.size.harts → (hart_at m h).id ≡ h
  pub harts : AreHarts rows.harts.records.items row 1 (size_of rows.layout).harts m.harts
  pub memory : IsMemory rows.layout rows.words row m.memory

-- the row stands for that board
pub record Stands (rows : BoardRows) (row : List ℕ) (b : Board) : Type 0 where
  pub rest : Rest
  pub machine : Machine
  pub long : length row ≡ width_of rows.layout
  pub rested : IsAt rows.rests.records.items (slice_index row 0) rest
  pub fits : Fits machine.size.harts rest
  pub is : IsMachine rows row rest machine
  pub shown : b ≡ board_shown rest.power rest.reason rest.down machine

-- it is on and does not doze
abbrev pub IsAwake : Board → Type 0
IsAwake b = (l : Life) × (b ≡ On l) × (l.machine.doze ≡ None)

-- ---- what is seen of a board
-- the tables of harts that are all STOPPED
abbrev pub no_tables : TableCopy
no_tables = record { states = replicate 8 Stopped; pending = replicate 8 0 }

-- of one that is not on neither harts nor tables are seen, and it does not doze
abbrev pub is_seen : Power → Bool
is_seen powers.On = true
is_seen (powers.Off at) = false
is_seen powers.Ended = false

abbrev pub seen_rest : Rest → Rest
seen_rest rest = if is_seen rest.power then rest else (record rest { down = false; doze = None; tables = no_tables })

abbrev pub seen_harts : Power → Machine → List ArchState
seen_harts power m = if is_seen power then m.harts else stopped_harts m.size.harts

-- its memory is not seen either where it has no image, and then it is as a boot leaves it
abbrev pub seen_memory : List ℕ → Power → Machine → List ℕ
seen_memory base powers.On m = m.memory
seen_memory base (powers.Off None) m = base
seen_memory base (powers.Off (Some at)) m = m.memory
seen_memory base powers.Ended m = base

abbrev pub seen_by : List ℕ → Rest → Machine → Machine
seen_by base rest m = record {
  size = m.size;
  memory = seen_memory base rest.power m;
  doze = (seen_rest rest).doze;
  harts = seen_harts rest.power m;
  table = table_copied m.size.harts (seen_rest rest).tables;
}

-- the board is what its parts show
abbrev pub IsShownByParts : Sized → Type 0
IsShownByParts b = b ≡ with_machine b.machine b

-- ---- rows that grow
-- so many numbers more
pub record Extends (old new : List ℕ) (more : ℕ) : Type 0 where
  pub long : length new ≡ length old + more
  pub same : (i : ℕ) → i < length old → slice_index new i ≡ slice_index old i

-- the slices of words stay
abbrev pub Grows : Interner → Interner → Type 0
Grows old new = (k : ℕ) → k < word_count old → (k < word_count new) × (words_of new k ≡ words_of old k)
