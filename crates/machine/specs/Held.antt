-- What a machine holds: both tables of a board of its shape, and the one seat of all harts in each.
use Rattle.std.specs.Prelude.{◌≡◌, ℕ, ◌<◌, List, [], length, get_or, nat_lt, if◌then◌else◌, Option, Some, None}
use Rattle.board_model.specs.Shapes.{Size}
use Rattle.hart.specs.State.{ArchState, never_started}
use Rattle.hsm.specs.Outcomes.{opening_view}
use Rattle.hsm.specs.Seating.{started_in}
use Rattle.hsm.specs.Views.{states_in}
use Rattle.ipi.specs.Ledger.{opening_pending_view}
use Rattle.ipi.specs.Views.{pairs_in}
use Rattle.sbi_calls.specs.declared.tables.Tables.{Tables}
use Rattle.sbi_calls.specs.declared.tables.Seats.{Seats}
use Rattle.hsm.specs.declared.view.Stage.{Stage}
use Rattle.hsm.specs.declared.view.Stage.TheVariants.{Running, Quiet}
use Rattle.sbi.specs.declared.words.Word.{Word}
use Rattle.sbi.specs.declared.words.Word.TheVariants.{Goes, Over}
use Rattle.sbi_calls.specs.Words.{stage_of}
use Rattle.sbi_calls.specs.Both.{TableState, AreTablesOf, AreSeatsOfBoth, AreOfAll, Acts, IsTable, harts_known, pair_crew}
use Rattle.susp.specs.Dozes.{doze_of}
use Rattle.susp.specs.declared.buses.Doze.{Doze}
use Rattle.turns.specs.Turns.{Rests}
use Rattle.machine.specs.Machine.{Machine, none_pending, only_first}

-- what seats of all harts show
abbrev pub shown_by : ℕ → Seats → TableState
shown_by harts s = record { states = states_in harts (harts_known s); pairs = pairs_in harts (pair_crew s) }

abbrev pub table_of : ℕ → Option Seats → TableState
table_of harts None = record { states = []; pairs = [] }
table_of harts (Some s) = shown_by harts s

-- the board that these make, with the tables as the one seat of all harts shows them
abbrev pub board_of : Size → List ℕ → Option Doze → List ArchState → Seats → Machine
board_of size memory doze harts seats =
    record { size = size; memory = memory; doze = doze; harts = harts; table = shown_by size.harts seats }

-- No hart has noted a step: the seats of all harts know of each hart where it stands at the start, with the hart that the table was made
-- with STARTED, and that it did nothing; so they show that hart STARTED, every other one STOPPED, and no pending interrupt.
pub record AreUntouched (harts : ℕ) (t : Tables) (s : Seats) : Type 0 where
  pub starts : harts_known s ≡ opening_view harts (started_in t.harts)
  pub raises : pair_crew s ≡ opening_pending_view harts
  pub shows : shown_by harts s ≡ record { states = only_first harts (started_in t.harts); pairs = none_pending harts }

-- where a hart stands once a durable call of it was made: a doze is quiet, and after a suspension to disk the
-- quiet is ended
abbrev pub stage_left : Word → Stage
stage_left (Goes did) = stage_of did
stage_left (Over end) = Running

-- between two turns a hart in whose doze the board is is quiet, and any other rests
abbrev pub RestsBy : Option Doze → ℕ → Seats → Type 0
RestsBy None h s = Rests h s
RestsBy (Some d) h s = Acts h Quiet s

-- the hart that is quiet in a doze, where the board has it
abbrev pub quiet_in : ℕ → Option Doze → Option ℕ
quiet_in harts None = None
quiet_in harts (Some d) = if nat_lt d.at.hart harts then Some d.at.hart else None

-- The seats have every hart, and show a state of each and the pending interrupts; between two turns each hart
-- rests, or is quiet in its doze.
pub record AreWhole (harts : ℕ) (t : Tables) (s : Seats) (doze : Option Doze) : Type 0 where
  pub seats : AreSeatsOfBoth t s
  pub all : AreOfAll t s
  pub shows : IsTable harts s (shown_by harts s)
  pub rests : (h : ℕ) → h < harts → RestsBy (doze_of h doze) h s

-- the seats are there
abbrev pub AreAllSeats : ℕ → Tables → Option Seats → Option Doze → Type 0
AreAllSeats harts t None doze = ⊥
AreAllSeats harts t (Some s) doze = AreWhole harts t s doze

abbrev pub AreNumbered : List ArchState → Type 0
AreNumbered harts = (h : ℕ) → h < length harts → (get_or harts h (never_started h)).id ≡ h

pub record IsHeld (size : Size) (harts : List ArchState) (t : Tables) (held : Option Seats) (doze : Option Doze) : Type 0 where
  pub long : length harts ≡ size.harts
  pub numbered : AreNumbered harts
  pub tables : AreTablesOf size t
  pub seats : AreAllSeats size.harts t held doze
