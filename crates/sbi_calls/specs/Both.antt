-- Both tables of a board, seats of them, and what the seats know.
use Rattle.std.specs.Prelude.{◌≡◌, ℕ, Bool, List}
use Rattle.board_model.specs.Shapes.{Size}
use Rattle.hsm.specs.Seating as harts
use Rattle.hsm.specs.declared.view.Stage.{Stage}
use Rattle.hsm.specs.Words.{HartSeatView, HartView}
use Rattle.hsm.specs.Rule.{stands}
use Rattle.hsm.specs.States.{HartState}
use Rattle.hsm.specs.Calls.{KeepsOthers}
use Rattle.hsm.specs.Views.{AreStates}
use Rattle.ipi.specs.Seating as pairs
use Rattle.ipi.specs.Pairs.{Sits, SameHarts}
use Rattle.ipi.specs.Views.{ArePairs}
use Rattle.ipi.specs.Ledger.{PendingView, PendingSeatView}
use Rattle.sbi_calls.specs.declared.tables.Tables.{Tables}
use Rattle.sbi_calls.specs.declared.tables.Seats.{Seats}

-- how many harts there are
abbrev pub harts_of_both : Tables → ℕ
harts_of_both t = harts.harts_of t.harts

-- the tables of a board of that size
abbrev pub AreTablesOf : Size → Tables → Type 0
AreTablesOf size t = harts_of_both t ≡ size.harts

abbrev pub AreSeatsOfBoth : Tables → Seats → Type 0
AreSeatsOfBoth t s = harts.IsSeatOf t.harts s.harts × pairs.IsSeatOf t.pending s.pending

-- the seats have every hart of the tables, in the order of their numbers
abbrev pub AreOfAll : Tables → Seats → Type 0
AreOfAll t s = harts.IsOfAll t.harts s.harts × pairs.IsOfAll t.pending s.pending

-- ---- what seats know
abbrev pub views : Seats → List HartView
views s = harts.harts_in s.harts

abbrev pub harts_known : Seats → HartSeatView
harts_known s = harts.hart_view_of_seat s.harts

abbrev pub pending_views : Seats → List PendingView
pending_views s = pairs.pending_views_in s.pending

abbrev pub pair_crew : Seats → PendingSeatView
pair_crew s = pairs.pending_view_of_seat s.pending

pub record Known : Type 0 where
  pub harts : List HartView
  pub pairs : List PendingView

abbrev pub known : Seats → Known
known s = record { harts = views s; pairs = pending_views s }

-- the hart is one of the seats, at this stage of the hart table
abbrev pub Acts : ℕ → Stage → Seats → Type 0
Acts by st s = stands by st (views s) × Sits by (pair_crew s)

-- The seats given back are of the same tables and have the same harts, and all but the acting one stand where
-- they stood.
pub record GivesBack (t : Tables) (by : ℕ) (s s' : Seats) : Type 0 where
  pub seats : AreSeatsOfBoth t s'
  pub others : KeepsOthers by (views s) (views s')
  pub pairs : SameHarts (pair_crew s) (pair_crew s')

-- ---- with the one seat of all harts
-- the state of each hart, and for each target a row of the senders that are pending
pub record TableState : Type 0 where
  pub states : List HartState
  pub pairs : List (List Bool)

-- what the seats of all harts know is this
abbrev pub IsTable : ℕ → Seats → TableState → Type 0
IsTable harts s t = AreStates harts (harts_known s) t.states × ArePairs harts (pair_crew s) t.pairs
