-- Three harts, of which two have started, each in a seat of its own.
use Rattle.std.specs.Prelude.{◌<◌}
use Rattle.hsm.specs.Rule.{stands}
use Rattle.hsm.specs.Seating.{IsSeatOf, harts_of, harts_in}
use Rattle.hsm.specs.declared.table.HartTable.{HartTable}
use Rattle.hsm.specs.declared.view.Stage.TheVariants.{Out, Running}
use Rattle.hsm.specs.Words.{HartSeatView}
use Rattle.atomic_table.specs.declared.shared.Seat.{Seat}

pub record AreReady (t : HartTable) (one two three : Seat (Unit {0}) HartSeatView) : Type 0 where
  pub first : IsSeatOf t one
  pub second : IsSeatOf t two
  pub third : IsSeatOf t three
  pub first_runs : stands 0 Running (harts_in one)
  pub second_runs : stands 1 Running (harts_in two)
  pub third_is_out : stands 2 Out (harts_in three)
  pub harts : 2 < harts_of t
