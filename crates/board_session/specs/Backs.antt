-- The parts of a board's harts, back with the store. Source: docs/THREADS.md, "Receipts".
use Rattle.std.specs.Prelude.{◌≡◌, ℕ, List, true, All, Option, length}
use Rattle.board_model.specs.declared.durable.Entry.{Entry}
use Rattle.tallies.specs.Closed.{told_in}
use Rattle.tallies.specs.declared.book_views.PartView.{PartView}
use Rattle.hart_threads.specs.Threads.{ends_life}
use Rattle.board_session.specs.Sessions.{hart_receipts}

-- each was told the receipt of the command with which its hart ended the life, or none
pub record AreBack (parts : List (PartView Entry)) : Type 0 where
  pub harts : List (Option (ℕ × Entry))
  pub many : length harts ≡ length parts
  pub each : All (λ told. ends_life told ≡ true) harts
  pub told : told_in parts ≡ hart_receipts harts
