-- The successors of a row.
use Rattle.std.specs.Prelude.{ℕ, List, slice_index}
use Rattle.state_space.specs.declared.found.Successors.{Successors}
use Rattle.state_space.specs.Stores.{row_entry}

abbrev pub found_count : Successors → ℕ
found_count found = found.rows.count

abbrev pub found_event : Successors → ℕ → ℕ
found_event found = slice_index found.events.items

abbrev pub found_row : Successors → ℕ → List ℕ
found_row found = row_entry found.rows

abbrev pub found_width : Successors → ℕ
found_width found = found.rows.width
