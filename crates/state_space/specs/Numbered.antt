-- Rows and slices of words, by their numbers.
use Rattle.std.specs.Prelude.{ℕ, List}
use Rattle.std.specs.Vec.{vec_len}
use Rattle.state_space.specs.declared.rows.Rows.{Rows}
use Rattle.state_space.specs.declared.interner.Interner.{Interner}
use Rattle.state_space.specs.Stores.{row_entry, word_entry}

abbrev pub row_count : Rows → ℕ
row_count rows = rows.entries.pool.count

abbrev pub row_of : Rows → ℕ → List ℕ
row_of rows = row_entry rows.entries.pool

abbrev pub row_width : Rows → ℕ
row_width rows = rows.entries.pool.width

abbrev pub word_count : Interner → ℕ
word_count interner = vec_len interner.entries.pool.ends

abbrev pub words_of : Interner → ℕ → List ℕ
words_of interner = word_entry interner.entries.pool
