-- The entries of the two pools.
use Rattle.std.specs.Prelude.{ℕ, ◌+◌, ◌*◌, List, slice_index, slice_range}
use Rattle.state_space.specs.declared.row_pool.RowPool.{RowPool}
use Rattle.state_space.specs.declared.word_pool.WordPool.{WordPool}
use Rattle.state_space.specs.Begins.{begin_of}

abbrev pub row_entry : RowPool → ℕ → List ℕ
row_entry pool k = slice_range pool.numbers.items (k * pool.width) (k * pool.width + pool.width)

abbrev pub word_entry : WordPool → ℕ → List ℕ
word_entry pool k = slice_range pool.words.items (begin_of pool.ends.items k) (slice_index pool.ends.items k)
