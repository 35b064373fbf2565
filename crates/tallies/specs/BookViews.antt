-- A new book: which it is, and how many parts it has.
use Rattle.std.specs.Prelude.{ℕ}
use Rattle.atomic_table.specs.Seated.{TableId}
use Rattle.tallies.specs.declared.book.NewBook.{NewBook}

module _ {E : Type 0} where
  abbrev pub id_of : NewBook E → TableId
  id_of book = book.table.shared.table_id

  abbrev pub parts_of : NewBook E → ℕ
  parts_of book = book.table.shared.key
