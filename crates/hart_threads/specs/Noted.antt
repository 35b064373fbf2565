-- The receipts of a journal's commands, and whom they were told. Source: docs/THREADS.md, "Receipts".
use Rattle.std.specs.Prelude.{ℕ, suc, List, [], ◌∷◌, length, Option, Some, None, Result, Ok, Err, map}
use Rattle.board_model.specs.Durable.{Change}
use Rattle.board_model.specs.Views.{entry_of}
use Rattle.board_model.specs.declared.durable.Entry.{Entry}
use Rattle.board_model.specs.declared.refusal.Refusal.{Refusal}
use Rattle.tallies.specs.Books.{told_after}
use Rattle.tallies.specs.declared.book_views.PartView.{PartView}

-- the commands of a journal, without the memory of a suspension
abbrev pub entries_in : List Change → List Entry
entries_in = map entry_of

-- a part, after what was told
abbrev pub part_after : Option (ℕ × Entry) → PartView Entry → PartView Entry
part_after None d = d
part_after (Some t) d = told_after t.0 t.1 d

abbrev pub part_by : Result (ℕ × Entry) Refusal → PartView Entry → PartView Entry
part_by (Ok t) d = told_after t.0 t.1 d
part_by (Err e) d = d

-- what a part was told, the newest first, once it was told the receipts of these commands too: each has the place
-- after those before it
abbrev pub told_on : List Change → List (ℕ × Entry) → List (ℕ × Entry)
told_on [] told = told
told_on (c ∷ cs) told = told_on cs ((suc (length told), entry_of c) ∷ told)

-- what the boot's part was told: the receipts of all commands that the boot issued, from 1
abbrev pub boot_told : List Change → List (ℕ × Entry)
boot_told issued = told_on issued []
