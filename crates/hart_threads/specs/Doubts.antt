-- The command of a life that is in doubt, and who asked for it. Source: docs/THREADS.md, "Receipts".
use Rattle.std.specs.Prelude.{◌≡◌, ◌&&◌, ℕ, Bool, true, false, List, [], ◌∷◌, Option, Some, None, is_none, is_some}
use Rattle.board_model.specs.Durable.{Change}
use Rattle.board_model.specs.Shapes.{Size}
use Rattle.board_model.specs.Views.{change_of, entry_of}
use Rattle.board_model.specs.declared.durable.Command.{Command}
use Rattle.board_model.specs.declared.durable.Entry.{Entry}
use Rattle.board_model.specs.declared.durable.Entry.TheVariants as entries
use Rattle.tallies.specs.declared.book_views.PartView.{PartView}
use Rattle.sbi_abi.specs.declared.call.Call.{Call}
use Rattle.sbi.specs.declared.words.LifeEnd.{LifeEnd}
use Rattle.hart_threads.specs.Called.{AsksFor}

-- a durable call of some hart asks for that command, on a board of that size: a reset, or a suspension to disk
abbrev pub HartAsksFor : Size → Entry → Type 0
HartAsksFor size entry = (call : Call) × (by : ℕ) × (end : LifeEnd) × AsksFor size call by end entry

-- The command in doubt of a life, if there is one, was the console's, where the console has one in doubt; else a hart's.
abbrev pub IsDoubtOf : Size → Option Change → Option Command → Type 0
IsDoubtOf size doubt (Some command) = doubt ≡ Some (change_of command)
IsDoubtOf size None None = Unit {0}
IsDoubtOf size (Some c) None = HartAsksFor size (entry_of c)

-- none was in doubt, and then one is
abbrev pub newly_down : Option Change → Option Change → Bool
newly_down old new = is_none old && is_some new

-- ---- the book of what is in doubt
-- what the part of the console was told
abbrev pub doubt_told : Option Command → List (ℕ × Entry)
doubt_told None = []
doubt_told (Some command) = (1, entries.Command command) ∷ []

-- the console has such a part
abbrev pub HoldsDoubt : Option (PartView Entry) → Option Command → Type 0
HoldsDoubt None doubt = ⊥
HoldsDoubt (Some part) doubt = part.told ≡ doubt_told doubt

-- what was told to the parts that stay with the keeper was asked for by harts
abbrev pub AreAskedByHarts : Size → List (ℕ × Entry) → Type 0
AreAskedByHarts size [] = Unit {0}
AreAskedByHarts size (t ∷ ts) = HartAsksFor size t.1 × AreAskedByHarts size ts

-- one command is noted where it is newly in doubt
abbrev pub noted_if : Bool → Entry → List Entry → List Entry
noted_if true entry noted = entry ∷ []
noted_if false entry noted = noted

abbrev pub noted_by : Bool → Option Entry → List Entry → List Entry
noted_by true (Some entry) noted = entry ∷ []
noted_by was_up found noted = noted
