-- All of a board but its harts and its memory, as plain data.
use Rattle.std.specs.Prelude.{◌≡◌, ℕ, length, take}
use Rattle.machine.specs.Machine.{Machine}
use Rattle.sbi_calls.specs.Both.{TableState}
use Rattle.model_board.specs.Plain.{Sized, AreTables, IsKnown, table_in, sized}
use Rattle.model_board.specs.declared.rests.Rest.{Rest}
use Rattle.model_board.specs.declared.tables.TableCopy.{TableCopy}

-- the tables of so many harts, of whom the copy has the first places
abbrev pub table_copied : ℕ → TableCopy → TableState
table_copied harts copy = table_in (take harts copy.states) (take harts copy.pending)

-- a board of so many harts can have them
abbrev pub IsCopy : ℕ → TableCopy → Type 0
IsCopy harts copy = AreTables (take harts copy.states) (take harts copy.pending) × (length (take harts copy.states) ≡ harts)

pub record Fits (harts : ℕ) (rest : Rest) : Type 0 where
  pub tables : IsCopy harts rest.tables
  pub known : IsKnown harts rest.power

-- the machine with that doze and these tables
abbrev pub with_rest : Rest → Machine → Machine
with_rest rest m = record m { doze = rest.doze; table = table_copied m.size.harts rest.tables }

-- the board is shown by this and a machine
abbrev pub IsRest : Rest → Sized → Type 0
IsRest rest b = b ≡ sized rest.power rest.reason rest.down (with_rest rest b.machine)
