-- What a file keeps of a disk, in the words of the headline. Source: docs/CONSOLE.md, "`--sync`".
use Rattle.std.specs.Prelude.{ℕ, ◌+◌, List, Option}
use Rattle.board_model.specs.Durable.{DurableState}
use Rattle.board_model.specs.Shapes.{Size}
use Rattle.board_model.specs.declared.durable.Command.{Command}
use Rattle.board_model.specs.declared.refusal.Refusal.{Refusal}
use Rattle.disk.specs.Facts.{Content}
use Rattle.board_files.specs.Files.{FileFacts}
use Rattle.theorem.specs.Prefixes.{IsAfterFirst, in_doubt}

-- What a file keeps of commands that were made of the state s in a row, of which so many were acknowledged before it ended
-- for that reason. A crash now leaves in it what just these make of s, and only after a 6 maybe these and the next one. A
-- crash at any moment before, within a call of the disk or of the file too, has left what some first of them make, with the
-- one at which the row ended.
pub record KeepsCommands (size : Size) (s : DurableState) (commands : List Command) (acknowledged : ℕ) (why : Option Refusal) (f : FileFacts) : Type 0 where
  pub now : (c : Content) → f.may_leave c → IsAfterFirst size s commands acknowledged (acknowledged + in_doubt why) c
  pub ever : (c : Content) → f.since 0 c → ∥ IsAfterFirst size s commands 0 (acknowledged + 1) c ∥₁
