use Rattle.std.proofs.Common.{take}
use Rattle.board_model.specs.Shapes.{ram_bytes_of}
use Rattle.kernel_check.specs.{Looks.AreLooksOf, Shown.AreIn}
use Rattle.kernel_check.proofs.checks.looks_named.Given as goal

abbrev pub invariant-loop-word : goal.invariant-loop-word
invariant-loop-word l = record {
  looks : AreLooksOf l.kernel.elf (take l.word-index l.words) l.looks.items;
  within : AreIn (ram_bytes_of l.shape) l.looks.items;
}
