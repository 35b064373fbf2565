use Rattle.std.{proofs.Common.{◌≡◌, ◌++◌, take, drop, not}, specs.Prelude.{take_while, ◌==◌}}
use Rattle.elf_image.proofs.labels.text.Given as goal

abbrev pub invariant-loop-i : goal.invariant-loop-i
invariant-loop-i l = take_while (λ b. not (b == 0)) l.names ≡ take l.i l.names ++ take_while (λ b. not (b == 0)) (drop l.i l.names)
