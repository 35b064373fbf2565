-- What a line shows of the memory and the harts of a board that is on.
use Rattle.std.specs.Prelude.{◌≡◌}
use Rattle.machine.specs.Machine.{Machine}
use Rattle.machine.specs.Shows.{reg_line, pc_line, CsrLine, pending_line, mem_line}
use Rattle.machine.specs.declared.line.MachineLine.{MachineLine}
use Rattle.script_lang.specs.declared.looks.Look.{Look}
use Rattle.script_lang.specs.declared.looks.Look.TheVariants.{Reg, Pc, Csr, Pending, Mem}

abbrev pub IsShown : Look → Machine → MachineLine → Type 0
IsShown (Reg h r) m line = line ≡ reg_line h r m
IsShown (Pc h) m line = line ≡ pc_line h m
IsShown (Csr h c) m line = CsrLine h c m line
IsShown Pending m line = line ≡ pending_line m
IsShown (Mem a n) m line = line ≡ mem_line a n m
