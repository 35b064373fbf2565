use Rattle.std.proofs.Common.{arith}
use Rattle.elf_image.{specs.Program.segments_of, proofs.Laying.within_ram}
use Rattle.elf_image.proofs.kernel_file.Elf.load.Goals as goal

pub returns-in-Ok-clause-within : goal.returns-in-Ok-clause-within
returns-in-Ok-clause-within c =
    let bytes = c.args.self.now.bytes.now in
    let memory = c.in-Ok.memory in
    omega (
      arith,
      memory.ok.0,
      within_ram bytes c.args.ram_bytes (segments_of bytes) memory.items c.in_ok-check_layout.ensures.ok c.in_ok-check_bytes.ensures.ok c.in-Ok.ensures,
    )
