-- What a kernel's file is. Source: docs/CHECKING.md, "What is asked".
use Rattle.std.specs.Prelude.{◌≡◌, List, ℕ, Option, None, Some}
use Rattle.elf_image.specs.Header.{IsElf}
use Rattle.elf_image.specs.Kernel.{IsKernel}
use Rattle.elf_image.specs.Loading.{IsLoaded}
use Rattle.elf_image.specs.Sections.{AreTables}
use Rattle.elf_image.specs.declared.kernel_file.Elf.{Elf}

-- The file, and what RAM holds of it at a boot: a file that has the mark of ELF is one of a kernel, of which RAM holds what it loads; any
-- other is held as it is.
abbrev pub IsKernelFile : List ℕ → Option Elf → List ℕ → Type 0
IsKernelFile bytes None payload = (IsElf bytes → ⊥) × (payload ≡ bytes)
IsKernelFile bytes (Some elf) payload =
    IsKernel bytes × (elf.bytes.now ≡ bytes) × AreTables bytes elf.tables.symbols.now elf.tables.names.now × IsLoaded bytes payload
