-- What a command line asks of a kernel, and what the verdict says of it. Source: docs/CHECKING.md.
use Rattle.std.specs.Prelude.{◌≡◌, ◌≤◌, ℕ, List, Option, IfSome, length}
use Rattle.board_model.specs.Shapes.{Size, IsSize, ram_bytes_of}
use Rattle.board_space.specs.Space.{Asked}
use Rattle.board_space.specs.declared.bounds.Bound.{Bound}
use Rattle.board_space.specs.declared.bounds.Bound.TheVariants.{Unbounded, Preemptions, PowerOns}
use Rattle.elf_image.specs.declared.kernel_file.Elf.{Elf}
use Rattle.kernel_check.specs.Failures.{CanFail}
use Rattle.kernel_check.specs.Kernels.{IsKernelFile}
use Rattle.kernel_check.specs.Looks.{AreLooks}
use Rattle.kernel_check.specs.Shown.{AreIn}
use Rattle.kernel_check.specs.Tells.{Holds}
use Rattle.kernel_check.specs.declared.facts.EndShown.{EndShown}
use Rattle.kernel_check.specs.declared.given.CheckOptions.{CheckOptions}
use Rattle.kernel_check.specs.declared.given.FailureKind.{FailureKind}
use Rattle.kernel_check.specs.declared.looks.Look.{Look}

-- on a board of that size, whose boot slot holds the payload
abbrev pub asked_in : CheckOptions → Size → List ℕ → Asked
asked_in options size payload = record {
  size = size;
  payload = payload;
  reason = options.asked.reason;
  cuts = options.asked.cuts;
  refusals = options.asked.refusals;
}

-- the board that is asked for
pub record IsBoard (options : CheckOptions) (size : Size) : Type 0 where
  pub harts : size.harts ≡ options.harts
  pub pages : IfSome options.pages (λ pages. size.pages ≡ pages)
  pub lanes : size.lanes ≡ options.lanes
  pub sized : IsSize size

-- The kernel of a file, a board as it is asked for, and what is looked at, of which all this is told.
pub record IsChecked (options : CheckOptions) (bytes : List ℕ) (Told : Asked → List Look → Type 0) : Type 0 where
  pub elf : Option Elf
  pub payload : List ℕ
  pub size : Size
  pub looks : List Look
  pub kernel : IsKernelFile bytes elf payload
  pub board : IsBoard options size
  pub fits : length payload ≤ ram_bytes_of size
  pub looked : AreLooks elf options.looks.items looks
  pub within : AreIn (ram_bytes_of size) looks
  pub told : Told (asked_in options size payload) looks

-- It is right by what is asked: each list of the events that are asked for that comes to an end shows one and the same in what is looked
-- at, as it is expected; and none comes to a board from which no end is reached. That is of every order of the events, of those in
-- which at most so many harts are preempted, or of those with at most so many power-ons.
abbrev pub IsRightBy : Bound → CheckOptions → List ℕ → Type 0
IsRightBy bound options bytes =
    IsChecked options bytes (λ asked looks. (end : EndShown) × Holds (record { asked = asked; bound = bound }) looks end)

abbrev pub IsRight : CheckOptions → List ℕ → Type 0
IsRight = IsRightBy Unbounded

abbrev pub IsRightWithin : ℕ → CheckOptions → List ℕ → Type 0
IsRightWithin k = IsRightBy (Preemptions k)

-- none of these comes to a board from which neither an end is reached, nor a board that is off and on which the next power-on is due
abbrev pub IsRightForLives : ℕ → CheckOptions → List ℕ → Type 0
IsRightForLives n = IsRightBy (PowerOns n)

-- It is wrong by what is asked: some list of the events that are asked for leads to a board that shows a failure.
abbrev pub IsWrong : CheckOptions → List ℕ → Type 0
IsWrong options bytes = IsChecked options bytes (λ asked looks. (kind : FailureKind) × CanFail kind asked looks)
