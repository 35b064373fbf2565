-- The arguments of a system suspend, with their checks in order. Source: SBI specification 2.0, chapter 13;
-- docs/SBI.md.
use Rattle.std.specs.Prelude.{◌≡◌, ◌⊎◌, ◌≢◌, ℕ, Result, Ok, Err}
use Rattle.board_model.specs.Shapes.{Size, IsValidAddress}
use Rattle.sbi_abi.specs.declared.ret.SbiError.{SbiError}
use Rattle.sbi_abi.specs.declared.ret.SbiError.TheVariants.{InvalidParam, InvalidAddress}
use Rattle.susp.specs.declared.sleeps.Sleep.{Sleep}
use Rattle.susp.specs.declared.sleeps.Sleep.TheVariants.{ToRam, ToDisk}

-- the two types that there are
abbrev pub to_ram : ℕ
to_ram = 0

abbrev pub to_disk : ℕ
to_disk = 0x80000001

abbrev pub kind_of : Sleep → ℕ
kind_of ToRam = to_ram
kind_of ToDisk = to_disk

-- Any other type is none; and for both the board is resumed at an address in its RAM that is a multiple of 4.
abbrev pub IsChecked : Size → ℕ → ℕ → Result (Sleep × ℕ) SbiError → Type 0
IsChecked size kind address (Ok asked) =
    (kind ≡ kind_of asked.0) × (asked.1 ≡ address) × IsValidAddress size address
IsChecked size kind address (Err e) =
    ((kind ≢ to_ram) × (kind ≢ to_disk) × (e ≡ InvalidParam))
    ⊎ (((kind ≡ to_ram) ⊎ (kind ≡ to_disk)) × (IsValidAddress size address → ⊥) × (e ≡ InvalidAddress))
