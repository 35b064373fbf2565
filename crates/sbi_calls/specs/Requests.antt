-- What each call asks for, once its arguments are checked, in this order. Source: SBI specification 2.0,
-- chapters 4, 7 and 9; docs/SBI.md.
use Rattle.std.specs.Prelude.{ℕ, Bool, true, false, ◌+◌, ◌%◌, ◌<◌, ◌==◌, ◌&&◌, nat_lt, nat_le, if◌then◌else◌, Option, Some, None, Result, Ok, Err}
use Rattle.board_model.specs.Shapes.{Size, ram_bytes_of}
use Rattle.sbi_abi.specs.Calls.{extension_at}
use Rattle.sbi_abi.specs.Masks.{targets_of}
use Rattle.sbi_abi.specs.declared.call.Extension.{Extension}
use Rattle.sbi_abi.specs.declared.call.Call.{Call}
use Rattle.sbi_abi.specs.declared.call.Call.TheVariants as calls
use Rattle.sbi_abi.specs.declared.ret.SbiError.{SbiError}
use Rattle.sbi_abi.specs.declared.ret.SbiError.TheVariants.{NotSupported, InvalidParam, InvalidAddress}
use Rattle.sbi_calls.specs.declared.requests.Request.{Request}
use Rattle.sbi_calls.specs.declared.requests.Request.TheVariants.{Value, Start, Stop, Status, Suspend, SuspendAfresh, Send, Command}

abbrev pub Checked : Type 0
Checked = Result Request SbiError

-- a hart of the board
abbrev pub hart_in : Size → ℕ → Result ℕ SbiError
hart_in size h = if nat_lt h size.harts then Ok h else Err InvalidParam

-- an address in RAM that is a multiple of 4
abbrev pub address_in : Size → ℕ → Result ℕ SbiError
address_in size a =
    if nat_le 0x80000000 a && (nat_lt a (0x80000000 + ram_bytes_of size) && (a % 4 == 0)) then Ok a
    else Err InvalidAddress

-- 1 for an extension that has calls, else 0
abbrev pub has_calls : Option Extension → ℕ
has_calls None = 0
has_calls (Some extension) = 1

abbrev pub probed : ℕ → ℕ
probed extension = has_calls (extension_at extension)

-- one check before what follows it
abbrev pub checked : {A B : Type 0} → Result A SbiError → (A → Result B SbiError) → Result B SbiError
checked (Ok a) f = f a
checked (Err e) f = Err e

-- the two types of hart_suspend: retentive, and non-retentive, which names where the hart goes on
abbrev pub suspend_of : Bool → Bool → Size → ℕ → ℕ → Checked
suspend_of true non_retentive size a o = Ok Suspend
suspend_of false true size a o = checked (address_in size a) (λ site. Ok (SuspendAfresh site o))
suspend_of false false size a o = Err InvalidParam

abbrev pub request_of : Size → Call → Checked
request_of size calls.SpecVersion = Ok (Value 0x02000000)
request_of size calls.ImplementationId = Ok (Value 0x5242)
request_of size calls.ImplementationVersion = Ok (Value 1)
request_of size (calls.Probe extension) = Ok (Value (probed extension))
request_of size calls.VendorId = Ok (Value 0)
request_of size calls.ArchitectureId = Ok (Value 0)
request_of size calls.MachineId = Ok (Value 0)
request_of size (calls.HartStart h a o) =
    checked (hart_in size h) (λ target. checked (address_in size a) (λ site. Ok (Start target site o)))
request_of size calls.HartStop = Ok Stop
request_of size (calls.HartStatus h) = checked (hart_in size h) (λ hart. Ok (Status hart))
request_of size (calls.HartSuspend kind a o) = suspend_of (kind == 0) (kind == 0x80000000) size a o
request_of size (calls.SendIpi mask base) = checked (targets_of mask base size.harts) (λ targets. Ok (Send targets))
request_of size (calls.SystemReset kind reason) = Ok Command
request_of size (calls.SystemSuspend kind a o) = Ok Command
request_of size calls.Unknown = Err NotSupported

-- a request names harts of the board alone
abbrev pub IsWithin : ℕ → Checked → Type 0
IsWithin harts (Err e) = Unit {0}
IsWithin harts (Ok (Value v)) = Unit {0}
IsWithin harts (Ok (Start h a o)) = h < harts
IsWithin harts (Ok Stop) = Unit {0}
IsWithin harts (Ok (Status h)) = h < harts
IsWithin harts (Ok Suspend) = Unit {0}
IsWithin harts (Ok (SuspendAfresh a o)) = Unit {0}
IsWithin harts (Ok (Send targets)) = Unit {0}
IsWithin harts (Ok Command) = Unit {0}
