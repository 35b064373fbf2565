-- What a system reset asks for, with its checks in their order. Source: SBI specification 2.0, chapter 10;
-- docs/SBI.md.
use Rattle.std.specs.Prelude.{ℕ, ◌==◌, nat_lt, if◌then◌else◌, Result, Ok, Err}
use Rattle.board_model.specs.declared.durable.Reason.{Reason}
use Rattle.board_model.specs.declared.durable.Reason.TheVariants.{NoReason, SystemFailure}
use Rattle.sbi_abi.specs.declared.ret.SbiError.{SbiError}
use Rattle.sbi_abi.specs.declared.ret.SbiError.TheVariants.{NotSupported, InvalidParam}
use Rattle.sbi.specs.declared.resets.ResetType.{ResetType}
use Rattle.sbi.specs.declared.resets.ResetType.TheVariants.{Shutdown, ColdReboot}

-- 0 shutdown, 1 cold reboot; 0 no reason, 1 system failure
abbrev pub type_of : ℕ → ResetType
type_of kind = if kind == 0 then Shutdown else ColdReboot

abbrev pub reason_of : ℕ → Reason
reason_of reason = if reason == 0 then NoReason else SystemFailure

-- a type above 2 or a reason above 1 is none; there is no warm reboot
abbrev pub reset_of : ℕ → ℕ → Result (ResetType × Reason) SbiError
reset_of kind reason =
    if nat_lt 2 kind then Err InvalidParam else
    (if nat_lt 1 reason then Err InvalidParam else
    (if kind == 2 then Err NotSupported else
    Ok (type_of kind, reason_of reason)))
