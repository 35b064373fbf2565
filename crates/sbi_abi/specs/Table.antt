-- The calls as a table, a row each. Source: SBI specification 2.0, chapters 4 (Base), 7 (IPI), 9 (HSM), 10
-- (SRST) and 13 (SUSP).
use Rattle.std.specs.Prelude.{◌≡◌, ℕ, Option, Some, None}
use Rattle.sbi_abi.specs.Calls.{low}
use Rattle.sbi_abi.specs.declared.call.Call.{Call}
use Rattle.sbi_abi.specs.declared.call.Call.TheVariants as calls

-- the extension and the function of a call
abbrev pub numbers_of : Call → Option (ℕ × ℕ)
numbers_of calls.SpecVersion = Some (0x10, 0)
numbers_of calls.ImplementationId = Some (0x10, 1)
numbers_of calls.ImplementationVersion = Some (0x10, 2)
numbers_of (calls.Probe extension) = Some (0x10, 3)
numbers_of calls.VendorId = Some (0x10, 4)
numbers_of calls.ArchitectureId = Some (0x10, 5)
numbers_of calls.MachineId = Some (0x10, 6)
numbers_of (calls.HartStart hart address opaque) = Some (0x48534D, 0)
numbers_of calls.HartStop = Some (0x48534D, 1)
numbers_of (calls.HartStatus hart) = Some (0x48534D, 2)
numbers_of (calls.HartSuspend kind address opaque) = Some (0x48534D, 3)
numbers_of (calls.SendIpi mask base) = Some (0x735049, 0)
numbers_of (calls.SystemReset kind reason) = Some (0x53525354, 0)
numbers_of (calls.SystemSuspend kind address opaque) = Some (0x53555350, 0)
numbers_of calls.Unknown = None

-- its arguments are what a0, a1 and a2 hold; those declared 32 bits wide are the low half
abbrev pub HasArguments : ℕ → ℕ → ℕ → Call → Type 0
HasArguments a b c (calls.Probe extension) = extension ≡ a
HasArguments a b c (calls.HartStart hart address opaque) = (hart ≡ a) × (address ≡ b) × (opaque ≡ c)
HasArguments a b c (calls.HartStatus hart) = hart ≡ a
HasArguments a b c (calls.HartSuspend kind address opaque) = (kind ≡ low a) × (address ≡ b) × (opaque ≡ c)
HasArguments a b c (calls.SendIpi mask base) = (mask ≡ a) × (base ≡ b)
HasArguments a b c (calls.SystemReset kind reason) = (kind ≡ low a) × (reason ≡ low b)
HasArguments a b c (calls.SystemSuspend kind address opaque) = (kind ≡ low a) × (address ≡ b) × (opaque ≡ c)
HasArguments a b c _ = Unit {0}

-- the extension and the function have no call
abbrev pub HasNoCall : ℕ → ℕ → Type 0
HasNoCall extension function = (call : Call) → numbers_of call ≡ Some (extension, function) → ⊥

-- the call is the row of that extension and function, with these arguments; Unknown stands for no row
abbrev pub IsCallAt : ℕ → ℕ → ℕ → ℕ → ℕ → Call → Type 0
IsCallAt extension function a b c calls.Unknown = HasNoCall extension function
IsCallAt extension function a b c call = (numbers_of call ≡ Some (extension, function)) × HasArguments a b c call
