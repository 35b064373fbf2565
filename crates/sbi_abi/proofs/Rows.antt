-- Each call is one row of the table, and the registers find it.
use Rattle.std.proofs.Common.{◌≡◌, ◌≢◌, ◌↔◌, ℕ, Option, Some, None, refl, sym, ap, subst, ne_eqb}
use mathlib.Core.Logic.{dite}
use native.Mathlib.Decide.{ℕ_discrete}
use Rattle.sbi_abi.specs.{Calls.{low, call_at}, Table.{numbers_of, HasArguments, HasNoCall, IsCallAt}, declared.call.Call.Call}
use Rattle.sbi_abi.specs.declared.call.Call.TheVariants as calls

abbrev first : Option (ℕ × ℕ) → ℕ
first None = 0
first (Some n) = n.0

abbrev second : Option (ℕ × ℕ) → ℕ
second None = 0
second (Some n) = n.1

abbrev pair : ℕ → ℕ → Option (ℕ × ℕ)
pair m n = Some (m, n)

-- equal numbers find the same
at_row : (m n e f a b c : ℕ) → pair m n ≡ pair e f → call_at e f a b c ≡ call_at m n a b c
at_row m n e f a b c same = ap (λ (p : Option (ℕ × ℕ)). call_at (first p) (second p) a b c) (sym same)

-- a row is found by its numbers
found : (e f a b c : ℕ) (call : Call) → numbers_of call ≡ Some (e, f) → HasArguments a b c call → call_at e f a b c ≡ call
found e f a b c calls.SpecVersion is has = at_row 0x10 0 e f a b c is
found e f a b c calls.ImplementationId is has = at_row 0x10 1 e f a b c is
found e f a b c calls.ImplementationVersion is has = at_row 0x10 2 e f a b c is
found e f a b c (calls.Probe x) is has = let s : call_at e f a b c ≡ calls.Probe a = at_row 0x10 3 e f a b c is in cc
found e f a b c calls.VendorId is has = at_row 0x10 4 e f a b c is
found e f a b c calls.ArchitectureId is has = at_row 0x10 5 e f a b c is
found e f a b c calls.MachineId is has = at_row 0x10 6 e f a b c is
found e f a b c (calls.HartStart h x o) is has = let s : call_at e f a b c ≡ calls.HartStart a b c = at_row 0x48534D 0 e f a b c is in cc
found e f a b c calls.HartStop is has = at_row 0x48534D 1 e f a b c is
found e f a b c (calls.HartStatus h) is has = let s : call_at e f a b c ≡ calls.HartStatus a = at_row 0x48534D 2 e f a b c is in cc
found e f a b c (calls.HartSuspend k x o) is has = let s : call_at e f a b c ≡ calls.HartSuspend (low a) b c = at_row 0x48534D 3 e f a b c is in cc
found e f a b c (calls.SendIpi m n) is has = let s : call_at e f a b c ≡ calls.SendIpi a b = at_row 0x735049 0 e f a b c is in cc
found e f a b c (calls.SystemReset k r) is has = let s : call_at e f a b c ≡ calls.SystemReset (low a) (low b) = at_row 0x53525354 0 e f a b c is in cc
found e f a b c (calls.SystemSuspend k x o) is has = let s : call_at e f a b c ≡ calls.SystemSuspend (low a) b c = at_row 0x53555350 0 e f a b c is in cc
found e f a b c calls.Unknown is has = absurd (cc)

not_unknown : (e f a b c : ℕ) (call : Call) → numbers_of call ≡ Some (e, f) → call_at e f a b c ≡ calls.Unknown → ⊥
not_unknown e f a b c calls.SpecVersion is u = let s : call_at e f a b c ≡ calls.SpecVersion = at_row 0x10 0 e f a b c is in cc
not_unknown e f a b c calls.ImplementationId is u = let s : call_at e f a b c ≡ calls.ImplementationId = at_row 0x10 1 e f a b c is in cc
not_unknown e f a b c calls.ImplementationVersion is u = let s : call_at e f a b c ≡ calls.ImplementationVersion = at_row 0x10 2 e f a b c is in cc
not_unknown e f a b c (calls.Probe x) is u = let s : call_at e f a b c ≡ calls.Probe a = at_row 0x10 3 e f a b c is in cc
not_unknown e f a b c calls.VendorId is u = let s : call_at e f a b c ≡ calls.VendorId = at_row 0x10 4 e f a b c is in cc
not_unknown e f a b c calls.ArchitectureId is u = let s : call_at e f a b c ≡ calls.ArchitectureId = at_row 0x10 5 e f a b c is in cc
not_unknown e f a b c calls.MachineId is u = let s : call_at e f a b c ≡ calls.MachineId = at_row 0x10 6 e f a b c is in cc
not_unknown e f a b c (calls.HartStart h x o) is u = let s : call_at e f a b c ≡ calls.HartStart a b c = at_row 0x48534D 0 e f a b c is in cc
not_unknown e f a b c calls.HartStop is u = let s : call_at e f a b c ≡ calls.HartStop = at_row 0x48534D 1 e f a b c is in cc
not_unknown e f a b c (calls.HartStatus h) is u = let s : call_at e f a b c ≡ calls.HartStatus a = at_row 0x48534D 2 e f a b c is in cc
not_unknown e f a b c (calls.HartSuspend k x o) is u = let s : call_at e f a b c ≡ calls.HartSuspend (low a) b c = at_row 0x48534D 3 e f a b c is in cc
not_unknown e f a b c (calls.SendIpi m n) is u = let s : call_at e f a b c ≡ calls.SendIpi a b = at_row 0x735049 0 e f a b c is in cc
not_unknown e f a b c (calls.SystemReset k r) is u = let s : call_at e f a b c ≡ calls.SystemReset (low a) (low b) = at_row 0x53525354 0 e f a b c is in cc
not_unknown e f a b c (calls.SystemSuspend k x o) is u = let s : call_at e f a b c ≡ calls.SystemSuspend (low a) b c = at_row 0x53555350 0 e f a b c is in cc
not_unknown e f a b c calls.Unknown is u = cc

-- ---- what is found is the row of the numbers
abbrev Finds : ℕ → ℕ → ℕ → ℕ → ℕ → Type 0
Finds a b c e f = IsCallAt e f a b c (call_at e f a b c)

nowhere : (e f a b c : ℕ) → call_at e f a b c ≡ calls.Unknown → Finds a b c e f
nowhere e f a b c u = subst (λ (x : Call). IsCallAt e f a b c x) (sym u) (λ call is. not_unknown e f a b c call is u)

try_at : (P : ℕ → Type 0) (f n : ℕ) → P n → (f ≢ n → P f) → P f
try_at P f n hit miss = dite (ℕ_discrete f n) (λ e. subst P (sym e) hit) miss

base_row : (f a b c : ℕ) → Finds a b c 0x10 f
base_row f a b c =
    try_at (Finds a b c 0x10) f 0 (refl, tt) (λ n0.
    try_at (Finds a b c 0x10) f 1 (refl, tt) (λ n1.
    try_at (Finds a b c 0x10) f 2 (refl, tt) (λ n2.
    try_at (Finds a b c 0x10) f 3 (refl, refl) (λ n3.
    try_at (Finds a b c 0x10) f 4 (refl, tt) (λ n4.
    try_at (Finds a b c 0x10) f 5 (refl, tt) (λ n5.
    try_at (Finds a b c 0x10) f 6 (refl, tt) (λ n6.
    nowhere 0x10 f a b c (rw (ne_eqb f 0 n0, ne_eqb f 1 n1, ne_eqb f 2 n2, ne_eqb f 3 n3, ne_eqb f 4 n4, ne_eqb f 5 n5, ne_eqb f 6 n6) refl))))))))

hsm_row : (f a b c : ℕ) → Finds a b c 0x48534D f
hsm_row f a b c =
    try_at (Finds a b c 0x48534D) f 0 (refl, (refl, refl, refl)) (λ n0.
    try_at (Finds a b c 0x48534D) f 1 (refl, tt) (λ n1.
    try_at (Finds a b c 0x48534D) f 2 (refl, refl) (λ n2.
    try_at (Finds a b c 0x48534D) f 3 (refl, (refl, refl, refl)) (λ n3.
    nowhere 0x48534D f a b c (rw (ne_eqb f 0 n0, ne_eqb f 1 n1, ne_eqb f 2 n2, ne_eqb f 3 n3) refl)))))

ipi_row : (f a b c : ℕ) → Finds a b c 0x735049 f
ipi_row f a b c =
    try_at (Finds a b c 0x735049) f 0 (refl, (refl, refl)) (λ n0.
    nowhere 0x735049 f a b c (rw (ne_eqb f 0 n0) refl))

srst_row : (f a b c : ℕ) → Finds a b c 0x53525354 f
srst_row f a b c =
    try_at (Finds a b c 0x53525354) f 0 (refl, (refl, refl)) (λ n0.
    nowhere 0x53525354 f a b c (rw (ne_eqb f 0 n0) refl))

susp_row : (f a b c : ℕ) → Finds a b c 0x53555350 f
susp_row f a b c =
    try_at (Finds a b c 0x53555350) f 0 (refl, (refl, refl, refl)) (λ n0.
    nowhere 0x53555350 f a b c (rw (ne_eqb f 0 n0) refl))

row : (e f a b c : ℕ) → Finds a b c e f
row e f a b c =
    try_at (λ (n : ℕ). Finds a b c n f) e 0x10 (base_row f a b c) (λ base.
    try_at (λ (n : ℕ). Finds a b c n f) e 0x48534D (hsm_row f a b c) (λ hsm.
    try_at (λ (n : ℕ). Finds a b c n f) e 0x735049 (ipi_row f a b c) (λ ipi.
    try_at (λ (n : ℕ). Finds a b c n f) e 0x53525354 (srst_row f a b c) (λ srst.
    try_at (λ (n : ℕ). Finds a b c n f) e 0x53555350 (susp_row f a b c) (λ susp.
    nowhere e f a b c (rw (ne_eqb e 0x10 base, ne_eqb e 0x48534D hsm, ne_eqb e 0x735049 ipi, ne_eqb e 0x53525354 srst, ne_eqb e 0x53555350 susp) refl))))))

-- where no row has the numbers, the one found is none
is_unknown : (e f a b c : ℕ) → HasNoCall e f → (x : Call) → IsCallAt e f a b c x → x ≡ calls.Unknown
is_unknown e f a b c none calls.SpecVersion is = absurd (none calls.SpecVersion is.0)
is_unknown e f a b c none calls.ImplementationId is = absurd (none calls.ImplementationId is.0)
is_unknown e f a b c none calls.ImplementationVersion is = absurd (none calls.ImplementationVersion is.0)
is_unknown e f a b c none (calls.Probe x) is = absurd (none (calls.Probe x) is.0)
is_unknown e f a b c none calls.VendorId is = absurd (none calls.VendorId is.0)
is_unknown e f a b c none calls.ArchitectureId is = absurd (none calls.ArchitectureId is.0)
is_unknown e f a b c none calls.MachineId is = absurd (none calls.MachineId is.0)
is_unknown e f a b c none (calls.HartStart h x o) is = absurd (none (calls.HartStart h x o) is.0)
is_unknown e f a b c none calls.HartStop is = absurd (none calls.HartStop is.0)
is_unknown e f a b c none (calls.HartStatus h) is = absurd (none (calls.HartStatus h) is.0)
is_unknown e f a b c none (calls.HartSuspend k x o) is = absurd (none (calls.HartSuspend k x o) is.0)
is_unknown e f a b c none (calls.SendIpi m n) is = absurd (none (calls.SendIpi m n) is.0)
is_unknown e f a b c none (calls.SystemReset k r) is = absurd (none (calls.SystemReset k r) is.0)
is_unknown e f a b c none (calls.SystemSuspend k x o) is = absurd (none (calls.SystemSuspend k x o) is.0)
is_unknown e f a b c none calls.Unknown is = refl

finds : (e f a b c : ℕ) (call : Call) → IsCallAt e f a b c call → call_at e f a b c ≡ call
finds e f a b c calls.SpecVersion is = found e f a b c calls.SpecVersion is.0 is.1
finds e f a b c calls.ImplementationId is = found e f a b c calls.ImplementationId is.0 is.1
finds e f a b c calls.ImplementationVersion is = found e f a b c calls.ImplementationVersion is.0 is.1
finds e f a b c (calls.Probe x) is = found e f a b c (calls.Probe x) is.0 is.1
finds e f a b c calls.VendorId is = found e f a b c calls.VendorId is.0 is.1
finds e f a b c calls.ArchitectureId is = found e f a b c calls.ArchitectureId is.0 is.1
finds e f a b c calls.MachineId is = found e f a b c calls.MachineId is.0 is.1
finds e f a b c (calls.HartStart h x o) is = found e f a b c (calls.HartStart h x o) is.0 is.1
finds e f a b c calls.HartStop is = found e f a b c calls.HartStop is.0 is.1
finds e f a b c (calls.HartStatus h) is = found e f a b c (calls.HartStatus h) is.0 is.1
finds e f a b c (calls.HartSuspend k x o) is = found e f a b c (calls.HartSuspend k x o) is.0 is.1
finds e f a b c (calls.SendIpi m n) is = found e f a b c (calls.SendIpi m n) is.0 is.1
finds e f a b c (calls.SystemReset k r) is = found e f a b c (calls.SystemReset k r) is.0 is.1
finds e f a b c (calls.SystemSuspend k x o) is = found e f a b c (calls.SystemSuspend k x o) is.0 is.1
finds e f a b c calls.Unknown is = is_unknown e f a b c is (call_at e f a b c) (row e f a b c)

pub registers_determine_call : (e f a b c : ℕ) (call : Call) → call_at e f a b c ≡ call ↔ IsCallAt e f a b c call
registers_determine_call e f a b c call = ((λ is. subst (λ (x : Call). IsCallAt e f a b c x) is (row e f a b c)), finds e f a b c call)
