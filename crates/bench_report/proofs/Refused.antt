-- A hart whose durable call was refused is shown with the answer -1.
use Rattle.std.proofs.Common.{◌≡◌, ◌≢◌, ℕ, ◌-◌, ◌^◌, ◌<◌, Option, Some, None, Result, inl, inr, length, slice_set, refl, sym, ◌∙◌, ap, subst, arith}
use Rattle.std.proofs.{Math.Nat.lt_of_not-le, lemmas.List.{get_or_past, get_or-set_same, get_or-set_other}}
use Rattle.board_model.specs.Durable.{Change, refusal_of}
use Rattle.machine.specs.Machine.{Machine, hart_at}
use Rattle.hart.specs.State.{ArchState, reg, answered, never_started}
use Rattle.sbi_abi.specs.Calls.{call_of, call_at}
use Rattle.sbi_abi.specs.declared.call.Call.TheVariants as calls
use Rattle.bench_report.specs.{Bench.{BenchLife, Bench}, Happens.{out_of_memory, failed, acknowledged, in_doubt}, Turns.SuspendIssued}
use Rattle.bench_report.specs.Commands.{Writes, IssuedBy, Issued}

-- hart h of the board that is on shows the answer -1
abbrev pub WasRefused : ℕ → Bench → Type 0
WasRefused h new = (life : BenchLife) × (new.power ≡ Some life) × (reg (hart_at life.machine h) 10 ≡ 2 ^ 64 - 1)

pub one_life : (p : Option BenchLife) (x y : BenchLife) → p ≡ Some x → p ≡ Some y → y ≡ x
one_life p x y e f = let g : Some y ≡ Some x = sym f ∙ e in let h : y ≡ x = cc in h

-- ---- a command leaves the machine of its life as it is
abbrev HasMachine : Machine → Bench → Type 0
HasMachine m b = (life : BenchLife) → b.power ≡ Some life → life.machine ≡ m

has : (life : BenchLife) (b : Bench) → b.power ≡ Some life → HasMachine life.machine b
has life b on other also = ap (λ (l : BenchLife). l.machine) (one_life b.power life other on also)

moved : (m : Machine) (x new : Bench) → new ≡ x → HasMachine m x → HasMachine m new
moved m x new e h = subst (HasMachine m) (sym e) h

writes : (r : Option ℕ) (c : Change) (life : BenchLife) (b : Bench) (o : Result ℕ ℕ) (new : Bench) → b.power ≡ Some life → Writes r c life b o new → HasMachine life.machine new
writes (Some n) c life b o new on w = moved life.machine b new w.1 (has life b on)
writes None c life b o new on (inl w) = moved life.machine (acknowledged c life b) new w.1 (λ other also. ap (λ (l : BenchLife). l.machine) (one_life (acknowledged c life b).power _ other refl also))
writes None c life b o new on (inr (inl w)) = moved life.machine (failed w.1.0 b) new w.1.2 (has life b on)
writes None c life b o new on (inr (inr w)) = moved life.machine (failed w.1.0 (in_doubt c life b)) new w.1.2 (λ other also. ap (λ (l : BenchLife). l.machine) (one_life (in_doubt c life b).power _ other refl also))

by_doubt : (d : Option Change) (c : Change) (life : BenchLife) (b : Bench) (o : Result ℕ ℕ) (new : Bench) → b.power ≡ Some life → IssuedBy d c life b o new → HasMachine life.machine new
by_doubt (Some d) c life b o new on i = moved life.machine b new i.1 (has life b on)
by_doubt None c life b o new on (inl i) = moved life.machine b new i.2 (has life b on)
by_doubt None c life b o new on (inr i) = writes (refusal_of life.now c) c life b o new on i.1

pub issued_machine : (c : Change) (life : BenchLife) (b : Bench) (o : Result ℕ ℕ) (new : Bench) → b.power ≡ Some life → Issued c life b o new → (other : BenchLife) → new.power ≡ Some other → other.machine ≡ life.machine
issued_machine c life b o new on i = by_doubt life.doubt c life b o new on i

pub suspended_machine : (Fits : Type 0) (c : Change) (life : BenchLife) (b : Bench) (o : Result ℕ ℕ) (new : Bench) → b.power ≡ Some life → SuspendIssued Fits c life b o new → (other : BenchLife) → new.power ≡ Some other → other.machine ≡ life.machine
suspended_machine Fits c life b o new on (inl i) = issued_machine c life b o new on i.1
suspended_machine Fits c life b o new on (inr (inl i)) = moved life.machine (out_of_memory b) new i.2 (has life b on)
suspended_machine Fits c life b o new on (inr (inr i)) = moved life.machine b new i.2 (has life b on)

-- ---- a hart that stands at a known call is one of the board, and has its registers
has_registers : (s : ArchState) → call_of s ≢ calls.Unknown → 17 < length s.regs
has_registers s known = lt_of_not-le (λ few. known (ap (λ n. call_at n (reg s 16) (reg s 10) (reg s 11) (reg s 12)) (get_or_past s.regs 17 0 few)))

on_board : (m : Machine) (h : ℕ) → call_of (hart_at m h) ≢ calls.Unknown → h < length m.harts
on_board m h known = lt_of_not-le (λ few. known (ap call_of (get_or_past m.harts h (never_started h) few)))

read_back : (s : ArchState) (e : ℕ) → 17 < length s.regs → reg (answered s e 0) 10 ≡ e
read_back s e many = get_or-set_other (slice_set s.regs 10 e) 11 10 0 0 (λ same. omega (arith, same)) ∙ get_or-set_same s.regs 10 e 0 (omega (arith, many))

pub shown_answer : (m : Machine) (h e : ℕ) → call_of (hart_at m h) ≢ calls.Unknown → reg (hart_at (record m { harts = slice_set m.harts h (answered (hart_at m h) e 0) }) h) 10 ≡ e
shown_answer m h e known =
    ap (λ (s : ArchState). reg s 10) (get_or-set_same m.harts h (answered (hart_at m h) e 0) (never_started h) (on_board m h known))
    ∙ read_back (hart_at m h) e (has_registers (hart_at m h) known)
