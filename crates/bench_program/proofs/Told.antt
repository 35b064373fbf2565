-- Which faults a work may have.
use Rattle.std.proofs.Common.{◌≡◌, ◌∙◌, ◌⊎◌, inl, inr, ℕ, Bool, true, false, List, ap, Option, None, Some, IsSome, get_or, refl, sym, subst}
use Rattle.std.specs.declared.io.ErrorKind.{ErrorKind}
use Rattle.board_model.specs.declared.refusal.Refusal.{Refusal, TheVariants.Memory}
use Rattle.bench_program.specs.{Written.{IsFaultIn, IsFaultOf, IsRefusedWith, IsUnread, IsFault}, Faults.{fault_by, unread_by}}
use Rattle.bench_program.specs.{Usage.IsNamedBy, declared.{fault.BenchFault.{BenchFault, TheVariants.Refused}, usage.Work.Work}}
use Rattle.bench_program.specs.declared.usage.BenchOptions.{BenchOptions}
use Rattle.board_files.proofs.PayloadFaults.{file_fault}
use Rattle.command_line.specs.{Faults.fault_of_kind, declared.fault.ProgramFault.ProgramFault}
use Rattle.command_line.specs.declared.fault.ProgramFault.TheVariants as causes

-- a refused work, whose reader may be gone
pub told : (work : Work) (payloads : List (List ℕ)) (script : List ℕ) (gone : Bool) (e : Refusal) (fault : BenchFault) → fault ≡ fault_by gone e
    → IsRefusedWith work payloads script e → IsFaultIn work payloads script gone fault
told work payloads script gone e fault is why = let P : BenchFault → Type 0 = λ f. IsFaultIn work payloads script gone f in subst P (sym is) (by gone)
  where
    by : (b : Bool) → IsFaultIn work payloads script b (fault_by b e)
    by true = refl
    by false = (refl, why)

-- a payload file was not read
pub unread_named : (options : BenchOptions) (why : ProgramFault) (fault : BenchFault) → fault ≡ unread_by why → (why ≡ causes.File) ⊎ (why ≡ causes.Refused Memory)
    → (slot : ℕ) × IsSome (get_or options.payloads slot None) → IsUnread options fault ⊎ (fault ≡ Refused Memory)
unread_named options why fault e (inl is) some = inl (inl (e ∙ ap unread_by is, inl some))
unread_named options why fault e (inr is) some = inr (e ∙ ap unread_by is)

-- the script's file was not read
unread_by_cause : (options : BenchOptions) (why : ProgramFault) (fault : BenchFault) → fault ≡ unread_by why → (why ≡ causes.File) ⊎ (why ≡ causes.Refused Memory) → IsSome options.script
    → IsUnread options fault ⊎ (fault ≡ Refused Memory)
unread_by_cause options why fault e (inl is) some = inl (inl (e ∙ ap unread_by is, inr some))
unread_by_cause options why fault e (inr is) some = inr (e ∙ ap unread_by is)

is_some : {A : Type 0} (option : Option A) (value : A) → option ≡ Some value → IsSome option
is_some {A} option value is = subst (λ (o : Option A). IsSome o) (sym is) refl

pub unread_script : (options : BenchOptions) {A : Type 0} (option : Option A) (value : A) (why : ProgramFault) (kind : ErrorKind) (fault : BenchFault) → fault ≡ unread_by why → why ≡ fault_of_kind kind
    → (IsSome option → IsSome options.script) → option ≡ Some value → IsUnread options fault ⊎ (fault ≡ Refused Memory)
unread_script options {A} option value why kind fault e is same some = unread_by_cause options why fault e (file_fault why kind is) (same (is_some option value some))

-- a fault of options that the words name
pub of_options : (words : List (List ℕ)) (bytes_at : List ℕ → Option (List ℕ)) (input : Option (List ℕ)) (gone : Bool) (fault : BenchFault) (options : BenchOptions) → IsNamedBy words options
    → IsUnread options fault ⊎ (fault ≡ Refused Memory) ⊎ IsFaultOf options bytes_at input gone fault → IsFault words bytes_at input gone fault
of_options words bytes_at input gone fault options named (inl is) = inl (options, named, inl is)
of_options words bytes_at input gone fault options named (inr (inl memory)) = inr (inr memory)
of_options words bytes_at input gone fault options named (inr (inr is)) = inl (options, named, inr is)
