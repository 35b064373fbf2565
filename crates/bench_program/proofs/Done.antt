-- Options that were done over a source and files.
use Rattle.std.proofs.{Common.{◌≡◌, ◌⊎◌, ◌<◌, inl, ℕ, Bool, List, Option, Result, IfSome, OnOk, subst}, lemmas.Result.on_ok_weaker}
use Rattle.board_files.specs.Named.{AreFilesOf}
use Rattle.bench_program.specs.{Usage.payload_files, Written.{AreDone, IsFaultIn, IsFaultOf, IsReadOf, IsWritten, source_of}}
use Rattle.bench_program.{specs.declared.{fault.BenchFault.BenchFault, usage.BenchOptions.BenchOptions}, proofs.Bounded.read_says}

pub done_of : {T X : Type 0} (r : Result T X) (D E F : Type 0) → (D → E) → OnOk r (D × F) → OnOk r (E × F)
done_of r D E F f ok = on_ok_weaker r (λ w. (f w.0, w.1)) ok

pub done_or : {T X : Type 0} (r : Result T X) (D E F N : Type 0) → (D → E) → OnOk r (D × F) → OnOk r ((E × F) ⊎ N)
done_or r D E F N f ok = on_ok_weaker r (λ w. inl (f w.0, w.1)) ok

pub wrong_of : (D E : ℕ → Type 0) (F : Type 0) → ((n : ℕ) → D n → E n) → ((differ : ℕ) × (0 < differ) × (D differ × F))
    → (differ : ℕ) × (0 < differ) × (E differ × F)
wrong_of D E F f (differ, some, (d, k)) = (differ, some, (f differ d, k))

-- the script was read, and the work done over what its text holds
module _ (options : BenchOptions) (bytes_at : List ℕ → Option (List ℕ)) (input : Option (List ℕ)) (payloads : List (List ℕ)) (script s : List ℕ)
    (is_script : s ≡ script) (files : AreFilesOf bytes_at (payload_files options) payloads) (bytes : IfSome (source_of options bytes_at input) (IsReadOf script)) where
  pub over : (differ : ℕ) (a b : Option (List ℕ)) → IsWritten options payloads s differ a b → AreDone options bytes_at input differ a b
  over differ a b is =
      let P : List ℕ → Type 0 = λ x. IsWritten options payloads x differ a b in
      (payloads, files, (script, read_says (source_of options bytes_at input) script bytes, bytes, subst P is_script is))

  pub fault_over : (gone : Bool) (fault : BenchFault) → IsFaultIn options.work payloads s gone fault → IsFaultOf options bytes_at input gone fault
  fault_over gone fault is =
      let P : List ℕ → Type 0 = λ x. IsFaultIn options.work payloads x gone fault in
      (payloads, script, files, read_says (source_of options bytes_at input) script bytes, bytes, subst P is_script is)
