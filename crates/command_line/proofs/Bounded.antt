-- What is read of an input up to a bound.
use Rattle.std.{proofs.Common.{◌≡◌, ◌∙◌, ℕ, List, [], ◌++◌, Option, None, Some, IfSome, take, ap}, specs.Option.option_map}
use Rattle.std.specs.{Io.Take.{take_inner, take_limit, take_remaining}, declared.io.traits.Take.Take}

read_up_to : (n : ℕ) (known : Option (List ℕ)) (old read : List ℕ) → old ≡ [] → IfSome (option_map (take n) known) (λ more. read ≡ old ++ more) → IfSome known (λ bytes. read ≡ take n bytes)
read_up_to n None old read o e = e
read_up_to n (Some bytes) old read o e = e ∙ ap (λ front. front ++ take n bytes) o

-- what was read of bytes that are known is their beginning
pub read_first : {R : Type 0} (remaining : R → Option (List ℕ)) (taken : Take R) (input : R) (n : ℕ) (old read : List ℕ) → take_inner taken ≡ input → take_limit taken ≡ n → old ≡ [] → IfSome (take_remaining remaining taken) (λ more. read ≡ old ++ more) → IfSome (remaining input) (λ bytes. read ≡ take n bytes)
read_first remaining taken input n old read i l o e = rw (← i, ← l) (read_up_to (take_limit taken) (remaining (take_inner taken)) old read o e)
