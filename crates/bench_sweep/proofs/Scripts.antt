-- Scripts that no bench runs.
use Rattle.std.{proofs.Common.{◌≡◌, ◌⊎◌, ℕ, List, Result, Ok, Err, inl, inr, sym, ◌∙◌, subst}, specs.Result.IsErrAnd}
use Rattle.board_model.{specs.declared.refusal.Refusal.{Refusal, TheVariants.{Memory, NotPlain}}, proofs.Exits.err_is}
use Rattle.script_lang.specs.{Scripts.{script_of, Script}, declared.line.Line.Line}
use Rattle.bench_sweep.specs.Swept.{IsNotPlain, NoBenchRuns}

-- a script with such lines
pub unswept : (script : List ℕ) (said : Script) (lines : List Line) → script_of script ≡ Ok said → lines ≡ said.lines → IsNotPlain lines → NoBenchRuns script
unswept script said lines is same none = let P : List Line → Type 0 = λ ls. IsNotPlain ls in (said, is, subst P same none)

-- one with other lines is none of them
pub swept : {A : Type 0} (script : List ℕ) (said other : Script) (lines : List Line) → script_of script ≡ Ok said → script_of script ≡ Ok other → lines ≡ said.lines → (IsNotPlain lines → ⊥) → IsNotPlain other.lines → A
swept script said other lines is also same runs none =
    let e : ◌≡◌ {A = Result Script Refusal} (Ok other) (Ok said) = sym also ∙ is in
    let one : other ≡ said = cc in
    let P : List Line → Type 0 = λ ls. IsNotPlain ls in
    let Q : Script → Type 0 = λ s. IsNotPlain s.lines in
    absurd (runs (subst P (sym same) (subst Q one none)))

-- a script that is read has no fault
pub no_fault : {A : Type 0} (script : List ℕ) (said : Script) (e : Refusal) → script_of script ≡ Ok said → script_of script ≡ Err e → A
no_fault script said e is fault =
    let both : ◌≡◌ {A = Result Script Refusal} (Ok said) (Err e) = sym is ∙ fault in
    let no : ⊥ = cc in
    absurd no

-- why a bench refuses a script before it runs anything
abbrev pub Refuses : List ℕ → Refusal → Type 0
Refuses script e = (e ≡ Memory) ⊎ (script_of script ≡ Err e) ⊎ ((e ≡ NotPlain) × NoBenchRuns script)

-- of one that has a fault, and of one that has none
pub fault_told : {T : Type 0} (script : List ℕ) (r : Result T Refusal) (said e : Refusal) → IsErrAnd r (λ y. y ≡ said) → Refuses script said → script_of script ≡ Err e → (r ≡ Err e) ⊎ (r ≡ Err Memory)
fault_told script r said e is (inl memory) fault = inr (err_is r said Memory is memory)
fault_told script r said e is (inr (inl told)) fault =
    let both : ◌≡◌ {A = Result Script Refusal} (Err said) (Err e) = sym told ∙ fault in
    let one : said ≡ e = cc in
    inl (err_is r said e is one)
fault_told script r said e is (inr (inr none)) fault = no_fault script none.1.0 e none.1.1 fault

pub plain_told : {T : Type 0} (script : List ℕ) (r : Result T Refusal) (fail : Refusal) (said : Script) → IsErrAnd r (λ y. y ≡ fail) → Refuses script fail → script_of script ≡ Ok said → (r ≡ Err NotPlain) ⊎ (r ≡ Err Memory)
plain_told script r fail said is (inl memory) read = inr (err_is r fail Memory is memory)
plain_told script r fail said is (inr (inl told)) read = no_fault script said fail read told
plain_told script r fail said is (inr (inr none)) read = inl (err_is r fail NotPlain is none.0)
