-- A line of a control and status register says one thing.
use Rattle.std.proofs.{Common.{ℕ, ◌≡◌, ◌≢◌, ◌⊎◌, List, [], ◌∷◌, length, inl, inr, sym, ◌∙◌, arith}, lemmas.Bool.{cases_eq, cases_lt}}
use Rattle.hart.specs.{Csrs.csr_number, declared.csr.Csr.{Csr, TheVariants.{Sstatus, Sie, Stvec, Sscratch, Sepc, Scause, Stval, Sip, Satp}}}
use Rattle.machine.specs.{Machine.Machine, Shows.{HasHart, CsrLine}, declared.line.MachineLine.MachineLine}

-- the number is that of one in the list, or of none in it
abbrev AreOthers : ℕ → List Csr → Type 0
AreOthers n [] = Unit {0}
AreOthers n (c ∷ cs) = (csr_number c ≢ n) × AreOthers n cs

among : (n : ℕ) (cs : List Csr) → ((c : Csr) × (csr_number c ≡ n)) ⊎ AreOthers n cs
among n [] = inr tt
among n (c ∷ cs) =
    elim (cases_eq (csr_number c) n) [
      | inl e ↦ inl (c, e)
      | inr m ↦ elim (among n cs) [ inl found ↦ inl found | inr others ↦ inr (m, others) ]
    ]

abbrev all_csrs : List Csr
all_csrs = Sstatus ∷ Sie ∷ Stvec ∷ Sscratch ∷ Sepc ∷ Scause ∷ Stval ∷ Sip ∷ Satp ∷ []

none_of_all : (n : ℕ) → AreOthers n all_csrs → (c : Csr) → csr_number c ≢ n
none_of_all n o Sstatus = o.0
none_of_all n o Sie = o.1.0
none_of_all n o Stvec = o.1.1.0
none_of_all n o Sscratch = o.1.1.1.0
none_of_all n o Sepc = o.1.1.1.1.0
none_of_all n o Scause = o.1.1.1.1.1.0
none_of_all n o Stval = o.1.1.1.1.1.1.0
none_of_all n o Sip = o.1.1.1.1.1.1.1.0
none_of_all n o Satp = o.1.1.1.1.1.1.1.1.0

pub one_csr : (h n : ℕ) (m : Machine) (line also : MachineLine) → CsrLine h n m line → CsrLine h n m also → line ≡ also
one_csr h n m line also x y =
    elim (cases_lt h (length m.harts)) [
      | inl has ↦ elim (among n all_csrs) [
        | inl c ↦ x.shown has c.0 c.1 ∙ sym (y.shown has c.0 c.1)
        | inr others ↦ (let none = none_of_all n others in x.no_csr none ∙ sym (y.no_csr none))
      ]
      | inr past ↦ (let lacks : HasHart m h → ⊥ = λ has. omega (arith, has, past) in x.lacks lacks ∙ sym (y.lacks lacks))
    ]
