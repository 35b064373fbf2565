-- The part of two numbers.
use Rattle.std.proofs.Common.{◌≡◌, ◌∙◌, ◌⊎◌, inl, inr, ℕ, ◌<◌, ◌≤◌, Option, None, Some, MatchOption, refl, ap, subst, arith}
use Rattle.std.proofs.lemmas.Bool.{cases_lt}
use denote.Struct.Props.{props}
use Rattle.crew.specs.declared.part.Part.{Part}
use Rattle.bench_program.specs.Usage.{part_between, part_if}

-- each of the three facts has one proof at most
one_proof : (n m : ℕ) → IsProp (n ≤ m)
one_proof n m = hlevel props

part_kept : (p : Part) (some : 1 ≤ p.number) (within : p.number ≤ p.of) (most : p.of ≤ 4096) → Some p ≡ part_if p.number p.of (inr some) (inr within) (inr most)
part_kept p some within most =
    ap (λ (s : 1 ≤ p.number). part_if p.number p.of (inr s) (inr p.within) (inr p.most)) (one_proof 1 p.number p.some some)
    ∙ ap (λ (s : p.number ≤ p.of). part_if p.number p.of (inr some) (inr s) (inr p.most)) (one_proof p.number p.of p.within within)
    ∙ ap (λ (s : p.of ≤ 4096). part_if p.number p.of (inr some) (inr within) (inr s)) (one_proof p.of 4096 p.most most)

part_same : (p : Part) (k of : ℕ) (some : 1 ≤ k) (within : k ≤ of) (most : of ≤ 4096) → p.number ≡ k → p.of ≡ of
    → Some p ≡ part_if k of (inr some) (inr within) (inr most)
part_same p k of some within most e f =
    let P : ℕ → ℕ → Type 0 = λ n m. (s : 1 ≤ n) (w : n ≤ m) (t : m ≤ 4096) → Some p ≡ part_if n m (inr s) (inr w) (inr t) in
    let Q : ℕ → Type 0 = λ n. P n p.of in
    let R : ℕ → Type 0 = λ m. P k m in
    (subst R f (subst Q e (part_kept p))) some within most

part_by : (r : Option Part) (k of : ℕ) (a : (k < 1) ⊎ (1 ≤ k)) (b : (of < k) ⊎ (k ≤ of)) (c : (4096 < of) ⊎ (of ≤ 4096))
    → MatchOption r ((k < 1) ⊎ (of < k) ⊎ (4096 < of)) (λ part. (part.number ≡ k) × (part.of ≡ of)) → r ≡ part_if k of a b c
part_by None k of (inl x) b c h = refl
part_by None k of (inr x) (inl y) c h = refl
part_by None k of (inr x) (inr y) (inl z) h = refl
part_by None k of (inr x) (inr y) (inr z) (inl h) = absurd (omega (arith, x, h))
part_by None k of (inr x) (inr y) (inr z) (inr (inl h)) = absurd (omega (arith, y, h))
part_by None k of (inr x) (inr y) (inr z) (inr (inr h)) = absurd (omega (arith, z, h))
part_by (Some p) k of (inl x) b c h = absurd (let some = p.some in let e = h.0 in omega (arith, x, some, e))
part_by (Some p) k of (inr x) (inl y) c h = absurd (let within = p.within in let e = h.0 in let f = h.1 in omega (arith, y, within, e, f))
part_by (Some p) k of (inr x) (inr y) (inl z) h = absurd (let most = p.most in let f = h.1 in omega (arith, z, most, f))
part_by (Some p) k of (inr x) (inr y) (inr z) h = part_same p k of x y z h.0 h.1

pub part_new : (r : Option Part) (k of : ℕ) → MatchOption r ((k < 1) ⊎ (of < k) ⊎ (4096 < of)) (λ part. (part.number ≡ k) × (part.of ≡ of))
    → r ≡ part_between (Some k) (Some of)
part_new r k of h = part_by r k of (cases_lt k 1) (cases_lt of k) (cases_lt 4096 of) h
