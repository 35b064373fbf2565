use Rattle.std.proofs.Common.{◌≡◌, ◌+◌, ◌∙◌, ℕ, List, [], ◌∷◌, ◌++◌, Option, None, Some, ap, append_assoc, drop, get_or, refl, sym, take}
use Rattle.std.proofs.lemmas.{Bool.ne_eqb, List.take_more}
use Rattle.debug_session.{specs.Fields.{parted_at, parted_behind}, proofs.Written.front_here}
use Rattle.debug_session.proofs.fields.parted.Goals as goal

behind_both : (a b : List ℕ) (parts : Option (List ℕ × List ℕ)) → parted_behind (a ++ b) parts ≡ parted_behind a (parted_behind b parts)
behind_both a b None = refl
behind_both a b (Some p) = ap (λ (front : List ℕ). Some (front, p.1)) (append_assoc a b p.0)

-- not at the first byte
parted_later : (c b : ℕ) (more : List ℕ) → (b ≡ c → ⊥) → parted_at c (b ∷ more) ≡ parted_behind (b ∷ []) (parted_at c more)
parted_later c b more not = rw (ne_eqb b c not) refl

pub loop-i-preserved : goal.loop-i-preserved
loop-i-preserved c =
    let word = c.args.word.now in
    let byte = c.args.byte in
    let i = c.loop-i.i in
    let rest = drop (i + 1) word in
    let less = c.loop-i-test.true in
    c.loop-i.invariant ∙ ap (λ (xs : List ℕ). parted_behind (take i word) (parted_at byte xs)) (sym (front_here word i less))
    ∙ ap (parted_behind (take i word)) (parted_later byte (get_or word i 0) rest c.if-word-i.false)
    ∙ sym (behind_both (take i word) (get_or word i 0 ∷ []) (parted_at byte rest))
    ∙ ap (λ (front : List ℕ). parted_behind front (parted_at byte rest)) (sym (take_more word i 0 less))
