use Rattle.std.{proofs.{Common.{◌≡◌, ℕ, ◌+◌, ◌*◌, ◌-◌, ◌/◌, ◌%◌, ◌^◌, ◌<◌, sym, ap, ◌∙◌, arith}, Math.Nat.mod-lt}, specs.Int.bit_at}
use Rattle.std.proofs.lemmas.Nat.{pow_pos, div-add-mod', Bits.{bit_at_cat_low, bit_at_cat_high}}
use Rattle.board_model.proofs.hart_set.HartSet.in_byte.Goals as goal

-- the bits of a byte are those of the number from its place on
byte_bits : (n k h : ℕ) → h < 8 → bit_at (n / 2 ^ k % 2 ^ 8) h ≡ bit_at n (k + h)
byte_bits n k h lt =
    let q = n / 2 ^ k in
    let back : k + h - k ≡ h = omega arith in
    sym (bit_at_cat_low (q / 2 ^ 8) 8 (q % 2 ^ 8) h lt) ∙ ap (λ m. bit_at m h) (div-add-mod' q (2 ^ 8))
    ∙ sym (bit_at_cat_high q k (n % 2 ^ k) (k + h) (mod-lt n (pow_pos k)) (omega arith) ∙ ap (bit_at q) back)
    ∙ ap (λ m. bit_at m (k + h)) (div-add-mod' n (2 ^ k))

pub returns-clause-bits : goal.returns-clause-bits
returns-clause-bits c = λ h lt. byte_bits c.args.word (8 * c.args.byte) h lt
