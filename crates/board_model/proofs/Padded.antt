-- What `{:0Nx}` writes.
use Rattle.std.proofs.{Common.{◌≡◌, ℕ, List, [], ◌++◌, ◌-◌, length, replicate, false, arith}, lemmas.Grind.common_steps}
use Rattle.std.specs.Fmt.{padded_integral, format_spec, char_count}

pub padded_zeros : (w : ℕ) (text : List ℕ) → padded_integral (format_spec 32 0 4 w 18446744073709551615) false [] text ≡ replicate (w - length text) 48 ++ text
unfolding padded_integral char_count
padded_zeros w text = grind (arith, common_steps)
