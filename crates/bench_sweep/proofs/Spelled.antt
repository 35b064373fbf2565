-- What `{:02x}` writes of a byte is how a script has it.
use Rattle.std.proofs.Common.{◌≡◌, ◌<◌, ◌/◌, ◌%◌, ◌&&◌, ◌==◌, Bool, true, false, ℕ, zero, suc, [], ◌∷◌, Option, Some, slice_index, refl, ◌∙◌, ap, inl, inr, arith}
use Rattle.std.proofs.lemmas.{Fmt.hex_byte, Bool.{and_parts, cases_lt, eqb-true}}
use Rattle.std.specs.Fmt.{digits, digit_glyph, padded_integral, format_spec}
use Rattle.simdisk.specs.declared.fill.Fill.{Fill, TheVariants.Byte}
use Rattle.bench_sweep.specs.Rows.{fill_part}
use Rattle.hex.specs.Hex.{encode_lower, encode_with, lower_digits}

-- the glyphs of the digits below a bound are those of the table: a test that computes
abbrev are_glyphs : ℕ → Bool
are_glyphs zero = true
are_glyphs (suc n) = (digit_glyph false n == slice_index lower_digits n) && are_glyphs n

glyphs-at : (n d : ℕ) → are_glyphs n ≡ true → d < n → (digit_glyph false d == slice_index lower_digits d) ≡ true
glyphs-at zero d h lt = absurd (omega arith)
glyphs-at (suc n) d h lt =
    let parts = and_parts (digit_glyph false n == slice_index lower_digits n) (are_glyphs n) h in
    elim (cases_lt d n) [
      | inl below ↦ glyphs-at n d parts.1 below
      | inr top ↦
          let e : d ≡ n = omega arith in
          rw e parts.0
    ]

glyph : (d : ℕ) → d < 16 → digit_glyph false d ≡ slice_index lower_digits d
glyph d lt = eqb-true (digit_glyph false d) (slice_index lower_digits d) (glyphs-at 16 d refl lt)

pub padded_byte : (n : ℕ) → n < 256 → padded_integral (format_spec 32 0 4 2 18446744073709551615) false [] (digits 16 false n) ≡ encode_lower (n ∷ [])
unfolding encode_with
padded_byte n lt =
    let high = glyph (n / 16) (omega arith) in
    let low = glyph (n % 16) (omega arith) in
    hex_byte false n lt ∙ rw (high, low) refl

-- and that is the part of a row
pub fill_part-byte : (part : Option Fill) (fill : Fill) (byte : ℕ) → part ≡ Some fill → fill ≡ Byte byte → fill_part part ≡ 32 ∷ encode_lower (byte ∷ [])
fill_part-byte part fill byte some is = ap fill_part (some ∙ ap Some is)
