use Rattle.std.proofs.Common.{◌≡◌, ◌∙◌, ℕ, ◌+◌, ◌-◌, ◌≤◌, ◌++◌, List, length, refl, sym, ap, replicate, take, drop, arith, length-append, length-take, length-drop}
use Rattle.std.proofs.lemmas.{List.{drop-replicate, drop-drop, length-take-le}, Slice.{drop-put_mid, take-put_mid}}
use borrow.Rule.Slice.PartMut.{mid_of, put_mid}
use Rattle.layout.proofs.fields.Filling.bytes.Goals as goal

module _ (filled count : ℕ) (sector new : List ℕ) (whole : length sector ≡ 512) (fits : filled + count ≤ 512) (same : length new ≡ count) where
  -- the zeros after what was filled
  zeros_left : drop filled sector ≡ replicate (512 - filled) 0 → drop (filled + count) (put_mid filled (filled + count - filled) sector new) ≡ replicate (512 - (filled + count)) 0
  zeros_left zeros =
      drop-put_mid filled (filled + count - filled) sector new (filled + count) (omega arith) (omega arith) (omega arith)
      ∙ sym (drop-drop count filled sector)
      ∙ ap (drop count) zeros
      ∙ drop-replicate count (512 - filled) 0
      ∙ ap (λ (n : ℕ). replicate n 0) (omega arith)

  as_long : length (put_mid filled (filled + count - filled) sector new) ≡ 512
  as_long = simp (length-append, length-take, length-drop) (omega arith)

  part_long : length (mid_of filled (filled + count - filled) sector) ≡ count
  part_long = simp (length-take, length-drop) (omega arith)

  filled_more : take (filled + count) (put_mid filled (filled + count - filled) sector new) ≡ take filled sector ++ new
  filled_more = take-put_mid filled (filled + count - filled) sector new (filled + count) (omega arith) (omega arith)

fits_more : (filled : ℕ) (sector held bytes : List ℕ) → length sector ≡ 512 → filled ≤ 512 → take filled sector ≡ held → length held + length bytes ≤ 512 → filled + length bytes ≤ 512
fits_more filled sector held bytes whole low is few = omega (arith, ap length (sym is) ∙ length-take-le filled sector (omega (arith, whole, low)), few)

pub invariant_of-self : goal.invariant_of-self
invariant_of-self c =
    let s = c.self.inside in
    let bytes = c.args.bytes.now in
    let count : length s.sector ≡ 512 = c.self.invariant.1 in
    let fits : s.filled + length bytes ≤ 512 = fits_more s.filled s.sector c.args.self.now bytes count c.self.invariant.0 c.self.view_is c.requires in
    let same : length c.copy_from_slice.new.self ≡ length bytes = ap length c.copy_from_slice.ensures.after in
    (fits, as_long s.filled (length bytes) s.sector c.copy_from_slice.new.self count fits same, zeros_left s.filled (length bytes) s.sector c.copy_from_slice.new.self count fits same c.self.invariant.2)

pub overflow_add-end : goal.overflow_add-end
overflow_add-end c =
    let s = c.self.inside in
    let fits = fits_more s.filled s.sector c.args.self.now c.args.bytes.now c.self.invariant.1 c.self.invariant.0 c.self.view_is c.requires in
    omega (arith, fits)

pub copy_from_slice-requires : goal.copy_from_slice-requires
copy_from_slice-requires c =
    let s = c.self.inside in
    let fits = fits_more s.filled s.sector c.args.self.now c.args.bytes.now c.self.invariant.1 c.self.invariant.0 c.self.view_is c.requires in
    part_long s.filled (length c.args.bytes.now) s.sector c.args.bytes.now c.self.invariant.1 fits refl

pub returns-clause-value : goal.returns-clause-value
returns-clause-value c =
    let s = c.self.inside in
    let fits = fits_more s.filled s.sector c.args.self.now c.args.bytes.now c.self.invariant.1 c.self.invariant.0 c.self.view_is c.requires in
    let same : length c.copy_from_slice.new.self ≡ length c.args.bytes.now = ap length c.copy_from_slice.ensures.after in
    filled_more s.filled (length c.args.bytes.now) s.sector c.copy_from_slice.new.self c.self.invariant.1 fits same ∙ ap (λ (l : List ℕ). take s.filled s.sector ++ l) c.copy_from_slice.ensures.after
    ∙ ap (λ (l : List ℕ). l ++ c.args.bytes.now) c.self.view_is

pub returns-clause-longer : goal.returns-clause-longer
returns-clause-longer c =
    let s = c.self.inside in
    let fits = fits_more s.filled s.sector c.args.self.now c.args.bytes.now c.self.invariant.1 c.self.invariant.0 c.self.view_is c.requires in
    let same : length c.copy_from_slice.new.self ≡ length c.args.bytes.now = ap length c.copy_from_slice.ensures.after in
    ap length (filled_more s.filled (length c.args.bytes.now) s.sector c.copy_from_slice.new.self c.self.invariant.1 fits same ∙ ap (λ (l : List ℕ). take s.filled s.sector ++ l) c.copy_from_slice.ensures.after
    ∙ ap (λ (l : List ℕ). l ++ c.args.bytes.now) c.self.view_is)
    ∙ length-append c.args.self.now c.args.bytes.now
