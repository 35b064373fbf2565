-- A number that was written is the number that is read.
use Rattle.std.proofs.Common.{◌≡◌, ◌∙◌, zero, suc, ℕ, ◌+◌, ◌-◌, ◌^◌, ◌<◌, List, [], ◌∷◌, ◌++◌, length, drop, replicate, refl, sym, ap, subst, append_assoc, length-append, arith}
use Rattle.std.proofs.Math.Seq.{drop-append_seam}
use Rattle.byteorder.specs.{Endian.little_number, Numbers.{little_number-reads_back, length-bytes_low_first}}
use Rattle.board_model.specs.Shapes.{Size, board_size}
use Rattle.layout.specs.Superblocks.{magic, HasMagic, IsSuperblock, size_fields}
use Rattle.layout.specs.Fields.{Field, number_bytes, fields_bytes, width_of, sector_of, number_at}

pub length-fields_bytes : (fields : List Field) → length (fields_bytes fields) ≡ width_of fields
unfolding fields_bytes number_bytes
length-fields_bytes [] = refl
length-fields_bytes (field ∷ fields) =
    let here = length-bytes_low_first 0 field.0 field.1 in
    let rest = length-fields_bytes fields in
    length-append (number_bytes field.0 field.1) (fields_bytes fields) ∙ omega (arith, here, rest)

pub fields_bytes-append : (front back : List Field) → fields_bytes (front ++ back) ≡ fields_bytes front ++ fields_bytes back
unfolding fields_bytes
fields_bytes-append [] back = refl
fields_bytes-append (field ∷ front) back =
    ap (λ (bytes : List ℕ). number_bytes field.0 field.1 ++ bytes) (fields_bytes-append front back) ∙ sym (append_assoc (number_bytes field.0 field.1) (fields_bytes front) (fields_bytes back))

-- a number that was written, after these bytes
pub number_at-bytes : (lead rest : List ℕ) (n x place : ℕ) → length lead ≡ place → x < 256 ^ n → number_at n place (lead ++ (number_bytes n x ++ rest)) ≡ x
unfolding number_at number_bytes
number_at-bytes lead rest n x place is fits =
    ap (λ (k : ℕ). little_number n (drop k (lead ++ (number_bytes n x ++ rest)))) (sym is)
    ∙ ap (little_number n) (drop-append_seam lead (number_bytes n x ++ rest))
    ∙ little_number-reads_back n x rest fits

-- a field of a sector, after these bytes and fields
pub number_at-field : (lead : List ℕ) (before after : List Field) (n x place : ℕ) → length lead + width_of before ≡ place → x < 256 ^ n
    → number_at n place (sector_of (lead ++ fields_bytes (before ++ (n, x) ∷ after))) ≡ x
unfolding sector_of fields_bytes
number_at-field lead before after n x place is fits =
    let bytes : List ℕ = lead ++ fields_bytes (before ++ (n, x) ∷ after) in
    let zeros : List ℕ = replicate (512 - length bytes) 0 in
    let tail : List ℕ = fields_bytes after in
    let apart : bytes ++ zeros ≡ (lead ++ fields_bytes before) ++ (number_bytes n x ++ (tail ++ zeros)) =
    ap (λ (b : List ℕ). (lead ++ b) ++ zeros) (fields_bytes-append before ((n, x) ∷ after)) ∙ regroup lead (fields_bytes before) (number_bytes n x) tail zeros in
    ap (number_at n place) apart
    ∙ number_at-bytes (lead ++ fields_bytes before) (tail ++ zeros) n x place (length-append lead (fields_bytes before) ∙ ap (λ (k : ℕ). length lead + k) (length-fields_bytes before) ∙ is) fits
  where
    regroup : (a b c d e : List ℕ) → (a ++ (b ++ (c ++ d))) ++ e ≡ (a ++ b) ++ (c ++ (d ++ e))
    regroup a b c d e = simp append_assoc refl

-- a superblock has the numbers of its size
pub size_in : (size : Size) (sector : List ℕ) → IsSuperblock size sector
    → board_size (number_at 4 8 sector) (number_at 4 12 sector) (number_at 4 16 sector) ≡ size
size_in size sector is =
    let few = is.0 in
    let harts : number_at 4 8 sector ≡ size.harts = ap (number_at 4 8) is.1 ∙ number_at-field magic [] ((4, size.pages) ∷ (4, size.lanes) ∷ []) 4 size.harts 8 refl (omega arith) in
    let pages : number_at 4 12 sector ≡ size.pages = ap (number_at 4 12) is.1 ∙ number_at-field magic ((4, size.harts) ∷ []) ((4, size.lanes) ∷ []) 4 size.pages 12 refl (omega arith) in
    let lanes : number_at 4 16 sector ≡ size.lanes = ap (number_at 4 16) is.1 ∙ number_at-field magic ((4, size.harts) ∷ (4, size.pages) ∷ []) [] 4 size.lanes 16 refl (omega arith) in
    ap (λ (h : ℕ). board_size h (number_at 4 12 sector) (number_at 4 16 sector)) harts
    ∙ ap (λ (p : ℕ). board_size size.harts p (number_at 4 16 sector)) pages
    ∙ ap (λ (l : ℕ). board_size size.harts size.pages l) lanes

marked : (rest : List ℕ) → HasMagic (sector_of (magic ++ rest))
unfolding sector_of
marked rest = refl

-- and it begins with the mark
pub superblock_has_magic : (size : Size) (sector : List ℕ) → IsSuperblock size sector → HasMagic sector
superblock_has_magic size sector is = subst HasMagic (sym is.1) (marked (fields_bytes (size_fields size)))

-- one superblock, one size
pub one_size : (y z : Size) (sector : List ℕ) → IsSuperblock y sector → IsSuperblock z sector → y ≡ z
one_size y z sector first second = sym (size_in y sector first) ∙ size_in z sector second

-- how a superblock is filled
pub filled_superblock : (size : Size) → ((([] ++ magic) ++ number_bytes 4 size.harts) ++ number_bytes 4 size.pages) ++ number_bytes 4 size.lanes ≡ magic ++ fields_bytes (size_fields size)
unfolding fields_bytes number_bytes
filled_superblock size = simp append_assoc refl

-- zeros don't begin with the mark
pub zeros_have_no_magic : (n : ℕ) → HasMagic (replicate n 0) → ⊥
zeros_have_no_magic zero is = cc
zeros_have_no_magic (suc n) is = cc
