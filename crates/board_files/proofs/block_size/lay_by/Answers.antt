use Rattle.std.proofs.Common.{◌≡◌, ◌∙◌, ℕ, ◌+◌, ◌-◌, ◌++◌, List, arith, rules, refl, ap, length, drop}
use borrow.Rule.Slice.PartMut.{put_mid}
use Rattle.board_files.proofs.BlockBytes.{laid, rest_whole}
use Rattle.board_files.proofs.block_size.lay_by.Goals as goal

pub returns : goal.returns
returns c =
    let m : ℕ = length c.args.mark.now in
    let mark_wide : 20 + m - 20 ≡ m = omega arith in
    let rest_wide : 20 + m + 492 - (20 + m) ≡ 492 = omega arith in
    let zeros : List ℕ = c.fill.new.self in
    let x : List ℕ = c.copy_from_slice.new.self ++ drop 20 zeros in
    let second : List ℕ = c.copy_from_slice-2.new.self in
    let third : List ℕ = c.copy_from_slice-3.new.self in
    let y : List ℕ = put_mid 20 (20 + m - 20) x second in
    laid c.args.mark.now c.args.sector.now (search rules) (length c.args.block.now) m zeros x y
    (put_mid (20 + m) (20 + m + 492 - (20 + m)) y third) refl c.requires (c.fill.ensures.after (λ y h. h))
    (ap (λ (l : List ℕ). l ++ drop 20 zeros) c.copy_from_slice.ensures.after)
    (ap (λ (k : ℕ). put_mid 20 k x second) mark_wide ∙ ap (put_mid 20 m x) c.copy_from_slice-2.ensures.after)
    (ap (λ (k : ℕ). put_mid (20 + m) k y third) rest_wide ∙ ap (put_mid (20 + m) 492 y) (c.copy_from_slice-3.ensures.after
    ∙ rest_whole c.args.mark.now c.args.sector.now (search rules)))
