-- A sector that was laid into its block is the one that a reader takes from there.
use Rattle.std.proofs.Common.{◌≡◌, ◌∙◌, ℕ, ◌≤◌, ◌+◌, ◌-◌, true, List, ◌++◌, length, take, drop, replicate, arith, refl, sym, ap, length-append, length-take, length-drop, append_assoc}
use Rattle.std.proofs.lemmas.List.{drop-replicate, drop-drop, length-take-le, take-append-drop, take_at, drop_at, take_all, length-replicate}
use Rattle.std.{proofs.lemmas.{Slice.{drop-put_mid, take-put_mid, drop-append-drop}, Cmp.nat_list_eq_equiv}, specs.Prelude.nat_eq}
use Rattle.std.specs.{List.starts_with, Cmp.Lexicographic.pointwise}
use borrow.Rule.Slice.PartMut.{mid_of, put_mid}
use Rattle.board_files.specs.Blocks.{block_of, sector_of}

module _ (mark sector : List ℕ) (whole : length sector ≡ 512) where
  front_long : length (take 20 sector) ≡ 20
  front_long = length-take-le 20 sector (omega (arith, whole))

  rest_long : length (drop 20 sector) ≡ 492
  rest_long = simp length-drop (omega (arith, whole))

  pub rest_whole : mid_of 20 492 sector ≡ drop 20 sector
  rest_whole = take_all 492 (drop 20 sector) (omega (arith, rest_long))

  -- what was laid, by three writes into a block of zeros
  pub laid : (n m : ℕ) (zeros x y z : List ℕ) → length mark ≡ m → 512 + m ≤ n → zeros ≡ replicate n 0
      → x ≡ take 20 sector ++ drop 20 zeros
      → y ≡ put_mid 20 m x mark → z ≡ put_mid (20 + m) 492 y (drop 20 sector)
      → z ≡ block_of n mark sector
  laid n m zeros x y z many fits blank first second third = sym (take-append-drop (512 + m) z)
      ∙ ap (λ l. l ++ drop (512 + m) z) head ∙ append_assoc (take 20 sector ++ mark) (drop 20 sector) (drop (512 + m) z)
      ∙ append_assoc (take 20 sector) mark (drop 20 sector ++ drop (512 + m) z)
      ∙ ap (λ l. take 20 sector ++ (mark ++ (drop 20 sector ++ l))) tail
    where
      zeros_long : length zeros ≡ n
      zeros_long = ap length blank ∙ length-replicate n 0

      x_long : length x ≡ n
      x_long = ap length first ∙ length-append (take 20 sector) (drop 20 zeros) ∙ simp (front_long, length-drop, zeros_long) (omega (arith, fits))

      y_long : length y ≡ n
      y_long = ap length second ∙ length-append (take 20 x) (mark ++ drop m (drop 20 x)) ∙ omega (
        arith,
        fits,
        x_long,
        length-take 20 x,
        length-append mark (drop m (drop 20 x)),
        length-drop m (drop 20 x),
        length-drop 20 x,
        many,
      )

      y_head : take (20 + m) y ≡ take 20 sector ++ mark
      y_head = ap (take (20 + m)) second
          ∙ take-put_mid 20 m x mark (20 + m) (omega (arith, many)) (omega (arith, x_long, fits))
          ∙ ap (λ l. l ++ mark) (ap (take 20) first ∙ take_at (take 20 sector) (drop 20 zeros) 20 front_long)

      head : take (512 + m) z ≡ (take 20 sector ++ mark) ++ drop 20 sector
      head = ap (take (512 + m)) third
          ∙ take-put_mid (20 + m) 492 y (drop 20 sector) (512 + m) (omega (arith, rest_long)) (omega (arith, y_long, fits))
          ∙ ap (λ l. l ++ drop 20 sector) y_head

      tail : drop (512 + m) z ≡ replicate (n - (512 + length mark)) 0
      tail = ap (drop (512 + m)) third
          ∙ drop-put_mid (20 + m) 492 y (drop 20 sector) (512 + m) (omega arith) (omega (arith, y_long, fits)) rest_long
          ∙ ap (drop (512 + m)) second
          ∙ drop-put_mid 20 m x mark (512 + m) (omega arith) (omega (arith, x_long, fits)) many
          ∙ ap (drop (512 + m)) first
          ∙ drop-append-drop 20 zeros (take 20 sector) (512 + m) (omega arith) front_long
          ∙ ap (drop (512 + m)) blank ∙ drop-replicate (512 + m) n 0
          ∙ ap (λ (k : ℕ). replicate (n - (512 + k)) 0) (sym many)

  starts : (rest : List ℕ) → starts_with nat_eq (mark ++ rest) mark ≡ true
  starts rest = ap (pointwise nat_eq mark) (take_at mark rest (length mark) refl) ∙ nat_list_eq_equiv.refl mark

  pub reads_back : (n : ℕ) → sector_of mark (block_of n mark sector) ≡ sector
  reads_back n = rw marked (rw front (rw back (take-append-drop 20 sector)))
    where
      after : drop 20 (block_of n mark sector) ≡ mark ++ (drop 20 sector ++ replicate (n - (512 + length mark)) 0)
      after = drop_at (take 20 sector) _ 20 front_long

      marked : starts_with nat_eq (drop 20 (block_of n mark sector)) mark ≡ true
      marked = ap (λ (l : List ℕ). starts_with nat_eq l mark) after ∙ starts _

      front : take 20 (block_of n mark sector) ≡ take 20 sector
      front = take_at (take 20 sector) _ 20 front_long

      back : take 492 (drop (20 + length mark) (block_of n mark sector)) ≡ drop 20 sector
      back = ap (take 492) (sym (drop-drop (length mark) 20 (block_of n mark sector))
          ∙ ap (drop (length mark)) after ∙ drop_at mark _ (length mark) refl)
          ∙ take_at (drop 20 sector) _ 492 rest_long
