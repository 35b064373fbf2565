-- The sectors of a page, as chunks of its bytes.
use Rattle.std.proofs.Common.{◌≡◌, ◌∙◌, zero, suc, ℕ, ◌+◌, ◌*◌, ◌-◌, ◌/◌, ◌<◌, Ok, Err, OnOk, List, length, take, drop, slice_range, refl, sym, ap, arith}
use Rattle.std.{proofs.lemmas.List.{drop-drop, drop-take, take-take}, specs.Simd.first_chunks}
use Rattle.disk.specs.Facts.{Content, Written, sector}
use Rattle.planned_store.specs.{Commits.Answer, SaveServed.PageWritten}

length_chunks : (n k : ℕ) (xs : List ℕ) → length (first_chunks n k xs) ≡ k
length_chunks n zero xs = refl
length_chunks n (suc k) xs = ap (λ (j : ℕ). suc j) (length_chunks n k (drop n xs))

chunk_at : (n k : ℕ) (xs : List ℕ) (j : ℕ) → j < k → sector (first_chunks n k xs) j ≡ take n (drop (n * j) xs)
chunk_at n zero xs j lt = absurd (omega arith)
chunk_at n (suc k) xs zero lt = let none : 0 ≡ n * 0 = omega arith in ap (λ (m : ℕ). take n (drop m xs)) none
chunk_at n (suc k) xs (suc j) lt =
    chunk_at n k (drop n xs) j (omega arith)
    ∙ ap (take n) (drop-drop (n * j) n xs)
    ∙ ap (λ (m : ℕ). take n (drop m xs)) (sym (times_more n j))
  where
    times_more : (n j : ℕ) → n * suc j ≡ n + n * j
    times_more n j = omega arith

part_at : (memory : List ℕ) (page j : ℕ) → j < 8 → take 512 (drop (512 * j) (slice_range memory (4096 * page) (4096 * page + 4096))) ≡ take 512 (drop (4096 * page + 512 * j) memory)
part_at memory page j lt =
    let from : List ℕ = drop (4096 * page) memory in
    let size : 4096 * page + 4096 - 4096 * page ≡ 512 * j + (4096 - 512 * j) = omega arith in
    ap (λ (n : ℕ). take 512 (drop (512 * j) (take n from))) size
    ∙ ap (take 512) (drop-take (512 * j) (4096 - 512 * j) from)
    ∙ take-take 512 (4096 - 512 * j) (drop (512 * j) from) (omega arith)
    ∙ ap (take 512) (drop-drop (512 * j) (4096 * page) memory)

module _ (memory bytes : List ℕ) (chunks : Content) (page : ℕ) (is : bytes ≡ slice_range memory (4096 * page) (4096 * page + 4096)) (whole : length bytes ≡ 4096)
    (are : chunks ≡ first_chunks 512 (length bytes / 512) bytes) where
  eight : length bytes / 512 ≡ 8
  eight = ap (λ (n : ℕ). n / 512) whole

  pub eight_chunks : length chunks ≡ 8
  eight_chunks = ap (λ (c : Content). length c) are ∙ length_chunks 512 (length bytes / 512) bytes ∙ eight

  pub page_written : (first : ℕ) (old new : Content) (answer : Answer) → OnOk answer (Written first chunks old new) → OnOk answer (PageWritten first page memory new)
  page_written first old new (Ok v) written = λ j lt.
      written.there j (omega (arith, eight_chunks, lt))
      ∙ ap (λ (c : Content). sector c j) are
      ∙ chunk_at 512 (length bytes / 512) bytes j (omega (arith, eight, lt))
      ∙ ap (λ (b : List ℕ). take 512 (drop (512 * j) b)) is
      ∙ part_at memory page j lt
  page_written first old new (Err e) written = tt
