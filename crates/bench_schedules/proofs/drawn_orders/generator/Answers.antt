use Rattle.std.proofs.Common.{◌≡◌, ◌∙◌, ℕ, List, ap, bit_xor}
use Rattle.rand_core.specs.{Steps.{steps_u64_high, stream_of}, Stream.{Stream, next_u64}}
use Rattle.rand_xoshiro.specs.Xoshiro256.{plus_plus}
use Rattle.bench_schedules.specs.Generators.{seeded}
use Rattle.bench_schedules.proofs.drawn_orders.generator.Goals as goal

-- the first word of a generator is that of its state
first_word : (state : List ℕ) (word : ℕ) (left : Stream) → (word, left) ≡ next_u64 (stream_of (steps_u64_high plus_plus) state) → word ≡ (plus_plus state).0
unfolding next_u64 stream_of
first_word state word left is = ap (λ (p : ℕ × Stream). p.0) is

pub returns : goal.returns
returns c =
    let mixed = c.seed_from_u64-mixed.result in
    let word = first_word mixed c.next_u64-word.result _ c.next_u64-word.ensures in
    c.seed_from_u64.ensures
    ∙ ap (λ (w : ℕ). seeded (bit_xor w c.args.k)) (word ∙ ap (λ (s : List ℕ). (plus_plus s).0) c.seed_from_u64-mixed.ensures)
