use Rattle.std.proofs.Common.{refl}
use Rattle.model_board.proofs.Plains.{made_tables, made_states, made_pairs}
use Rattle.model_board.proofs.tables.PlainTables.new.Goals as goal

pub invariant_of-result : goal.invariant_of-result
invariant_of-result c = made_tables _ _ c.harts-harts.result _ c.harts-harts.ensures.range.1 (c.in_ok-states.ensures.items_if_clones_equal (λ y h. h)) (c.in_ok-vec.ensures.items_if_clones_equal (λ y h. h))

pub returns-clause-states : goal.returns-clause-states
returns-clause-states c = made_states _ c.harts-harts.result _ _ _ (c.in_ok-states.ensures.items_if_clones_equal (λ y h. h)) refl c.harts-harts.ensures.value

pub returns-clause-pairs : goal.returns-clause-pairs
returns-clause-pairs c = made_pairs _ _ c.harts-harts.result _ _ (c.in_ok-states.ensures.items_if_clones_equal (λ y h. h)) (c.in_ok-vec.ensures.items_if_clones_equal (λ y h. h)) c.harts-harts.ensures.value
