use Rattle.std.{proofs.Common.{ℕ, replicate, vec_len, ◌≡◌, ap, ◌∙◌, arith}, specs.Prelude.length}
use Rattle.hsm.specs.declared.standings.Standing.TheVariants as told
use Rattle.model_board.proofs.Plains.{made_tables, made_states, made_pairs, states_count}
use Rattle.model_board.proofs.tables.PlainTables.reset.Goals as goal

pub invariant_of-self : goal.invariant_of-self
invariant_of-self c =
    let n : vec_len c.self.inside.states ≡ length c.self.inside.states.items = omega (arith, c.self.inside.states.ok.0) in
    let m : vec_len c.self.inside.pending ≡ length c.self.inside.states.items = omega (arith, c.self.inside.pending.ok.0, c.self.invariant.long) in
    made_tables _ _ (length c.self.inside.states.items) _ c.self.invariant.few (c.fill.ensures.items (λ y h. h) ∙ ap (λ (k : ℕ). replicate k told.Stopped) n) (c.fill-2.ensures.items (λ y h. h) ∙ ap (λ (k : ℕ). replicate k 0) m)

pub returns-clause-states : goal.returns-clause-states
returns-clause-states c =
    let n : vec_len c.self.inside.states ≡ length c.self.inside.states.items = omega (arith, c.self.inside.states.ok.0) in
    made_states _ (length c.self.inside.states.items) _ _ _ (c.fill.ensures.items (λ y h. h) ∙ ap (λ (k : ℕ). replicate k told.Stopped) n) c.index.ensures.value (states_count _ _ _ c.self.view_is)

pub returns-clause-pairs : goal.returns-clause-pairs
returns-clause-pairs c =
    let n : vec_len c.self.inside.states ≡ length c.self.inside.states.items = omega (arith, c.self.inside.states.ok.0) in
    let m : vec_len c.self.inside.pending ≡ length c.self.inside.states.items = omega (arith, c.self.inside.pending.ok.0, c.self.invariant.long) in
    made_pairs _ _ (length c.self.inside.states.items) _ _ (c.fill.ensures.items (λ y h. h) ∙ ap (λ (k : ℕ). replicate k told.Stopped) n) (c.fill-2.ensures.items (λ y h. h) ∙ ap (λ (k : ℕ). replicate k 0) m) (states_count _ _ _ c.self.view_is)
