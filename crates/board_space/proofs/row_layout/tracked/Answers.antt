use Rattle.std.{proofs.Common.{ℕ, List, ◌≡◌, ◌<◌, ◌⊎◌, ⊎_elim, inl, inr, length, subst, arith}, specs.Prelude.slice_index}
use Rattle.std.proofs.lemmas.Bool.{cases_lt}
use Rattle.board_space.specs.Tracked.{IsTracked}
use Rattle.board_space.proofs.row_layout.tracked.Goals as goal

pub loop-group-preserved : goal.loop-group-preserved
loop-group-preserved c =
    let until = c.loop-group.invariant in
    let told = c.in_ok-add_group.ensures in
    let added : (k : ℕ) → k < length c.in_ok-groups.groups.items → slice_index c.in_ok-groups.groups.items k ≡ c.loop-group.group → IsTracked c.add_group.new.tracked k
    = subst (λ (g : List ℕ). (k : ℕ) → k < length g → slice_index g k ≡ c.loop-group.group → IsTracked c.add_group.new.tracked k) c.deref.ensures.value told.added in
    let only : (k : ℕ) → IsTracked c.add_group.new.tracked k → IsTracked c.loop-group.tracked k ⊎ (k < length c.in_ok-groups.groups.items)
    = subst (λ (g : List ℕ). (k : ℕ) → IsTracked c.add_group.new.tracked k → IsTracked c.loop-group.tracked k ⊎ (k < length g)) c.deref.ensures.value told.only in
    record {
      none = told.none;
      covers = λ k low is. elim (cases_lt (slice_index c.in_ok-groups.groups.items k) c.loop-group.group) [
        | inl below ↦ told.keeps k (until.covers k low below)
        | inr from ↦ added k low (omega arith)
      ];
      only = λ k t. ⊎_elim (λ old. until.only k old) (λ low. low) (only k t);
    }

pub returns-clause-only : goal.returns-clause-only
returns-clause-only c k t = omega (arith, c.loop-group.invariant.only k t, c.in_ok-groups.ensures.long)
