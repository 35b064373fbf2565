use Rattle.std.{proofs.Common.{rules, ℕ, ◌≡◌, ◌<◌, ⊎_elim, inl, inr, length, subst, arith}, specs.Prelude.slice_index}
use Rattle.std.proofs.lemmas.{Bool.cases_lt, Result.IfOk-weaker}
use Rattle.board_space.{specs.Tracked.IsKept, proofs.row_layout.add_group.Goals.{then-groups-word+in_ok-add, else-groups-word}}
use Rattle.board_space.proofs.row_layout.add_group.Goals as goal

pub loop-word-preserved : goal.loop-word-preserved
loop-word-preserved c =
    let until = c.loop-word.invariant in
    let within : c.loop-word.word < length c.args.groups.now = search rules in
    elim c.if-groups-word.branch [
      | then-groups-word+in_ok-add w ↦
          rw (w.tracked-is, w.made-is) (record {
            keeps = λ k t. w.in_ok-add.ensures.keeps k (until.keeps k t);
            added = λ k low is. elim (cases_lt k c.loop-word.word) [
              | inl below ↦ w.in_ok-add.ensures.keeps k (until.added k below is)
              | inr from ↦ (
                  let same : c.loop-word.word ≡ k = omega arith in
                  subst (λ (n : ℕ). IsKept w.add.new.tracked w.add.new.made.items n) same w.in_ok-add.ensures.added)
            ];
            only = λ k kept. ⊎_elim (λ old. until.only k old) (λ is. inr (omega (arith, is, within))) (w.in_ok-add.ensures.only k kept);
          })
      | else-groups-word w ↦
          rw (w.tracked-is, w.made-is) (record {
            keeps = until.keeps;
            added = λ k low is. elim (cases_lt k c.loop-word.word) [
              | inl below ↦ until.added k below is
              | inr from ↦ (
                  let same : k ≡ c.loop-word.word = omega arith in
                  absurd (w.if-groups-word.false (subst (λ (n : ℕ). slice_index c.args.groups.now n ≡ c.args.group) same is)))
            ];
            only = until.only;
          })
    ]

pub returns-clause-keeps : goal.returns-clause-keeps
returns-clause-keeps c =
    let until = c.loop-word.invariant in
    IfOk-weaker c.close.result _ _ (λ x keeps k t. keeps k (until.keeps k t)) c.close.ensures.keeps

pub returns-clause-added : goal.returns-clause-added
returns-clause-added c =
    let until = c.loop-word.invariant in
    let all : length c.args.groups.now ≡ c.loop-word.word = search rules in
    IfOk-weaker c.close.result _ _ (λ x keeps k low is. keeps k (until.added k (omega (arith, low, all)) is)) c.close.ensures.keeps

pub returns-clause-only : goal.returns-clause-only
returns-clause-only c =
    let until = c.loop-word.invariant in
    IfOk-weaker c.close.result _ _ (λ x only k t. until.only k (only k t)) c.close.ensures.only
