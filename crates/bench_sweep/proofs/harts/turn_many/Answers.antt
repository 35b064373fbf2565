use Rattle.std.proofs.Common.{◌≡◌, ◌-◌, true, false, inl, inr, refl, ◌∙◌, rules, arith}
use Rattle.sbi.specs.Words.{ends}
use Rattle.bench_report.specs.Views.{store_in, store_fault_state}
use Rattle.bench_sweep.proofs.Turned.{far_first, far_more, far_all}
use Rattle.bench_sweep.proofs.harts.turn_many.Goals as goal

pub loop-left-init : goal.loop-left-init
loop-left-init g c = record {
  harts = c.in_ok-word.ensures.harts;
  resumed = c.in_ok-word.ensures.resumed;
  goes = λ size b was told. far_first size c.args.hart c.args.count b (c.args.count - 1) c.in_ok-word.word c.turn_once.new.board c.turn_once.new.ledger refl c.requires.some (c.in_ok-word.ensures.goes size b was told);
}

pub loop-left-preserved : goal.loop-left-preserved
loop-left-preserved g c =
    let i = c.loop-left.invariant in
    let new = c.turn_once-in-loop-left.new in
    let on : ends c.loop-left.word ≡ false = search rules in
    let calm : (store_fault_state (store_in c.loop-left.board)).struck ≡ false = search rules in record {
      harts = c.in_ok-word-2.ensures.harts ∙ i.harts;
      resumed = c.in_ok-word-2.ensures.resumed ∙ i.resumed;
      goes = λ size b was told. far_more size c.args.hart c.args.count b c.loop-left.left (c.loop-left.left - 1) c.loop-left.word c.in_ok-word-2.word c.loop-left.board new.board c.loop-left.ledger new.ledger refl c.loop-left-test.true on calm
          (i.goes size b was told) (λ x at follows. c.in_ok-word-2.ensures.goes size x at follows);
    }

pub returns-after-loop-left-clause-goes : goal.returns-after-loop-left-clause-goes
returns-after-loop-left-clause-goes g c = λ size b was told.
    let none : c.loop-left.left ≡ 0 = omega arith in
    far_all size c.args.hart c.args.count b c.loop-left.left c.loop-left.word c.loop-left.board c.loop-left.ledger (inr (inl none)) (c.loop-left.invariant.goes size b was told)

pub returns-else-not-ends_row-clause-goes : goal.returns-else-not-ends_row-clause-goes
returns-else-not-ends_row-clause-goes g c = λ size b was told.
    let last : ends c.loop-left.word ≡ true = search rules in
    far_all size c.args.hart c.args.count b c.loop-left.left c.loop-left.word c.loop-left.board c.loop-left.ledger (inl last) (c.loop-left.invariant.goes size b was told)

-- a cut struck in the turn that was made last
pub returns-else-not-struck-clause-goes : goal.returns-else-not-struck-clause-goes
returns-else-not-struck-clause-goes g c = λ size b was told.
    let cut : (store_fault_state (store_in c.loop-left.board)).struck ≡ true = search rules in
    far_all size c.args.hart c.args.count b c.loop-left.left c.loop-left.word c.loop-left.board c.loop-left.ledger (inr (inr cut)) (c.loop-left.invariant.goes size b was told)
