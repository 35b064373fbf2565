use Rattle.std.proofs.Common.{ap}
use Rattle.bench_sweep.proofs.Followed.{by_word, resets_kept}
use Rattle.sbi.specs.declared.words.Word.TheVariants as words
use Rattle.sbi.specs.declared.words.LifeEnd.TheVariants as life_ends
use Rattle.bench_sweep.proofs.follows.record_end.Goals as goal

pub returns-in-Asleep-clause-kept : goal.returns-in-Asleep-clause-kept
returns-in-Asleep-clause-kept c =
    by_word c.record_sleep.result c.args.ledger.now c.record_sleep.new.ledger c.args.board.now (words.Over c.args.end) (words.Over life_ends.Asleep) (ap (λ e. words.Over e) c.in-Asleep.is) c.record_sleep.ensures.kept

pub returns-in-Reset-clause-kept : goal.returns-in-Reset-clause-kept
returns-in-Reset-clause-kept c =
    let r = c.record_reset.result in
    let l = c.args.ledger.now in
    let m = c.record_reset.new.ledger in
    by_word r l m c.args.board.now (words.Over c.args.end) (words.Over (life_ends.Reset _)) (ap (λ e. words.Over e) c.in-Reset.is) (resets_kept r l m c.args.board.now _ c.record_reset.ensures.kept)
