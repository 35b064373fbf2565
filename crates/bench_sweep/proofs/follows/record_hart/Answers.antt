use Rattle.bench_sweep.proofs.Followed.{by_word, own_kept}
use Rattle.sbi.specs.declared.words.Word.TheVariants as words
use Rattle.bench_sweep.proofs.follows.record_hart.Goals as goal

pub returns-in-Goes-clause-kept : goal.returns-in-Goes-clause-kept
returns-in-Goes-clause-kept c =
    let r = c.record_in_doubt.result in
    let l = c.args.ledger.now in
    let m = c.record_in_doubt.new.ledger in
    by_word r l m c.args.board.now c.args.word (words.Goes _) c.in-Goes.is (own_kept r l m c.args.board.now _ c.record_in_doubt.ensures.kept)

pub returns-in-Over-clause-kept : goal.returns-in-Over-clause-kept
returns-in-Over-clause-kept c =
    by_word c.record_end.result c.args.ledger.now c.record_end.new.ledger c.args.board.now c.args.word (words.Over _) c.in-Over.is c.record_end.ensures.kept
