use Rattle.std.proofs.Common.{arith}
use Rattle.kernel_check.{specs.Looks.IsWordOf, proofs.Naming.forms_on}
use Rattle.kernel_check.proofs.parsed.add_words.Goals as goal

pub loop-word-preserved : goal.loop-word-preserved
loop-word-preserved c =
    forms_on (IsWordOf c.args.option) c.args.words.now c.loop-word.word-index _ c.args.looks.now.items c.loop-word.looks.items c.push.new.self.items
    c.in-Some.look (omega arith) c.loop-word.invariant c.in_ok-push-in-Some.ensures.items (rw c.in-Some.is at c.in_ok-look.ensures)
