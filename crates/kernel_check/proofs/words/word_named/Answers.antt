use Rattle.std.proofs.Common.{IfOk, IfSome, subst, sym}
use Rattle.kernel_check.specs.{Looks.IsWordOf, declared.given.LookOption.LookOption}
use Rattle.kernel_check.proofs.words.word_named.Goals as goal

pub returns-in-Look : goal.returns-in-Look
returns-in-Look c =
    subst (λ (o : LookOption). IfOk c.look_named.result (λ found. IfSome found (IsWordOf o c.args.word.now))) (sym c.in-Look.is) c.look_named.ensures

pub returns-in-Expect : goal.returns-in-Expect
returns-in-Expect c =
    subst (λ (o : LookOption). IfOk c.expect_named.result (λ found. IfSome found (IsWordOf o c.args.word.now))) (sym c.in-Expect.is) c.expect_named.ensures
