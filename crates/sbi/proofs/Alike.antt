-- What the derived comparison of the words of a turn finds equal is the same.
use Rattle.std.proofs.Common.{◌≡◌, true, rules}
use Rattle.sbi.specs.declared.words.Word.{Word}
use Rattle.sbi.specs.declared.words.Word.TheVariants as words
use Rattle.sbi.specs.contracts.words.WordPartialEq.TheImpl as word

pub equal-word : (a b : Word) → word.ghosts.eq a b ≡ true → a ≡ b
equal-word (words.Goes d) (words.Goes e) same = search (rules, same)
equal-word (words.Over d) (words.Over e) same = search (rules, same)
equal-word a b same = absurd (let no : ⊥ = cc in no)
