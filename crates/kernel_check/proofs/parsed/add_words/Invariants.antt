use Rattle.std.proofs.Common.{◌≡◌, ◌++◌, List, map, take}
use Rattle.kernel_check.specs.{Looks.IsWordOf, Options.AreForms, declared.given.LookWord.LookWord}
use Rattle.kernel_check.proofs.parsed.add_words.Given as goal

abbrev pub invariant-loop-word : goal.invariant-loop-word
invariant-loop-word l = (more : List LookWord) × (l.looks.items ≡ l.initial.looks.items ++ more)
    × AreForms (IsWordOf l.option) (map (λ w. w.now) (take l.word-index l.words)) more
