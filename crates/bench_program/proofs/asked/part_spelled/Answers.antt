use Rattle.std.{proofs.Common.{◌≡◌, ◌∙◌, ◌+◌, ◌-◌, ◌==◌, ℕ, Option, Some, length, take, drop, ap, sym, arith}, specs.Prelude.position}
use Rattle.std.proofs.lemmas.List.{length-drop, take_all}
use Rattle.script_lang.specs.Words.{number_of}
use Rattle.bench_program.specs.Usage.{part_at, part_between}
use Rattle.bench_program.proofs.asked.part_spelled.Goals as goal

pub returns : goal.returns
returns c =
    let word = c.args.word.now in
    let slash = c.in-Some.slash in
    let at : position (λ b. b == 47) word ≡ Some slash = sym c.first_slash.ensures.at ∙ c.in-Some.is in
    let long = length-drop (slash + 1) word in
    let rest : take (length word - (slash + 1)) (drop (slash + 1) word) ≡ drop (slash + 1) word = take_all (length word - (slash + 1)) (drop (slash + 1) word) (omega (arith, long)) in
    c.part_between.ensures ∙ ap (λ (o : Option ℕ). part_between o c.number-2.result) c.number.ensures
    ∙ ap (λ (o : Option ℕ). part_between (number_of (take slash word)) o) (c.number-2.ensures ∙ ap number_of rest)
    ∙ sym (ap (part_at word) at)
