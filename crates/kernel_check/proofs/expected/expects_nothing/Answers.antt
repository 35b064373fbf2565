use Rattle.std.proofs.{Common.{◌≡◌, All, List, None, arith, rules, subst}, lemmas.List.{take_all, Elements.All-more}}
use Rattle.kernel_check.specs.declared.looks.Look.{Look}
use Rattle.kernel_check.proofs.expected.expects_nothing.Goals as goal

abbrev IsFree : Look → Type 0
IsFree look = look.expected ≡ None

pub loop-look-preserved : goal.loop-look-preserved
loop-look-preserved c =
    let looks = c.args.looks.now in
    let item = c.look-item.result in
    All-more IsFree looks c.loop-look.look-index item (omega arith) c.loop-look.invariant (subst IsFree c.look-item.is c.in-None.is)

pub returns : goal.returns
returns c =
    let looks = c.args.looks.now in
    (λ _. subst (λ (ls : List Look). All IsFree ls) (take_all c.loop-look.look-index looks (omega arith)) c.loop-look.invariant, λ _. search rules)
