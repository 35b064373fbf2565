use Rattle.std.proofs.{Common.{◌≡◌, ◌∙◌, ◌+◌, ◌++◌, ℕ, List, ap, arith, subst, sym, take}, lemmas.Grind.common_steps}
use Rattle.std.{proofs.lemmas.List.take-append-drop, specs.Prelude.slice_range}
use Rattle.board_space.specs.Few.{AskedOrders}
use Rattle.kernel_check.{specs.{Shown.looked, Tells.{EveryOrder, IsOnWith}}, proofs.{Looking.told_more, Telling.both_told}}
use Rattle.kernel_check.proofs.told.are_rests.Goals as goal

pub loop-look-preserved : goal.loop-look-preserved
loop-look-preserved c =
    let looks = c.args.looks.now in
    let i = c.loop-look.look-index in
    let item = c.look-item.result in
    let rest = c.loop-look.rest.now in
    let part = c.in-Some-Some.part.now in
    let others = c.in-Some-Some.others.now in
    let to = c.in-Some-Some.end in
    let ends : to ≡ item.start + item.bytes = omega (arith, c.in-Some-Some.ensures') in
    let parts : rest ≡ part ++ others = grind (arith, common_steps, c.in-Some-Some.ensures.cases, take-append-drop item.bytes rest) in
    let before = λ (memory : List ℕ). looked (take i looks) memory ++ rest ≡ c.args.bytes.now in
    let here = λ (memory : List ℕ). slice_range memory item.start to ≡ part in
    let after = λ (memory : List ℕ). looked (take (i + 1) looks) memory ++ others ≡ c.args.bytes.now in
    let step : (memory : List ℕ) → before memory → here memory → after memory = λ memory b h.
    told_more looks memory i item (omega arith) c.look-item.is rest part others c.args.bytes.now parts b
    (ap (slice_range memory item.start) (sym ends) ∙ h) in
    let told = c.in_ok-is_rest-2.ensures.told c.if-not-branch-2.false in
    record {
      same = c.is_rest-in-loop-look.ensures.same ∙ c.loop-look.invariant.same;
      every = subst (λ (e : AskedOrders). EveryOrder e (IsOnWith after)) (sym c.is_rest-in-loop-look.ensures.same)
          (both_told c.loop-look.explored before here after step c.loop-look.invariant.every told);
    }
