use Rattle.std.proofs.Common.{◌∙◌, ℕ, ap, subst, sym}
use Rattle.kernel_check.{specs.Shown.{AreIn, looked}, proofs.Ending.rests_found}
use Rattle.kernel_check.proofs.comes.end_of.Goals as goal

pub returns-in_ok-bytes-in-Ok-Some-Rests-clause-ends : goal.returns-in_ok-bytes-in-Ok-Some-Rests-clause-ends
returns-in_ok-bytes-in-Ok-Some-Rests-clause-ends c =
    let looks = c.args.looks.now in
    let end = c.in-Ok-Some-Rests in
    rests_found c.args.explored.now.asked looks c.ram_bytes.result end.field-0 end.field-0-0 end.memory c.in_ok-bytes-in-Ok-Some-Rests.bytes
    (subst (λ (n : ℕ). AreIn n looks) (sym c.ram_bytes.ensures) c.requires)
    (c.in_ok-bytes-in-Ok-Some-Rests.ensures ∙ ap (looked looks) c.as_slice.ensures.value)
    end.field-0-is end.field-0-0-is end.ensures.ends
