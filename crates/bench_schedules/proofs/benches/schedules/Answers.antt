use Rattle.std.proofs.Common.{ℕ, List, ◌+◌, ◌∙◌, inl, inr, slice_index_or, subst, ⊎_elim}
use Rattle.script_lang.specs.Views.{view}
use Rattle.bench_schedules.specs.{Numbers.place_of_other, Schedules.WroteSchedules}
use Rattle.bench_schedules.proofs.benches.schedules.Goals as goal

pub returns-in-Ok-clause-wrote : goal.returns-in-Ok-clause-wrote
returns-in-Ok-clause-wrote g c =
    let read = c.in_ok-read.read in
    let did = c.in-Ok.ensures.wrote in
    let P : List ℕ → Type 0 = λ ns. WroteSchedules (view read) c.args.payloads.now (λ (place : ℕ). slice_index_or ns (1 + place_of_other place read.lines.items) 0) c.args.plan.part c.args.plan.count
    (g.W.Write.contents c.args.out.now) (g.W.Write.contents c.compare_script.new.out) c.in-Ok.compared.differ in
    (did.0, view read, c.in_ok-read.ensures.value, subst P (c.deref.ensures.value ∙ c.in_ok-numbers.ensures) did.1)

pub returns-clause-refused : goal.returns-clause-refused
returns-clause-refused g c = ⊎_elim (λ memory. inl memory.1) (λ output. inr (inl output.1)) c.unwritten.ensures
