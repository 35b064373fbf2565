use Rattle.std.{proofs.Common.{◌≡◌, ◌∙◌, ℕ, Bool, List, Option, Some, ap, sym, codes}, specs.Option.option_map}
use Rattle.clap.specs.{Words.{first_value, found_of}, declared.parser.matches.Found.Found}
use Rattle.bench_program.specs.{Usage.{schedules_named, savers_of, without_benches, work_named, work_without}, declared.usage.Work.Work}
use Rattle.bench_program.proofs.asked.work_without.Goals as goal

asked : (f : Found) (sweep faults : Bool) (runs : List ℕ) (seed show shrink : Option (List ℕ)) (work : Option Work)
    → work ≡ without_benches sweep faults (schedules_named runs seed show shrink) → Some runs ≡ first_value f (codes "schedules")
    → seed ≡ first_value f (codes "seed") → show ≡ first_value f (codes "show") → shrink ≡ first_value f (codes "shrink") → work ≡ work_without f sweep faults
asked f sweep faults runs seed show shrink work is runs_is seed_is show_is shrink_is =
    let savers = savers_of (first_value f (codes "crew")) in
    is ∙ ap (λ s. without_benches sweep faults (schedules_named runs s show shrink)) seed_is
    ∙ ap (λ s. without_benches sweep faults (schedules_named runs (first_value f (codes "seed")) s shrink)) show_is
    ∙ ap (λ s. without_benches sweep faults (schedules_named runs (first_value f (codes "seed")) (first_value f (codes "show")) s)) shrink_is
    ∙ ap (λ r. work_named sweep faults r (first_value f (codes "seed")) (first_value f (codes "show")) (first_value f (codes "shrink")) savers) runs_is

pub returns-in-Some : goal.returns-in-Some
returns-in-Some c =
    asked (found_of c.args.matches.now) c.args.sweep c.args.faults c.in-Some.runs.now _ _ _ c.schedules_alone.result c.schedules_alone.ensures
    (sym (ap (option_map (λ s. s.now)) c.in-Some.is) ∙ c.get_str.ensures) c.get_str-seed.ensures c.get_str-show.ensures c.get_str-shrink.ensures
