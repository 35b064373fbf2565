use Rattle.std.proofs.Common.{◌∙◌, ℕ, List, Option, IfSome, ap, codes, refl, subst, sym}
use Rattle.clap.specs.Words.{first_value, found_of}
use Rattle.bench_program.specs.{Usage.{with_part, with_quiet, with_tap, Flags, IsBounded}, declared.usage.Work.Work}
use Rattle.bench_program.proofs.FewRuns.{few_are_asked}
use Rattle.bench_program.proofs.asked.work_asked.Goals as goal

pub returns : goal.returns
returns c =
    let f = found_of c.args.matches.now in
    let sweep = c.get_flag-sweep in
    let faults = c.get_flag-faults in
    let quiet = c.get_flag-quiet in
    let flags : Flags f = record {
      sweep = sweep.result;
      faults = faults.result;
      quiet = quiet.result;
      tap = c.args.tap;
      is_sweep = record { given = sweep.ensures.value; left = sweep.ensures.other; none = sweep.ensures.none };
      is_faults = record { given = faults.ensures.value; left = faults.ensures.other; none = faults.ensures.none };
      is_quiet = record { given = quiet.ensures.value; left = quiet.ensures.other; none = quiet.ensures.none };
      is_tap = c.requires;
    } in
    let two = c.with_part-work.ensures
    ∙ ap (λ (word : Option (List ℕ)). with_part word c.work_without-work.result) c.get_str.ensures
    ∙ ap (with_part (first_value f (codes "part"))) c.work_without-work.ensures in
    let three = c.with_quiet.ensures ∙ ap (with_quiet quiet.result) two in
    let four = c.with_tap.ensures ∙ ap (with_tap c.args.tap) three in
    let P : Option Work → Type 0 = λ work. IfSome work (λ w. IsBounded w) in
    record { value = (flags, refl, four); most = subst P (sym four) (few_are_asked f flags) }
