-- Whatever the words ask for, the bench of schedules runs few enough.
use Rattle.std.proofs.Common.{◌≡◌, ◌≤◌, ℕ, Bool, true, false, List, Option, None, Some, IfSome, if◌then◌else◌, nat_lt, codes, arith, refl}
use Rattle.std.proofs.lemmas.Bool.Decides.{nat_tests}
use Rattle.clap.specs.{Words.first_value, declared.parser.matches.Found.Found}
use Rattle.crew.specs.declared.part.Part.{Part}
use Rattle.script_lang.specs.Words.{number_of, seed_of}
use Rattle.bench_sweep.specs.declared.points.BenchKind.{BenchKind}
use Rattle.bench_program.specs.Usage.{Flags, IsBounded, bench_or_row, compare_or_show, number_up_to, part_named, parted, row_numbered, row_of, savers_of, schedules_by, show_number, shrink_number, with_part, with_quiet, with_tap, without_benches, without_schedules, work_asked, work_named, work_of_flags, work_without}
use Rattle.bench_program.specs.declared.usage.{Savers.Savers, Work.{Work, TheVariants.{Report, Judge, ShowRow, Compare, Show, Shrink}}}

abbrev AreFew : Option Work → Type 0
AreFew work = IfSome work (λ w. IsBounded w)

-- ---- numbers
not_beyond : (most n : ℕ) → nat_lt most n ≡ false → n ≤ most
not_beyond most n e = grind (arith, nat_tests, e)

unless : (b c : Bool) (most n : ℕ) → (c ≡ false → n ≤ most) → IfSome (if b then None else (if c then None else Some n)) (λ k. k ≤ most)
unless true c most n within = tt
unless false true most n within = tt
unless false false most n within = within refl

at_most : (most : ℕ) (o : Option ℕ) → IfSome (number_up_to most o) (λ k. k ≤ most)
at_most most None = tt
at_most most (Some n) = unless (nat_lt n 1) (nat_lt most n) most n (not_beyond most n)

-- ---- works over schedules
shows : (seed : ℕ) (o : Option ℕ) → AreFew (show_number seed o)
shows seed None = tt
shows seed (Some k) = tt

shrinks : (seed : ℕ) (o : Option ℕ) → AreFew (shrink_number seed o)
shrinks seed None = tt
shrinks seed (Some k) = tt

compares : (runs seed : ℕ) (show shrink : Option (List ℕ)) → runs ≤ 1000000 → AreFew (compare_or_show runs seed show shrink)
compares runs seed None None few = few
compares runs seed (Some word) None few = shows seed (number_up_to runs (number_of word))
compares runs seed None (Some word) few = shrinks seed (number_up_to runs (number_of word))
compares runs seed (Some one) (Some other) few = tt

schedules : (runs seed : Option ℕ) (show shrink : Option (List ℕ)) → IfSome runs (λ n. n ≤ 1000000) → AreFew (schedules_by runs seed show shrink)
schedules None seed show shrink few = tt
schedules (Some runs) None show shrink few = tt
schedules (Some runs) (Some seed) show shrink few = compares runs seed show shrink few

alone : (sweep faults : Bool) (work : Option Work) → AreFew work → AreFew (without_benches sweep faults work)
alone false false work few = few
alone true faults work few = tt
alone false true work few = tt

-- ---- works without them
of_flags : (sweep faults : Bool) (savers : Savers) → AreFew (work_of_flags sweep faults savers)
of_flags true true savers = tt
of_flags true false savers = tt
of_flags false true savers = tt
of_flags false false savers = tt

numbered : (bench : BenchKind) (o : Option ℕ) → AreFew (row_numbered bench o)
numbered bench None = tt
numbered bench (Some r) = tt

row : (word : List ℕ) (work : Option Work) → AreFew (row_of word work)
row word None = tt
row word (Some (Report savers)) = tt
row word (Some (Judge plan)) = numbered plan.bench (number_up_to 1000000 (number_of word))
row word (Some (ShowRow wanted)) = tt
row word (Some (Compare plan)) = tt
row word (Some (Show drawn)) = tt
row word (Some (Shrink drawn)) = tt

or_row : (show : Option (List ℕ)) (work : Option Work) → AreFew work → AreFew (bench_or_row show work)
or_row None work few = few
or_row (Some word) work few = row word work

plain : (seed show shrink : Option (List ℕ)) (work : Option Work) → AreFew work → AreFew (without_schedules seed show shrink work)
plain None None None work few = few
plain (Some one) show shrink work few = tt
plain None (Some one) shrink work few = tt
plain None None (Some one) work few = tt

named : (sweep faults : Bool) (runs seed show shrink : Option (List ℕ)) (savers : Savers) → AreFew (work_named sweep faults runs seed show shrink savers)
named sweep faults None seed show shrink savers =
    let work = work_of_flags sweep faults savers in
    plain seed None shrink (bench_or_row show work) (or_row show work (of_flags sweep faults savers))
named sweep faults (Some runs) seed show shrink savers =
    let most = number_up_to 1000000 (number_of runs) in
    alone sweep faults (schedules_by most (seed_of seed) show shrink) (schedules most (seed_of seed) show shrink (at_most 1000000 (number_of runs)))

-- ---- how they are made and written
of_part : (part : Option Part) (work : Option Work) → AreFew work → AreFew (parted part work)
of_part None work few = tt
of_part (Some part) None few = tt
of_part (Some part) (Some (Report savers)) few = tt
of_part (Some part) (Some (Judge plan)) few = tt
of_part (Some part) (Some (ShowRow wanted)) few = tt
of_part (Some part) (Some (Compare plan)) few = few
of_part (Some part) (Some (Show drawn)) few = tt
of_part (Some part) (Some (Shrink drawn)) few = tt

in_part : (word : Option (List ℕ)) (work : Option Work) → AreFew work → AreFew (with_part word work)
in_part None work few = few
in_part (Some word) work few = of_part (part_named word) work few

in_quiet : (quiet : Bool) (work : Option Work) → AreFew work → AreFew (with_quiet quiet work)
in_quiet false work few = few
in_quiet true None few = tt
in_quiet true (Some (Report savers)) few = tt
in_quiet true (Some (Judge plan)) few = tt
in_quiet true (Some (ShowRow wanted)) few = tt
in_quiet true (Some (Compare plan)) few = tt
in_quiet true (Some (Show drawn)) few = tt
in_quiet true (Some (Shrink drawn)) few = tt

in_tests : (tap : Bool) (work : Option Work) → AreFew work → AreFew (with_tap tap work)
in_tests false work few = few
in_tests true None few = tt
in_tests true (Some (Report savers)) few = tt
in_tests true (Some (Judge plan)) few = tt
in_tests true (Some (ShowRow wanted)) few = tt
in_tests true (Some (Compare plan)) few = few
in_tests true (Some (Show drawn)) few = tt
in_tests true (Some (Shrink drawn)) few = tt

pub few_are_asked : (f : Found) (flags : Flags f) → AreFew (work_asked f flags)
few_are_asked f flags =
    let work = work_without f flags.sweep flags.faults in
    let part = with_part (first_value f (codes "part")) work in
    in_tests flags.tap (with_quiet flags.quiet part)
    (in_quiet flags.quiet part
    (in_part (first_value f (codes "part")) work
    (named flags.sweep flags.faults (first_value f (codes "schedules")) (first_value f (codes "seed")) (first_value f (codes "show")) (first_value f (codes "shrink"))
    (savers_of (first_value f (codes "crew"))))))
