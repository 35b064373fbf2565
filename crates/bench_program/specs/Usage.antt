-- The command as its parser reads it, and what its words ask for. Source: docs/SCRIPT.md, "The program".
use Rattle.std.proofs.Common.{inl, inr}
use Rattle.std.proofs.lemmas.Bool.{cases_lt}
use Rattle.std.specs.Prelude.{◌≡◌, ◌⊎◌, ◌≤◌, ◌<◌, ◌+◌, ◌==◌, ⊤, ℕ, Bool, true, false, List, [], ◌∷◌, Option, Some, None, if◌then◌else◌, nat_lt, bytes_eq, drop, map, position, string_bytes, take}
use Rattle.std.specs.Option.{option_map}
use Rattle.clap.specs.Words.{App, IsAmong, Rule, Text, fault_of, first_value, new_rule, one_text, with_rule}
use Rattle.clap.specs.declared.builder.action.ArgAction.TheVariants.{Set}
use Rattle.clap.specs.declared.error.kind.ErrorKind.{ErrorKind}
use Rattle.clap.specs.declared.parser.matches.Found.{Found}
use Rattle.clap.specs.declared.builder.value_parser.ValueParser.{ValueParser}
use Rattle.clap.specs.declared.builder.value_parser.ValueParser.TheVariants.{NonEmptyString, Unsigned}
use Rattle.script_lang.specs.Words.{number_of, seed_of}
use Rattle.command_line.specs.Flags.{flag_rule}
use Rattle.command_line.specs.Kinds.{no_work}
use Rattle.command_line.specs.Options.{option_rule, path_named, payload_paths, value_rule, with_payloads}
use Rattle.command_line.specs.Parses.{AreParsed}
use Rattle.command_line.specs.Programs.{named_app}
use Rattle.command_line.specs.declared.NoWork.{NoWork}
use Rattle.crew.specs.declared.part.Part.{Part}
use Rattle.bench_sweep.specs.Swept.{whole}
use Rattle.bench_sweep.specs.declared.points.BenchKind.{BenchKind}
use Rattle.bench_sweep.specs.declared.points.BenchKind.TheVariants.{Cuts, Fails}
use Rattle.bench_program.specs.declared.usage.BenchOptions.{BenchOptions}
use Rattle.bench_program.specs.declared.usage.Work.{Work}
use Rattle.bench_program.specs.declared.usage.Work.TheVariants.{Report, Judge, ShowRow, Compare, Show, Shrink}
use Rattle.bench_program.specs.declared.usage.Savers.{Savers}
use Rattle.bench_program.specs.declared.usage.Savers.TheVariants.{Turns, Threads}
use lib.Chars.{codes}

-- the option with its words, one after another where it is not given
abbrev pub crew_rule : ValueParser → Rule
crew_rule crews =
    record (new_rule (codes "crew")) {
      long = Some (codes "crew");
      action = Some Set;
      value_names = 1;
      parser = Some crews;
      defaults = codes "turns" ∷ [];
    }

-- an option with a number of schedules, or of one of them
abbrev pub count_rule : Text → Rule
count_rule id = value_rule id (Unsigned 1 1000000)

-- the option with a number of threads
abbrev pub jobs_rule : Rule
jobs_rule = value_rule (codes "jobs") (Unsigned 1 64)

-- the word that names the script's file
abbrev pub script_rule : Rule
script_rule = record (new_rule (codes "SCRIPT")) { action = Some Set; parser = Some NonEmptyString }

-- the script, and who writes lanes
abbrev pub with_script : ValueParser → App → App
with_script crews app = with_rule (with_rule app script_rule) (crew_rule crews)

abbrev pub with_benches : App → App
with_benches app = with_rule (with_rule (with_rule app (flag_rule (codes "sweep"))) (flag_rule (codes "faults"))) jobs_rule

abbrev pub with_schedules : App → App
with_schedules app = with_rule (with_rule app (count_rule (codes "schedules"))) (option_rule (codes "seed"))

-- one of the runs, as a script
abbrev pub with_shown : App → App
with_shown app = with_rule (with_rule app (count_rule (codes "show"))) (count_rule (codes "shrink"))

-- which of the runs of a bench are made and written, and how
abbrev pub with_manners : App → App
with_manners app = with_rule (with_rule (with_rule app (option_rule (codes "part"))) (flag_rule (codes "quiet"))) (flag_rule (codes "tap"))

abbrev pub sbibench : ValueParser → App
sbibench crews =
    with_payloads (with_manners (with_shown (with_schedules (with_benches (with_script crews (named_app (codes "sbibench")))))))

-- the payload files, by their paths
abbrev pub payload_files : BenchOptions → List (Option (List ℕ))
payload_files options = map (option_map string_bytes) options.payloads

-- the script's file, by its path
abbrev pub script_file : BenchOptions → Option (List ℕ)
script_file options = option_map string_bytes options.script

-- the crew of a word
abbrev pub savers_of : Option (List ℕ) → Savers
savers_of None = Turns
savers_of (Some word) = if bytes_eq word (codes "threads") then Threads else Turns

-- whether the words have a flag, of which the parser keeps the word `true` or `false`
pub record IsFlag (f : Found) (id : List ℕ) (b : Bool) : Type 0 where
  pub given : one_text f id ≡ Some (codes "true") → b ≡ true
  pub left : one_text f id ≡ Some (codes "false") → b ≡ false
  pub none : one_text f id ≡ None → b ≡ false

-- the flags of a command line
pub record Flags (f : Found) : Type 0 where
  pub sweep : Bool
  pub faults : Bool
  pub quiet : Bool
  pub tap : Bool
  pub is_sweep : IsFlag f (codes "sweep") sweep
  pub is_faults : IsFlag f (codes "faults") faults
  pub is_quiet : IsFlag f (codes "quiet") quiet
  pub is_tap : IsFlag f (codes "tap") tap

-- what is to be done without schedules, by the flags of the benches and by the crew; not both benches
abbrev pub work_of_flags : Bool → Bool → Savers → Option Work
work_of_flags true true savers = None
work_of_flags true false savers = Some (Judge (whole Cuts))
work_of_flags false true savers = Some (Judge (whole Fails))
work_of_flags false false savers = Some (Report savers)

-- a number from 1 to `most`
abbrev pub number_up_to : ℕ → Option ℕ → Option ℕ
number_up_to most None = None
number_up_to most (Some n) = if nat_lt n 1 then None else (if nat_lt most n then None else Some n)

abbrev pub row_numbered : BenchKind → Option ℕ → Option Work
row_numbered bench None = None
row_numbered bench (Some r) = Some (ShowRow (record { bench = bench; number = r }))

abbrev pub row_of : List ℕ → Option Work → Option Work
row_of word (Some (Judge plan)) = row_numbered plan.bench (number_up_to 1000000 (number_of word))
row_of word work = None

-- the work of a bench, or its row of that number as a script
abbrev pub bench_or_row : Option (List ℕ) → Option Work → Option Work
bench_or_row None work = work
bench_or_row (Some word) work = row_of word work

abbrev pub show_number : ℕ → Option ℕ → Option Work
show_number seed None = None
show_number seed (Some k) = Some (Show (record { seed = seed; number = k }))

abbrev pub shrink_number : ℕ → Option ℕ → Option Work
shrink_number seed None = None
shrink_number seed (Some k) = Some (Shrink (record { seed = seed; number = k }))

-- The first `runs` schedules are compared, or the one that a word names is shown, or one is shrunk. Not both.
abbrev pub compare_or_show : ℕ → ℕ → Option (List ℕ) → Option (List ℕ) → Option Work
compare_or_show runs seed None None = Some (Compare (record { seed = seed; count = runs; part = None }))
compare_or_show runs seed (Some word) None = show_number seed (number_up_to runs (number_of word))
compare_or_show runs seed None (Some word) = shrink_number seed (number_up_to runs (number_of word))
compare_or_show runs seed (Some show) (Some shrink) = None

abbrev pub schedules_by : Option ℕ → Option ℕ → Option (List ℕ) → Option (List ℕ) → Option Work
schedules_by None seed show shrink = None
schedules_by (Some runs) None show shrink = None
schedules_by (Some runs) (Some seed) show shrink = compare_or_show runs seed show shrink

-- what is to be done with schedules, by the words of `--schedules`, `--seed`, `--show` and `--shrink`
abbrev pub schedules_named : List ℕ → Option (List ℕ) → Option (List ℕ) → Option (List ℕ) → Option Work
schedules_named runs seed show shrink = schedules_by (number_up_to 1000000 (number_of runs)) (seed_of seed) show shrink

-- no bench is asked for beside it
abbrev pub without_benches : Bool → Bool → Option Work → Option Work
without_benches false false work = work
without_benches true faults work = None
without_benches false true work = None

-- an option that goes with schedules stands alone
abbrev pub without_schedules : Option (List ℕ) → Option (List ℕ) → Option (List ℕ) → Option Work → Option Work
without_schedules None None None work = work
without_schedules (Some seed) show shrink work = None
without_schedules None (Some show) shrink work = None
without_schedules None None (Some shrink) work = None

-- what is to be done, by the flags of the benches, the words of schedules, and the crew: one work; a bench alone may have a row shown
abbrev pub work_named : Bool → Bool → Option (List ℕ) → Option (List ℕ) → Option (List ℕ) → Option (List ℕ) → Savers → Option Work
work_named sweep faults None seed show shrink savers =
    without_schedules seed None shrink (bench_or_row show (work_of_flags sweep faults savers))
work_named sweep faults (Some runs) seed show shrink savers = without_benches sweep faults (schedules_named runs seed show shrink)

abbrev pub work_without : Found → Bool → Bool → Option Work
work_without f sweep faults =
    work_named sweep faults (first_value f (codes "schedules")) (first_value f (codes "seed")) (first_value f (codes "show"))
    (first_value f (codes "shrink")) (savers_of (first_value f (codes "crew")))

-- part k of `of`, up to 4,096
abbrev pub part_if : (k of : ℕ) → (k < 1) ⊎ (1 ≤ k) → (of < k) ⊎ (k ≤ of) → (4096 < of) ⊎ (of ≤ 4096) → Option Part
part_if k of (inl none) within most = None
part_if k of (inr some) (inl beyond) most = None
part_if k of (inr some) (inr within) (inl many) = None
part_if k of (inr some) (inr within) (inr most) = Some (record { number = k; of = of; some = some; within = within; most = most })

abbrev pub part_between : Option ℕ → Option ℕ → Option Part
part_between None of = None
part_between (Some k) None = None
part_between (Some k) (Some of) = part_if k of (cases_lt k 1) (cases_lt of k) (cases_lt 4096 of)

abbrev pub part_at : List ℕ → Option ℕ → Option Part
part_at word None = None
part_at word (Some i) = part_between (number_of (take i word)) (number_of (drop (i + 1) word))

-- the part of a word: both numbers, with a `/` between them
abbrev pub part_named : List ℕ → Option Part
part_named word = part_at word (position (λ b. b == 47) word)

-- a part goes with a bench or with schedules
abbrev pub parted : Option Part → Option Work → Option Work
parted (Some part) (Some (Judge plan)) = Some (Judge (record plan { part = Some part }))
parted (Some part) (Some (Compare plan)) = Some (Compare (record plan { part = Some part }))
parted part work = None

abbrev pub with_part : Option (List ℕ) → Option Work → Option Work
with_part None work = work
with_part (Some word) work = parted (part_named word) work

-- `--quiet` goes with a bench
abbrev pub quietly : Option Work → Option Work
quietly (Some (Judge plan)) = Some (Judge (record plan { quiet = true }))
quietly work = None

abbrev pub with_quiet : Bool → Option Work → Option Work
with_quiet false work = work
with_quiet true work = quietly work

-- `--tap` goes with what counts what is wrong or differs
abbrev pub tested : Option Work → Option Work
tested (Some (Judge plan)) = Some (Judge plan)
tested (Some (Compare plan)) = Some (Compare plan)
tested work = None

abbrev pub with_tap : Bool → Option Work → Option Work
with_tap false work = work
with_tap true work = tested work

abbrev pub work_asked : (f : Found) → Flags f → Option Work
work_asked f flags =
    with_tap flags.tap (with_quiet flags.quiet (with_part (first_value f (codes "part")) (work_without f flags.sweep flags.faults)))

-- the bench of schedules runs at most so many
abbrev pub IsBounded : Work → Type 0
IsBounded (Compare plan) = plan.count ≤ 1000000
IsBounded work = ⊤

-- the options of what the parser found: they name one work
abbrev pub AreOptions : Found → BenchOptions → Type 0
AreOptions f options = (flags : Flags f) × (work_asked f flags ≡ Some options.work) × (flags.tap ≡ options.tap)
    × (payload_files options ≡ payload_paths f) × (script_file options ≡ path_named (first_value f (codes "SCRIPT")))

-- what the parser found names no one work: two, or an option without the one that it goes with, or out of its range
abbrev pub AreApart : Found → Type 0
AreApart f = (flags : Flags f) × (work_asked f flags ≡ None)

-- what the words of a command line name, as the command's parser reads them: one work
abbrev pub IsNamedBy : List (List ℕ) → BenchOptions → Type 0
IsNamedBy words options = (crews : ValueParser) × (f : Found) × AreParsed (sbibench crews) words f × AreOptions f options

-- The words name no work, for that reason: the command's parser refuses them, by an error that shows what they ask to be shown
-- or says a fault.
abbrev pub NamesNoWork : List (List ℕ) → NoWork → Type 0
NamesNoWork words why =
    (crews : ValueParser) × (kind : ErrorKind) × IsAmong kind (fault_of (sbibench crews) words) × (why ≡ no_work kind)

-- or they name no one work
abbrev pub NamesConflict : List (List ℕ) → Type 0
NamesConflict words = (crews : ValueParser) × (f : Found) × AreParsed (sbibench crews) words f × AreApart f
